-- `text::is_whole` meets its contract: a piece that is kept leaves the rest to decide, by TextWhole. Assumes nothing.
use mathlib.Core.Path.{sym, ◌∙◌}
use native.Mathlib.Omega.{arith}
use borrow.Author.Tests.{not-true, not-false}
use Rattle.text.proofs.TextWhole.{whole-start, whole-kept, whole_replaced, whole-end}
use Rattle.text.proofs.is_whole.Goals as goal

pub loop-p-init : goal.loop-p-init
loop-p-init c = let x = c.args in (omega arith, whole-start x.form x.s.now)

pub returns-then-not-p : goal.returns-then-not-p
returns-then-not-p c =
    let x = c.args in
    let p = c.in-Some.p in
    sym (c.loop-p.invariant.1 ∙ whole_replaced x.form x.s.now c.loop-p.at p c.in-Some.ensures (not-true p.kept c.if-not-p.true))

pub loop-p-preserved : goal.loop-p-preserved
loop-p-preserved c =
    let x = c.args in
    let p = c.in-Some.p in
    (c.in-Some.ensures.within, c.loop-p.invariant.1 ∙ whole-kept x.form x.s.now c.loop-p.at p c.in-Some.ensures (not-false p.kept c.if-not-p.false))

pub returns : goal.returns
returns c =
    let x = c.args in
    sym (c.loop-p.invariant.1 ∙ whole-end x.form x.s.now c.loop-p.at c.in_default.ensures)
