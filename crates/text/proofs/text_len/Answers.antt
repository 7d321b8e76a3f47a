-- `text::text_len` meets its contract: a piece adds the bytes that it takes, by TextRoom. Assumes nothing.
use mathlib.Core.Path.{ap, ◌∙◌}
use Prim.Native.Nat.{◌+◌}
use native.Mathlib.Omega.{arith}
use lib.ListN.{length, length-append}
use Rattle.text.specs.Text.{encoded}
use Rattle.text.proofs.TextRoom.{rest, rest-start, rest-one, rest_end}
use Rattle.text.proofs.text_len.Goals as goal

pub loop-p-init : goal.loop-p-init
loop-p-init c = let x = c.args in (omega arith, omega arith, omega (arith, ap length (rest-start x.from x.to x.s.now)))

pub loop-p-preserved : goal.loop-p-preserved
loop-p-preserved c =
    let x = c.args in
    let at = c.loop-p.at in
    let p = c.in-Some.p in
    let adds = ap length (rest-one x.from x.to x.s.now at p c.in-Some.ensures)
    ∙ length-append (encoded x.to p.code) (rest x.from x.to x.s.now (at + p.size)) in
    (c.in-Some.ensures.within, omega (arith, c.saturating_add-n.ensures), omega (arith, adds, c.width.ensures.0, c.saturating_add-n.ensures))

pub returns : goal.returns
returns c =
    let x = c.args in
    omega (arith, ap length (rest_end x.from x.to x.s.now c.loop-p.at c.in_default.ensures))
