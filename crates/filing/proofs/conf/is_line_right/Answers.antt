-- `filing::conf::is_line_right` meets its contract, test by test. Assumes nothing.
use native.Mathlib.Omega.{arith}
use mathlib.Core.Path.{◌≡◌, refl, sym, ◌∙◌}
use mathlib.Core.Bool.{true, false}
use lib.Dec.{ltb}
use lib.ListN.{length, get_or}
use borrow.Author.Tests.{eq-eqb, ne_eqb, lt-ltb, le-ltb}
use Rattle.filing.specs.Lines.{up_to}
use Rattle.filing.specs.Conf.{is_choice, right_line}
use Rattle.filing.proofs.Configured.{setting_right}
use Rattle.filing.proofs.conf.is_line_right.Goals as goal

pub returns-then-line-eq0 : goal.returns-then-line-eq0
unfolding right_line
returns-then-line-eq0 c = simp (eq-eqb _ _ c.if-line-eq0.true)

pub returns-then-line-eq35 : goal.returns-then-line-eq35
unfolding right_line
returns-then-line-eq35 c = simp (ne_eqb _ _ c.if-line-eq0.false, eq-eqb _ _ c.if-line-eq35.true)

pub returns-then-is_choice : goal.returns-then-is_choice
unfolding right_line
returns-then-is_choice c =
    simp (ne_eqb _ _ c.if-line-eq0.false, ne_eqb _ _ c.if-line-eq35.false, sym c.is_choice.ensures ∙ c.if-is_choice.true)

pub returns-then-n-line : goal.returns-then-n-line
unfolding right_line
returns-then-n-line c =
    let l = c.args.line.now in
    let e : is_choice l ≡ false = sym c.is_choice.ensures ∙ c.if-is_choice.false in
    let g = c.find-n.ensures.value in
    let h : ltb (length (up_to 0x20 l)) (length l) ≡ true = lt-ltb (length (up_to 0x20 l)) (length l) (omega
    (arith, g, c.if-n-line.true)) in
    rw (ne_eqb (length l) 0 c.if-line-eq0.false, ne_eqb (get_or l 0 0) 0x23 c.if-line-eq35.false, e, h)
    (setting_right l c.find-n.result c.is_value_right.result g c.if-n-line.true c.is_value_right.ensures)

pub returns : goal.returns
unfolding right_line
returns c =
    let l = c.args.line.now in
    let e : is_choice l ≡ false = sym c.is_choice.ensures ∙ c.if-is_choice.false in
    let g = c.find-n.ensures.value in
    let h : ltb (length (up_to 0x20 l)) (length l) ≡ false = le-ltb (length (up_to 0x20 l)) (length l) (omega (arith, g, c.if-n-line.false)) in
    rw (ne_eqb (length l) 0 c.if-line-eq0.false, ne_eqb (get_or l 0 0) 0x23 c.if-line-eq35.false, e, h) refl
