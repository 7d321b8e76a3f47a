-- `filing::line::value_of` meets its contract. The invariant: the value is that of the lines which are left. Assumes nothing.
use mathlib.Core.Path.{◌≡◌, refl, sym, ap, ◌∙◌}
use Prim.Native.Nat.{◌+◌, ◌-◌, ◌≤◌}
use native.Mathlib.Omega.{arith}
use lib.ListN.{length, take, drop}
use borrow.Author.Rules.{rules}
use Rattle.filing.specs.Lines.{under, lines_of, value_for}
use Rattle.filing.proofs.Lined.{LineAt, line_found, part_is, under-size, value-here, value-later, value_none}
use Rattle.filing.proofs.Placed.{take_short}
use Rattle.filing.proofs.line.value_of.Statement.{statement}
use Rattle.filing.proofs.line.value_of.Tie as tie

abbrev invariant-loop : tie.invariant-loop-at
invariant-loop text separator word at₀ at =
    (at ≤ length text + 1) × (value_for separator word (lines_of text) ≡ value_for separator word (lines_of (drop at text)))

abbrev decreases-loop : tie.decreases-loop-at
decreases-loop text separator word at₀ at = length text - at

loop-holds : tie.Need-loop-at-init invariant-loop decreases-loop
loop-holds c = (omega arith, refl)

sub-find : tie.Need-slice_bounds-find-count invariant-loop decreases-loop
sub-find c = search rules

part-find-start : tie.Need-slice_bounds-find-start invariant-loop decreases-loop
part-find-start c = search rules

part-find-end : tie.Need-slice_bounds-find-end invariant-loop decreases-loop
part-find-end c = search rules

find-requires : tie.Need-find-n-requires invariant-loop decreases-loop
find-requires c κs = search rules

-- the line that begins here
line : (c : tie.After-find-n invariant-loop decreases-loop)
    → LineAt c.args.text.now c.loop-at.at c.find-n.result
line c = line_found _ _ _ c.loop-at-test.true c.find-n.ensures.0

add-end : tie.Need-overflow_add-end invariant-loop decreases-loop
add-end c = omega (arith, (line c).fits)

sub-is-under : tie.Need-slice_bounds-is_under-count invariant-loop decreases-loop
sub-is-under c = omega (arith, (line c).fits)

part-is-under-start : tie.Need-slice_bounds-is_under-start invariant-loop decreases-loop
part-is-under-start c = omega (arith, (line c).fits)

part-is-under-end : tie.Need-slice_bounds-is_under-end invariant-loop decreases-loop
part-is-under-end c = omega (arith, (line c).fits)

is-under-requires : tie.Need-is_under-requires invariant-loop decreases-loop
is-under-requires c κs = search rules

-- whether it is under the word
told : (c : tie.After-is_under invariant-loop decreases-loop)
    → let f = c.before.before in
    let l = f.before.before.before in
    let a = l.args in
    c.is_under.result ≡ under a.separator a.word.now (take f.find-n.result (drop l.loop-at.at a.text.now))
told c =
    let f = c.before.before in
    let l = f.before.before.before in
    let a = l.args in
    c.is_under.ensures ∙ ap (under a.separator a.word.now) (part_is a.text.now l.loop-at.at f.find-n.result)

-- a word is shorter than its line
short : (c : tie.Then-is_under invariant-loop decreases-loop)
    → let f = c.before.before.before in
    let l = f.before.before.before in
    let a = l.args in
    length a.word.now + 1 ≤ f.find-n.result
short c =
    let f = c.before.before.before in
    let l = f.before.before.before in
    let a = l.args in
    omega (
      arith,
      under-size a.separator a.word.now (take f.find-n.result (drop l.loop-at.at a.text.now)) (sym (told c.before)
          ∙ c.if-is_under.true),
      take_short f.find-n.result (drop l.loop-at.at a.text.now),
    )

add-t17 : tie.Need-overflow_add-result invariant-loop decreases-loop
add-t17 c = omega (arith, short c, (line c.before.before.before).fits)

add-t18 : tie.Need-overflow_add-result-then-is_under invariant-loop decreases-loop
add-t18 c = omega (arith, short c, (line c.before.before.before).fits)

returns : tie.Need-returns-then-is_under invariant-loop decreases-loop
returns c =
    let f = c.before.before.before in
    let l = f.before.before.before in
    let a = l.args in (
      value-here a.text.now a.word.now a.separator l.loop-at.at f.find-n.result (line f) (sym (told c.before) ∙ c.if-is_under.true)
          ∙ sym l.loop-at.invariant.1,
      (omega (arith, short c), (line f).fits),
    )

add_at : tie.Need-overflow_add-at invariant-loop decreases-loop
add_at c = omega (arith, (line c.before.before.before).fits)

loop-less : tie.Need-loop-at-smaller invariant-loop decreases-loop
loop-less c = omega (arith, (line c.before.before.before).fits)

loop-again : tie.Need-loop-at-preserved invariant-loop decreases-loop
loop-again c =
    let f = c.before.before.before in
    let l = f.before.before.before in
    let a = l.args in (
      omega (arith, (line f).fits),
      l.loop-at.invariant.1
          ∙ value-later a.text.now a.word.now a.separator l.loop-at.at f.find-n.result (line f) (sym (told c.before) ∙ c.if-is_under.false),
    )

returns-2 : tie.Need-returns invariant-loop decreases-loop
returns-2 c =
    let l = c.before in
    let a = l.args in
    (value_none a.text.now a.word.now a.separator l.loop-at.at c.loop-at-test.false ∙ sym l.loop-at.invariant.1, tt)

pub value_of_spec : {M : Type 1} → statement M
value_of_spec =
    tie.close
    (tie.spec
    invariant-loop
    decreases-loop
    loop-holds
    sub-find
    part-find-start
    part-find-end
    find-requires
    add-end
    sub-is-under
    part-is-under-start
    part-is-under-end
    is-under-requires
    add-t17
    add-t18
    returns
    add_at
    loop-less
    loop-again
    returns-2)
