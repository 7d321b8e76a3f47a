-- `filing::conf::first_wrong` meets its contract. The invariant: the lines so far are right. Assumes nothing.
use native.Mathlib.Omega.{arith}
use mathlib.Core.Path.{◌≡◌, refl, sym, ap, ◌∙◌}
use Prim.Native.Nat.{◌+◌, ◌-◌, ◌≤◌}
use lib.ListN.{length, take, drop}
use Rattle.filing.specs.Lines.{lines_of}
use Rattle.filing.specs.Conf.{right_line, wrong_from}
use Rattle.filing.proofs.Lined.{LineAt, line_found, part_is}
use Rattle.filing.proofs.Configured.{wrong-later, wrong-here, wrong-none}
use borrow.Author.Rules.{rules}
use Rattle.filing.proofs.conf.first_wrong.Statement.{statement}
use Rattle.filing.proofs.conf.first_wrong.Tie as tie

abbrev invariant-loop : tie.invariant-loop-at
invariant-loop text at₀ number₀ at number = (at ≤ length text + 1) × (number ≤ at + 1) × (wrong_from 1 (lines_of text) ≡ wrong_from number (lines_of
    (drop at text)))

abbrev decreases-loop : tie.decreases-loop-at
decreases-loop text at₀ number₀ at number = length text - at

loop-holds : tie.Need-loop-at-init invariant-loop decreases-loop
loop-holds c = (omega arith, omega arith, refl)

sub-find : tie.Need-slice_bounds-find-count invariant-loop decreases-loop
sub-find c = search rules

part-find-start : tie.Need-slice_bounds-find-start invariant-loop decreases-loop
part-find-start c = search rules

part-find-end : tie.Need-slice_bounds-find-end invariant-loop decreases-loop
part-find-end c = search rules

find-requires : tie.Need-find-n-requires invariant-loop decreases-loop
find-requires c κs = search rules

-- the line that begins here
line : (c : tie.After-find-n invariant-loop decreases-loop)
    → LineAt c.args.text.now c.loop-at.at c.find-n.result
line c = line_found _ _ _ c.loop-at-test.true c.find-n.ensures.0

add-end : tie.Need-overflow_add-end invariant-loop decreases-loop
add-end c = omega (arith, (line c).fits)

sub-is-line-right : tie.Need-slice_bounds-is_line_right-count invariant-loop decreases-loop
sub-is-line-right c = omega (arith, (line c).fits)

part-is-line-right-start : tie.Need-slice_bounds-is_line_right-start invariant-loop decreases-loop
part-is-line-right-start c = omega (arith, (line c).fits)

part-is-line-right-end : tie.Need-slice_bounds-is_line_right-end invariant-loop decreases-loop
part-is-line-right-end c = omega (arith, (line c).fits)

is-line-right-requires : tie.Need-is_line_right-requires invariant-loop decreases-loop
is-line-right-requires c κs = search rules

-- whether it is right
told : (c : tie.After-is_line_right invariant-loop decreases-loop)
    → let f = c.before.before in
    let l = f.before.before.before in
    c.is_line_right.result ≡ right_line (take f.find-n.result (drop l.loop-at.at l.args.text.now))
told c =
    let f = c.before.before in
    let l = f.before.before.before in
    c.is_line_right.ensures ∙ ap right_line (part_is l.args.text.now l.loop-at.at f.find-n.result)

add_at : tie.Need-overflow_add-at invariant-loop decreases-loop
add_at c = omega (arith, (line c.before.before.before).fits)

add-number : tie.Need-overflow_add-number invariant-loop decreases-loop
add-number c = omega (arith, (line c.before.before.before).fits)

loop-less : tie.Need-loop-at-smaller invariant-loop decreases-loop
loop-less c = omega (arith, (line c.before.before.before).fits)

loop-again : tie.Need-loop-at-preserved invariant-loop decreases-loop
loop-again c =
    let f = c.before.before.before in
    let l = f.before.before.before in (
      omega (arith, (line f).fits),
      omega (arith, (line f).fits),
      l.loop-at.invariant.2 ∙ wrong-later l.args.text.now l.loop-at.at f.find-n.result l.loop-at.number (line f) (sym (told
          c.before) ∙ c.if-is_line_right.true),
    )

returns : tie.Need-returns-else-is_line_right invariant-loop decreases-loop
returns c =
    let f = c.before.before.before in
    let l = f.before.before.before in
    wrong-here l.args.text.now l.loop-at.at f.find-n.result l.loop-at.number (line f) (sym (told c.before)
    ∙ c.if-is_line_right.false) ∙ sym l.loop-at.invariant.2

returns-2 : tie.Need-returns invariant-loop decreases-loop
returns-2 c =
    let l = c.before in
    wrong-none l.args.text.now l.loop-at.at l.loop-at.number c.loop-at-test.false ∙ sym l.loop-at.invariant.2

pub first_wrong_spec : {M : Type 1} → statement M
first_wrong_spec =
    tie.close
    (tie.spec
    invariant-loop
    decreases-loop
    loop-holds
    sub-find
    part-find-start
    part-find-end
    find-requires
    add-end
    sub-is-line-right
    part-is-line-right-start
    part-is-line-right-end
    is-line-right-requires
    add_at
    add-number
    loop-less
    loop-again
    returns
    returns-2)
