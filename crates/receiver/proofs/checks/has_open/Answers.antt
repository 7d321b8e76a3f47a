-- `receiver::checks::has_open` meets its contract: the letter at hand is open, or the rest of them tells. Assumes nothing.
use Rattle.std.proofs.Common.{◌≡◌, ℕ, ◌+◌, ◌<◌, ◌≤◌, true, false, nat_eq, List, length, get_or, drop, sym, ap, ◌∙◌, add-one, arith, drop_of_length-le, drop-cons, eq-eqb}
use borrow.Author.Tests.{ne_eqb}
use Rattle.filing.specs.Tries.{open_letter}
use Rattle.receiver.specs.Checks.{has_open}
use Rattle.receiver.proofs.checks.has_open.Goals as goal

module _ (s : List ℕ) (i : ℕ) (e : has_open s ≡ has_open (drop i s)) where
  more : i < length s → nat_eq (get_or s i 0) open_letter ≡ false → has_open s ≡ has_open (drop (i + 1) s)
  unfolding has_open
  more h f = e ∙ ap has_open (drop-cons s i 0 h) ∙ rw (f, add-one i)

  stop : i < length s → nat_eq (get_or s i 0) open_letter ≡ true → true ≡ has_open s
  unfolding has_open
  stop h t = sym (e ∙ ap has_open (drop-cons s i 0 h) ∙ rw t)

  end : length s ≤ i → false ≡ has_open s
  unfolding has_open
  end h = sym (e ∙ ap has_open (drop_of_length-le s h))

pub returns-then-letters-i-eq63 : goal.returns-then-letters-i-eq63
returns-then-letters-i-eq63 c =
    stop c.args.letters.now c.loop-i.i c.loop-i.invariant.1 c.loop-i-test.true (eq-eqb _ _ c.if-letters-i-eq63.true)

pub loop-i-preserved : goal.loop-i-preserved
loop-i-preserved c =
    (omega (arith, c.loop-i-test.true), more c.args.letters.now c.loop-i.i c.loop-i.invariant.1 c.loop-i-test.true (ne_eqb _ _ c.if-letters-i-eq63.false))

pub returns : goal.returns
returns c = end c.args.letters.now c.loop-i.i c.loop-i.invariant.1 c.loop-i-test.false
