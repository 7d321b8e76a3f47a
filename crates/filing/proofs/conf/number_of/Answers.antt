-- `filing::conf::number_of` meets its contract. The invariant: the digits that are left go behind the number so far. Assumes nothing.
use native.Mathlib.Omega.{arith}
use mathlib.Core.Path.{refl, sym, ap, ◌∙◌}
use Prim.Native.Nat.{ℕ, ◌+◌}
use lib.ListN.{length, drop}
use borrow.Author.Tests.{eq-eqb, ne_eqb}
use Rattle.filing.specs.Conf.{digits_from, number_of}
use Rattle.filing.proofs.Configured.{digits_next, digits_end}
use Rattle.filing.proofs.conf.number_of.Goals as goal

pub returns-then-v-eq0 : goal.returns-then-v-eq0
unfolding number_of
returns-then-v-eq0 c = simp (eq-eqb _ _ c.if-v-eq0.true)

pub loop-i-init : goal.loop-i-init
unfolding number_of
loop-i-init c =
    let v = c.args.v.now in
    (omega arith, rw (ne_eqb (length v) 0 c.if-v-eq0.false) refl)

pub loop-i-preserved : goal.loop-i-preserved
loop-i-preserved c =
    let t = c in (
      omega arith,
      c.loop-i.invariant.1 ∙ digits_next c.args.v.now c.loop-i.n c.loop-i.i c.loop-i-test.true
          ∙ ap (λ (k : ℕ). digits_from k (drop (c.loop-i.i + 1) c.args.v.now)) (sym c.next_number-n.ensures.value),
    )

pub returns : goal.returns
returns c =
    sym (c.loop-i.invariant.1 ∙ digits_end c.args.v.now c.loop-i.n c.loop-i.i c.loop-i-test.false)
