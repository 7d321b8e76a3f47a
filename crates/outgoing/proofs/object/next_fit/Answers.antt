-- `outgoing::object::next_fit` meets its contract. A header that stands there ends after it starts, and the tests are those of `fit_of_of`.
-- Assumes nothing.
use Rattle.std.proofs.Common.{◌≡◌, ℕ, arith, refl, sym}
use borrow.Author.Tests.{lt-ltb, le-ltb}
use Rattle.std.specs.Prelude.{Err}
use Rattle.packet.specs.declared.header.HeaderAt.{HeaderAt}
use Rattle.packet.specs.declared.header.HeaderAt.TheVariants.{At, Unreadable, End}
use Rattle.packet.specs.declared.header.HeaderEncoding.{HeaderEncoding}
use Rattle.packet.proofs.HeaderBytes.{header_at_within}
use Rattle.outgoing.specs.declared.object.Stop.TheVariants.{Empty}
use Rattle.outgoing.specs.Steps.{fit_of_of}
use Rattle.outgoing.proofs.object.next_fit.Goals as goal

pub overflow_sub-n : goal.overflow_sub-n
overflow_sub-n c = omega (arith, (header_at_within _ _ _ _ _ _ (sym c.in-At.ensures)).0)

pub returns-then-capacity-n : goal.returns-then-capacity-n
unfolding fit_of_of
returns-then-capacity-n c = rw (sym c.in-At.ensures, lt-ltb _ _ c.if-capacity-n.true)

pub returns-then-capacity-at : goal.returns-then-capacity-at
unfolding fit_of_of
returns-then-capacity-at c = rw (sym c.in-At.ensures, le-ltb _ _ c.if-capacity-n.false, lt-ltb _ _ c.if-capacity-at.true)

pub returns : goal.returns
unfolding fit_of_of
returns c = rw (sym c.in-At.ensures, le-ltb _ _ c.if-capacity-n.false, le-ltb _ _ c.if-capacity-at.false)

-- where no header stands, none is left
none-left : (a : HeaderAt) (capacity sent at : ℕ) → ((id : ℕ) (e : HeaderEncoding) (from to : ℕ) → a ≡ At id e from to → ⊥)
    → Err Empty ≡ fit_of_of a capacity sent at
unfolding fit_of_of
none-left End capacity sent at n = refl
none-left Unreadable capacity sent at n = refl
none-left (At id x from to) capacity sent at n = absurd (n id x from to refl)

pub returns-in_default : goal.returns-in_default
returns-in_default c = rw (sym c.step.ensures) (none-left c.step.result c.args.capacity c.args.sent c.args.at c.in_default.not-At)
