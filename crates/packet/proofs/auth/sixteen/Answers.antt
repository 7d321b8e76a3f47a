-- `packet::auth::sixteen` meets its contract: the place that was found lies within the payload. Assumes nothing.
use borrow.Author.Tests.{eq-eqb, ne_eqb}
use native.Mathlib.Omega.{arith}
use mathlib.Core.Path.{◌≡◌, sym, subst, ◌∙◌}
use mathlib.Core.List.{List}
use Prim.Native.Nat.{ℕ}
use Rattle.base.specs.Place.{Place}
use Rattle.packet.specs.Tags.{last_value}
use Rattle.packet.proofs.AuthLaws.{within}
use Rattle.packet.proofs.TagWrites.{Within}
use Rattle.packet.proofs.auth.sixteen.Goals as goal

-- the place
here : (v : List ℕ) (tag : ℕ) (f : Place) → last_value v tag ≡ f → Within v f
here v tag f e = subst (λ (f : Place). Within v f) e (within v tag)

pub returns-in_default : goal.returns-in_default
returns-in_default c = rw (sym c.last_value.ensures ∙ c.in_default.is)

pub size-requires : goal.size-requires
size-requires c = (here c.args.v.now c.args.tag _ (sym c.last_value.ensures ∙ c.in-Some.is)).0

pub returns-then-size-ne16 : goal.returns-then-size-ne16
returns-then-size-ne16 c = rw (sym c.last_value.ensures ∙ c.in-Some.is, ← c.size.ensures, ne_eqb _ _ c.if-size-ne16.true)

pub octets16_at-requires : goal.octets16_at-requires
octets16_at-requires c = let w = here c.args.v.now c.args.tag _ (sym c.last_value.ensures ∙ c.in-Some.is) in omega arith

pub returns : goal.returns
returns c = rw (sym c.last_value.ensures ∙ c.in-Some.is, ← c.size.ensures, eq-eqb _ _ c.if-size-ne16.false, c.octets16_at.ensures)
