-- `packet::auth::options` meets its contract: the place that was found lies within the payload. Assumes nothing.
use borrow.Author.Tests.{lt-ltb, le-ltb}
use native.Mathlib.Omega.{arith}
use mathlib.Core.Path.{sym, subst, ◌∙◌}
use Rattle.base.specs.Place.{Place}
use Rattle.packet.proofs.AuthLaws.{within}
use Rattle.packet.proofs.TagWrites.{Within}
use Rattle.packet.proofs.auth.options.Goals as goal

pub returns-in_default : goal.returns-in_default
returns-in_default c = rw (sym c.last_value.ensures ∙ c.in_default.is)

pub returns-then-value : goal.returns-then-value
returns-then-value c =
    rw (sym c.last_value.ensures ∙ c.in-Some.is, le-ltb _ _ c.if-value.true)

pub bounds-v-value : goal.bounds-v-value
bounds-v-value c =
    let v = c.args.v.now in
    let w = subst (λ (f : Place). Within v f) (sym c.last_value.ensures ∙ c.in-Some.is) (within v 1) in
    omega arith

pub returns : goal.returns
returns c =
    rw (sym c.last_value.ensures ∙ c.in-Some.is, lt-ltb _ _ c.if-value.false)
