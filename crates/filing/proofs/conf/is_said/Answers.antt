-- `filing::conf::is_said` meets its contract: what is said is compared. Assumes nothing.
use mathlib.Core.Path.{ap, ◌∙◌}
use mathlib.Core.List.{List}
use Prim.Native.Nat.{ℕ}
use Rattle.packet.specs.Auth.{same}
use Rattle.packet.proofs.SameBytes.{same_is}
use Rattle.filing.proofs.conf.is_said.Goals as goal

pub returns : goal.returns
returns c =
    let a = c.args in
    same_is _ a.value.now c.same.result c.same.ensures.0 c.same.ensures.1 ∙ ap (λ (l : List ℕ). same l a.value.now)
    c.said.ensures
