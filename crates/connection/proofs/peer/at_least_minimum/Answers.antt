-- `connection::peer::at_least_minimum` meets its contract: the larger of two numbers is the second if the first is less. Assumes nothing.
use Rattle.std.proofs.Common.{◌≡◌, ℕ, Bool, true, false, refl, ◌∙◌, arith, ltb, ltb-true, ltb-false}
use Rattle.std.specs.Prelude.{max}
use Rattle.base.specs.Pick.{pick}
use Rattle.connection.proofs.peer.at_least_minimum.Goals as goal

larger : (n m : ℕ) (b : Bool) → ltb n m ≡ b → max n m ≡ pick b m n
larger n m true e = omega (arith, ltb-true n m e)
larger n m false e = omega (arith, ltb-false n m e)

pub returns : goal.returns
returns c = c.max.ensures ∙ larger c.args.n 255 (ltb c.args.n 255) refl
