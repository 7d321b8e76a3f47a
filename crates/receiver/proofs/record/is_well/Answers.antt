-- `receiver::record::is_well` meets its contract: the bits of 0 are those of no other number. Assumes nothing.
use Rattle.std.proofs.Common.{◌≡◌, true, false, ℤ, pos, negsuc, sym, refl, ap, ◌∙◌, w32, SFits, to_z, of_z}
use borrow.Author.Tests.{ne_eqb}
use mir.ValLaws.{to_z-of_z}
use Rattle.files.specs.Errors.{is_error}
use Rattle.receiver.proofs.record.is_well.Goals as goal

none : (z : ℤ) → SFits w32 z → of_z w32 z ≡ 0 → true ≡ is_error z 0
none z f e = ap (λ (x : ℤ). is_error x 0) (sym (sym (to_z-of_z w32 z f) ∙ ap (to_z w32) e))

some : (z : ℤ) → (of_z w32 z ≡ 0 → ⊥) → false ≡ is_error z 0
some (pos n) h = sym (ne_eqb n 0 h)
some (negsuc n) h = refl

pub returns-in-0 : goal.returns-in-0
returns-in-0 c = none c.args.error c.ranges.error c.in-0.in-0-own.keys1

pub returns-in_default : goal.returns-in_default
returns-in_default c = some c.args.error c.in_default.in_default-own.rest.1
