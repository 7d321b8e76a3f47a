-- `audit::compare::damaged_what` meets its contract: its tests are those of the definition. Assumes nothing.
use Rattle.std.proofs.Common.{◌≡◌, ℕ, Ok, Err, sym, refl, ap, ◌∙◌, arith, eq-eqb, ne_eqb}
use Rattle.audit.specs.Compare.{damaged_what}
use Rattle.archive.specs.Reading.{body_number, error_number, fault_in}
use Rattle.archive.specs.declared.block.BodyError.{BodyError}
use Rattle.archive.specs.declared.block.BodyError.TheVariants.{Short, Damaged, Misplaced, Malformed}
use Rattle.audit.proofs.compare.damaged_what.Goals as goal

-- a refusal has a number
numbered : (e : BodyError) → error_number e ≡ 0 → ⊥
numbered Short h = omega (arith, h)
numbered Damaged h = omega (arith, h)
numbered Misplaced h = omega (arith, h)
numbered Malformed h = omega (arith, h)

pub returns-in-Ok : goal.returns-in-Ok
unfolding damaged_what
returns-in-Ok c =
    let e : fault_in c.args.blocks.now ≡ 0 = sym c.judge-j.ensures.fault ∙ ap body_number c.in-Ok.is in
    rw (eq-eqb (fault_in c.args.blocks.now) 0 e) refl

pub returns-in-Err : goal.returns-in-Err
unfolding damaged_what
returns-in-Err c =
    let e : fault_in c.args.blocks.now ≡ error_number c.in-Err.error = sym c.judge-j.ensures.fault ∙ ap body_number c.in-Err.is in
    rw (
      ne_eqb (fault_in c.args.blocks.now) 0 (λ h. numbered c.in-Err.error (sym e ∙ h)),
      e,
      ← c.number.ensures,
      ← c.judge-j.ensures.sound,
    ) c.fault_what.ensures
