-- A record that is filed had every step of its plan, and each went well. Assumes nothing.
use mathlib.Core.Path.{◌≡◌, refl, ap, ◌∙◌}
use mathlib.Core.Bool.{Bool, true, false, false≢true}
use mathlib.Core.List.{List, [], ◌∷◌}
use native.Mathlib.Omega.{arith}
use Prim.Native.Nat.{ℕ, suc, ◌-◌}
use Rattle.filing.specs.declared.plan.Step.{Step}
use Rattle.filing.specs.declared.plan.Step.TheVariants.{MakePart}
use Rattle.filing.specs.Plan.{plan_for, steps_from, runs}
use Rattle.filing.specs.Claims.{PlanByNext, FiledWhole, FiledWell, SuccessFiled, Well}

nine_steps : (body : Bool) (n : ℕ) → steps_from (suc (suc (suc (suc (suc (suc (suc (suc (suc n))))))))) MakePart body ≡ plan_for body
unfolding steps_from
nine_steps true n = refl
nine_steps false n = refl

pub plan_by_next : PlanByNext
plan_by_next body n h =
    let e : n ≡ suc (suc (suc (suc (suc (suc (suc (suc (suc (n - 9))))))))) = omega arith in
    ap (λ (k : ℕ). steps_from k MakePart body) e ∙ nine_steps body (n - 9)

-- of any plan
all-steps : (l : List Step) (os : List Bool) → (runs l os).filed ≡ true → (runs l os).steps ≡ l
unfolding runs
all-steps [] os e = refl
all-steps (s ∷ l) [] e = absurd (false≢true e)
all-steps (s ∷ l) (false ∷ os) e = absurd (false≢true e)
all-steps (s ∷ l) (true ∷ os) e = ap (λ (x : List Step). s ∷ x) (all-steps l os e)

all-well : (l : List Step) (os : List Bool) → (runs l os).filed ≡ true → Well l os
unfolding runs
all-well [] os e = tt
all-well (s ∷ l) [] e = absurd (false≢true e)
all-well (s ∷ l) (false ∷ os) e = absurd (false≢true e)
all-well (s ∷ l) (true ∷ os) e = (refl, all-well l os e)

pub filed-whole : FiledWhole
filed-whole body os e = all-steps (plan_for body) os e

pub filed-well : FiledWell
filed-well body os e = all-well (plan_for body) os e

pub success-filed : SuccessFiled
success-filed true full e = refl
success-filed false true e = absurd (omega (arith, e))
success-filed false false e = absurd (omega (arith, e))
