-- The records theorem from the contract of a start: a start that is accepted is one of which `RecordsTheorem` speaks.
-- Assumes nothing.
use mathlib.Core.Path.{◌≡◌, refl, sym, ap, ◌∙◌, subst}
use mathlib.Core.List.{List}
use mathlib.Core.Bool.{Bool, true, false, ◌||◌}
use Prim.Native.Nat.{ℕ}
use native.Mathlib.Omega.{arith}
use Rattle.model.specs.Step.{Stores, Stepped, called}
use Rattle.model.specs.Guard.{short, short_tables, long_realm}
use Rattle.model.specs.Calls.{start_step}
use Rattle.model.specs.Runs.{state_of, Started}
use Rattle.model.specs.ContractClaims.{state, Accepted, ContractsUphold}
use Rattle.server.specs.declared.Settings.{Settings}
use Rattle.server.specs.declared.CallResult.{CallResult}
use Rattle.server.specs.declared.Outcome.TheVariants as outcome
use Rattle.model.proofs.Fit.{or_left, or_right}
use Rattle.model.proofs.Records.{records_theorem}

-- an accepted start is one of which the records theorem speaks
start-accepted : (st : Settings) (l : List ℕ) (s : Stores) (u : List ℕ) → (start_step st l s u).took.outcome ≡ outcome.WantsBytes
    → Started st (state_of (called (start_step st l s u) u))
unfolding start_step
start-accepted st l s u = go (short_tables u || short st.max_object_size s) (long_realm st l) refl refl
  where
    go : (a b : Bool) → (short_tables u || short st.max_object_size s) ≡ a → long_realm st l ≡ b
        → (start_step st l s u).took.outcome ≡ outcome.WantsBytes → Started st (state_of (called (start_step st l s u) u))
    go true b h k e = let z : ◌≡◌ {A = ℕ} 0 1 = (let w = simp h at e in cc) in absurd (omega arith)
    go false true h k e = let z : ◌≡◌ {A = ℕ} 0 1 = (let w = simp (h, k) at e in cc) in absurd (omega arith)
    go false false h k e = simp (h, k) (record { fresh = refl; tables = or_left _ _ h; room = or_right (short_tables u) _ h })

pub accepted-started : (st : Settings) (l : List ℕ) (s t : Stores) (u : List ℕ) (r : CallResult) → Accepted st l s r t u
    → Started st (state r t u)
accepted-started st l s t u r a =
    subst (λ (m : Stepped). Started st (state_of (called m u))) (sym a.says)
    (start-accepted st l s u (ap (λ (m : Stepped). m.took.outcome) (sym a.says) ∙ a.accepted))

pub contracts_uphold : ContractsUphold
contracts_uphold st l s t u r xs a h = records_theorem st (state r t u) (accepted-started st l s t u r a) xs h
