-- The records theorem over the exported calls: what one call leaves in the numbers is the state that the next one reads, so a run of exported
-- calls is a run of the engine's. Assumes nothing.
use mathlib.Core.Path.{◌≡◌, refl, sym, subst}
use mathlib.Core.List.{List, [], ◌∷◌, map}
use Rattle.model.specs.Runs.{State, next, Ran}
use Rattle.model.specs.ContractClaims.{state}
use Rattle.model.specs.Theorem.{Upholds}
use Rattle.model.proofs.Contracts.{contracts_uphold}
use Rattle.engine_c.specs.Words.{settings_in, result_of}
use Rattle.engine_c.specs.Theorem.{Kept, state_in, Made, performed_by, kept_after, RanOn, ExportsUphold}

-- the state that a call leaves is the one that is read from the numbers
handed_on : (x : Made) → state_in (kept_after x) ≡ next (performed_by x)
unfolding result_of
handed_on x = refl

ran : (k : Kept) (xs : List Made) → RanOn k xs → Ran (state_in k) (map performed_by xs)
ran k [] h = tt
ran k (x ∷ xs) h =
    (h.0, (h.1.0, subst (λ (s : State). Ran s (map performed_by xs)) (handed_on x) (ran (kept_after x) xs h.1.1)))

-- the same of the start
started_on : (k : Kept) → state_in k ≡ state (result_of k.words) k.stores k.tables
unfolding result_of
started_on k = refl

pub exports_uphold : ExportsUphold
exports_uphold w l s k xs a h =
    subst (λ (z : State). Upholds (settings_in w) z (map performed_by xs)) (sym (started_on k))
    (contracts_uphold (settings_in w) l s k.stores k.tables (result_of k.words) (map performed_by xs)
    (record { says = a.says; accepted = a.accepted })
    (subst (λ (z : State). Ran z (map performed_by xs)) (started_on k) (ran k xs h)))
