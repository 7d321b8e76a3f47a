-- The client's claims over the exported calls: a run of them is a run of the client's calls, since the numbers that a call leaves are read as the
-- state that it left. Assumes nothing.
use Prim.Native.Nat.{ℕ}
use mathlib.Core.List.{List, [], ◌∷◌}
use Rattle.client_model.specs.Step.{Stores, stepped}
use Rattle.client_model.specs.ContractClaims.{Ran, Accepted}
use Rattle.client_model.proofs.Contracts.{contracts_refuse, contracts_send}
use Rattle.client_c.specs.Words.{settings_in, client_of, result_of}
use Rattle.client_c.specs.Theorem.{Exported, performed_in, RanOn, AcceptedOn, AcceptsSettings, ExportsRefuse, ExportsSend}
use Rattle.client_c.proofs.Starting.{accepted}

ran : (v : List ℕ) (t : Stores) (xs : List Exported) → RanOn v t xs → Ran (client_of v) t (performed_in xs)
unfolding result_of
ran v t [] h = tt
ran v t (x ∷ xs) h = (h.0, ran x.words x.stores xs h.1)

accepted_on : (w : List ℕ) (s : Stores) (v : List ℕ) (t : Stores) → AcceptedOn w s v t → Accepted (settings_in w) s (result_of v) t
accepted_on w s v t a = record { says = (accepted w s (stepped (result_of v) t) a.says a.accepted).starts; accepted = a.accepted }

pub accepts-settings : AcceptsSettings
accepts-settings w s v t a = (accepted w s (stepped (result_of v) t) a.says a.accepted).fits

pub exports_refuse : ExportsRefuse
unfolding result_of
exports_refuse w s v t xs a h =
    contracts_refuse (settings_in w) s t (result_of v) (performed_in xs) (accepted_on w s v t a) (ran v t xs h)

pub exports_send : ExportsSend
unfolding result_of
exports_send w s v t xs a h o =
    contracts_send (settings_in w) s t (result_of v) (performed_in xs) (accepted_on w s v t a) (ran v t xs h) o
