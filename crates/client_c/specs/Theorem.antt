-- The client's claims over the exported calls: a run of which is known only what their contracts say, from the start on, the numbers and the
-- stores passed on as they are. It says of the calls that Rust and C make what `ContractsRefuse` and `ContractsSend` of client_model say of the
-- client's.
use Rattle.std.specs.Prelude.{ℕ, ◌≡◌, List, [], ◌∷◌, map, true}
use Rattle.client_model.specs.declared.Outcome.TheVariants as outcome
use Rattle.client_model.specs.Step.{Stores, stepped}
use Rattle.client_model.specs.Refusals.{ClientCall, Seen, verdict_of, at_start, due_from}
use Rattle.client_model.specs.PacketsSent.{AllSend, AllBringOctets}
use Rattle.client_model.specs.ContractClaims.{Performed, performed, Says, seen_in, calls_in}
use Rattle.client_c.specs.Words.{settings_fit, client_of, result_of, start_on}

-- An exported call: its arguments, and what stood in the numbers and the four stores afterwards.
pub record Exported : Type 0 where
  pub call : ClientCall
  pub words : List ℕ
  pub stores : Stores

-- Makes an `Exported`.
abbrev pub exported : ClientCall → List ℕ → Stores → Exported
exported x w t = record { call = x; words = w; stores = t }

-- The call of the client that it was, with the result that the numbers hold.
abbrev pub performed_by : Exported → Performed
performed_by x = performed x.call (result_of x.words) x.stores

-- The calls of the client that a run was.
abbrev pub performed_in : List Exported → List Performed
performed_in xs = map performed_by xs

-- A run: each call is what its contract says, on the numbers and the stores that the call before left.
abbrev pub RanOn : List ℕ → Stores → List Exported → Type 0
RanOn w s [] = Unit {0}
RanOn w s (x ∷ xs) = Says (client_of w) s (performed_by x) × RanOn x.words x.stores xs

-- A start that was accepted, by what its contract says: it was lent the numbers `w` and the stores `s`, and left `v` and `t`.
pub record AcceptedOn (w : List ℕ) (s : Stores) (v : List ℕ) (t : Stores) : Type 0 where
  pub says : stepped (result_of v) t ≡ start_on w s
  pub accepted : (result_of v).outcome ≡ outcome.Ready

-- Only numbers that are settings are accepted.
abbrev pub AcceptsSettings : Type 0
AcceptsSettings = (w : List ℕ) (s : Stores) (v : List ℕ) (t : Stores) → AcceptedOn w s v t → settings_fit w ≡ true

-- An exported call is refused exactly if it is due to be, with the number that is due, in every run from an accepted start.
abbrev pub ExportsRefuse : Type 0
ExportsRefuse =
    (w : List ℕ) (s : Stores) (v : List ℕ) (t : Stores) (xs : List Exported) → AcceptedOn w s v t → RanOn v t xs
    → map (λ (x : Seen). verdict_of x.outcome) (seen_in t (performed_in xs)) ≡ due_from at_start (seen_in t (performed_in xs))

-- Every packet of every such run is within the server's limit and can be read with its own opcode, if the user's headers are bytes.
abbrev pub ExportsSend : Type 0
ExportsSend =
    (w : List ℕ) (s : Stores) (v : List ℕ) (t : Stores) (xs : List Exported) → AcceptedOn w s v t → RanOn v t xs
    → AllBringOctets (calls_in (performed_in xs)) → AllSend at_start (seen_in t (performed_in xs))
