-- The records theorem over the exported calls: a run of which is known only what their contracts say, from the start on, the numbers and the
-- stores passed on as they are. It says of the calls that Rust and C make what `ContractsUphold` of the model says of the engine's.
use Rattle.std.specs.Prelude.{ℕ, ◌≡◌, List, [], ◌∷◌, map}
use Rattle.journal.specs.Calls.{Call}
use Rattle.model.specs.Step.{Stores, stepped, Called, called}
use Rattle.model.specs.Calls.{start_step}
use Rattle.model.specs.Runs.{State, Performed, performed, writing, Writes, Says}
use Rattle.model.specs.Theorem.{Upholds}
use Rattle.server.specs.declared.Outcome.TheVariants as outcome
use Rattle.engine_c.specs.Words.{settings_in, engine_of, result_of}

-- What a host outside Rattle keeps between two calls: the numbers, the four stores and the table store.
pub record Kept : Type 0 where
  pub words : List ℕ
  pub stores : Stores
  pub tables : List ℕ

-- The state that the host keeps.
abbrev pub state_in : Kept → State
state_in k = record { engine = engine_of k.words; stores = k.stores; tables = k.tables }

-- What an exported call returned, by what stood in the numbers, the four stores and the table store afterwards.
abbrev pub returned : List ℕ → Stores → List ℕ → Called
returned w t u = called (stepped (result_of w) t) u

-- An exported call that was made: what the host wrote into the packet store before it, its arguments, and what stood in the numbers, the four
-- stores and the table store afterwards.
pub record Made : Type 0 where
  pub written : List ℕ
  pub call : Call
  pub words : List ℕ
  pub stores : Stores
  pub tables : List ℕ

-- The call of the engine that it was, with the result that the numbers hold.
abbrev pub performed_by : Made → Performed
performed_by x = performed x.written x.call (result_of x.words) x.stores x.tables

-- What the host keeps after a call.
abbrev pub kept_after : Made → Kept
kept_after x = record { words = x.words; stores = x.stores; tables = x.tables }

-- A run: each call is what its contract says, on what the call before left and the host has written into.
abbrev pub RanOn : Kept → List Made → Type 0
RanOn k [] = Unit {0}
RanOn k (x ∷ xs) =
    Writes (state_in k) x.written
    × (Says (writing (state_in k) x.written) x.call (returned x.words x.stores x.tables) × RanOn (kept_after x) xs)

-- A start that was accepted, by what its contract says: it was lent the numbers `w`, the realm `l`, the stores `s` and the table store of `k`,
-- and left `k`.
pub record AcceptedOn (w l : List ℕ) (s : Stores) (k : Kept) : Type 0 where
  pub says : stepped (result_of k.words) k.stores ≡ start_step (settings_in w) l s k.tables
  pub accepted : (result_of k.words).outcome ≡ outcome.WantsBytes

-- The records theorem of the exported calls, for every run from an accepted start.
abbrev pub ExportsUphold : Type 0
ExportsUphold =
    (w l : List ℕ) (s : Stores) (k : Kept) (xs : List Made)
    → AcceptedOn w l s k → RanOn k xs → Upholds (settings_in w) (state_in k) (map performed_by xs)
