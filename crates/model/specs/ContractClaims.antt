-- The records theorem over contracts: a run of calls of which is known only what the functions' contracts say, from the start on, the state
-- and the stores passed on. There is one premise on what happens, that of `Upholds`; that bytes are bytes is a promise of `bytes_offered`.
use Rattle.std.specs.Prelude.{ℕ, ◌≡◌, List}
use Rattle.model.specs.Step.{Stores, stepped}
use Rattle.model.specs.Calls.{start_step}
use Rattle.model.specs.Runs.{State, Performed, Ran}
use Rattle.model.specs.Theorem.{Upholds}
use Rattle.server.specs.declared.Settings.{Settings}
use Rattle.server.specs.declared.CallResult.{CallResult}
use Rattle.server.specs.declared.Outcome.TheVariants as outcome

-- The state after a start that returned `r` and left the stores `t` and the table store `u`.
abbrev pub state : CallResult → Stores → List ℕ → State
state r t u = record { engine = r.engine; stores = t; tables = u }

-- A start that was accepted, by what its contract says; it was lent the realm `l`. Each call that gives a nonce is lent one of its own.
pub record Accepted (st : Settings) (l : List ℕ) (s : Stores) (r : CallResult) (t : Stores) (u : List ℕ) : Type 0 where
  pub says : stepped r t ≡ start_step st l s u
  pub accepted : r.outcome ≡ outcome.WantsBytes

-- The records theorem of the functions themselves, for every run of calls from an accepted start.
abbrev pub ContractsUphold : Type 0
ContractsUphold =
    (st : Settings) (l : List ℕ) (s t : Stores) (u : List ℕ) (r : CallResult) (xs : List Performed)
    → Accepted st l s r t u → Ran (state r t u) xs → Upholds st (state r t u) xs
