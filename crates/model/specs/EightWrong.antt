-- The count of wrong passwords (docs/PROTOCOL.md#eight-wrong): after every run of calls from an accepted start, the window in the engine's
-- state counts the wrong checks among the last 64 of the journal's history, which goes back to the start; and this history keeps the rule,
-- so that a client that keeps connecting passes the test after at most 57 stops. Of a run only the functions' contracts are known.
use Rattle.std.specs.Prelude.{ℕ, ◌≤◌, ◌≡◌, List, [], ◌∷◌, ◌++◌, Bool, true, false, ◌||◌, not, leb, take, replicate}
use Rattle.std.specs.Int.Count.{ones}
use Rattle.journal.specs.Checks.{Check, stop, window_length, most_wrong, wrongs, Ruled}
use Rattle.journal.specs.Journal.{Journal, journal_after}
use Rattle.server.specs.declared.Await.TheVariants as await
use Rattle.server.specs.declared.Engine.{Engine}
use Rattle.server.specs.declared.Settings.{Settings}
use Rattle.server.specs.declared.CallResult.{CallResult}
use Rattle.model.specs.Step.{Stores}
use Rattle.model.specs.Guard.{same_await}
use Rattle.model.specs.Runs.{State, Performed, next, Ran, Started}
use Rattle.model.specs.Theorem.{journal_of, fed}
use Rattle.model.specs.ContractClaims.{state, Accepted}

-- The state after a run.
abbrev pub ran_to : State → List Performed → State
ran_to s [] = s
ran_to s (x ∷ xs) = ran_to (next x) xs

-- Whether the engine goes on: it has not ended, and does not end with the reply that waits.
abbrev pub live : Engine → Bool
live e = not (same_await e.awaits await.Last || same_await e.awaits await.Nothing)

-- What holds of an engine and the journal beside it.
pub record Counted (e : Engine) (j : Journal) : Type 0 where
  -- The count by which a Connect is stopped is that of the history from the start.
  pub count : live e ≡ true → ones e.peer.window ≡ wrongs (take window_length j.standing.checks)
  -- A Connect was stopped only after too many wrong checks, and came to a check only if there were not too many.
  pub ruled : Ruled j.standing.checks
  -- No more than 57 stops follow one another.
  pub stops : (n : ℕ) (h : List Check) → j.standing.checks ≡ replicate n stop ++ h → n ≤ 57
  -- After 57 the next Connect passes the test.
  pub passes : live e ≡ true → (h : List Check) → j.standing.checks ≡ replicate 57 stop ++ h → leb most_wrong (ones e.peer.window) ≡ false

-- The claim, for every accepted start and every run of calls from there.
abbrev pub EightWrong : Type 0
EightWrong =
    (st : Settings) (s : State) → Started st s → (xs : List Performed) → Ran s xs
    → Counted (ran_to s xs).engine (journal_after (journal_of st) (fed st s xs))

-- The claim from the contract of a start.
abbrev pub ContractsCount : Type 0
ContractsCount =
    (st : Settings) (l : List ℕ) (s t : Stores) (u : List ℕ) (r : CallResult) (xs : List Performed) → Accepted st l s r t u
    → Ran (state r t u) xs
    → Counted (ran_to (state r t u) xs).engine (journal_after (journal_of st) (fed st (state r t u) xs))
