-- Operations (docs/PROTOCOL.md, "Words"): an operation is open from its first packet to its last reply. For every run of calls from an
-- accepted start, the engine has an operation open exactly if the journal has one, or if the host was told last of a reply or of a request
-- and the answer to it is still to come. The journal opens an operation with its first packet, and of a packet that leaves none open a
-- reply is due (`OpensOrReplies` of the journal). Of a run only the functions' contracts are known, and nothing is asked of what happens.
use Rattle.std.specs.Prelude.{ℕ, ◌≡◌, List, [], ◌∷◌, Bool, ◌||◌, not}
use Rattle.journal.specs.Journal.{Journal, journal_after, busy as busyOpened}
use Rattle.server.specs.declared.Await.TheVariants as await
use Rattle.server.specs.declared.Engine.{Engine}
use Rattle.server.specs.declared.Settings.{Settings}
use Rattle.server.specs.declared.CallResult.{CallResult}
use Rattle.model.specs.Step.{Stores}
use Rattle.model.specs.Dispatch.{busy}
use Rattle.model.specs.Guard.{same_await}
use Rattle.model.specs.Refusals.{Seen, Waits, bytes, same_wait, Known, at_start, learns}
use Rattle.model.specs.Runs.{State, Performed, Ran, Started, seen}
use Rattle.model.specs.Theorem.{journal_of, fed}
use Rattle.model.specs.ContractClaims.{state, Accepted}
use Rattle.model.specs.EightWrong.{ran_to}

-- What is known after a list of calls, by what the host saw of them.
abbrev pub known_after : Known → List Seen → Known
known_after k [] = k
known_after k (x ∷ xs) = known_after (learns k x.call x.outcome) xs

-- An operation is open in the engine: packets of it may still come, or its last reply is not taken yet.
abbrev pub is_open_of : Engine → Bool
is_open_of e = busy e.operation || not (same_await e.awaits await.Bytes)

-- An operation is open by the journal and by what the host has to do next.
abbrev pub is_open_by : Journal → Waits → Bool
is_open_by j w = busyOpened j.opened || not (same_wait w bytes)

-- The claim, for every accepted start and every run of calls from there. It is of use as long as the engine goes on; one that has ended
-- awaits no bytes either.
abbrev pub OpensAlike : Type 0
OpensAlike =
    (st : Settings) (s : State) → Started st s → (xs : List Performed) → Ran s xs
    → is_open_of (ran_to s xs).engine ≡ is_open_by (journal_after (journal_of st) (fed st s xs)) (known_after (at_start st) (seen st s xs)).waits

-- The claim from the contract of a start.
abbrev pub ContractsOpen : Type 0
ContractsOpen =
    (st : Settings) (l : List ℕ) (s t : Stores) (u : List ℕ) (r : CallResult) (xs : List Performed) → Accepted st l s r t u
    → Ran (state r t u) xs
    → is_open_of (ran_to (state r t u) xs).engine
    ≡ is_open_by (journal_after (journal_of st) (fed st (state r t u) xs)) (known_after (at_start st) (seen st (state r t u) xs)).waits
