-- The Targets that requests name (docs/PROTOCOL.md#targets): in every run of calls from an accepted start, each request to the host names
-- the Target that is due, which `Naming` of the journal says by the feed alone. The requests about a Connect and an Abort carry the mark.
-- Of a run only the functions' contracts are known, and nothing is asked of what happens.
use Rattle.std.specs.Prelude.{ℕ, ◌≡◌, List, [], ◌∷◌, Bool, true, false}
use Rattle.std.proofs.Math.Option.{Option, none}
use Rattle.base.specs.Pick.{pick}
use Rattle.table.specs.Targets.{target_bytes}
use Rattle.table.specs.declared.targets.Target.{Target}
use Rattle.journal.specs.Naming.{Naming, unnamed, namings}
use Rattle.server.specs.declared.Settings.{Settings}
use Rattle.server.specs.declared.HostRequest.{HostRequest}
use Rattle.server.specs.declared.HostRequest.TheVariants as request
use Rattle.server.specs.declared.Outcome.{Outcome}
use Rattle.server.specs.declared.Outcome.TheVariants as outcome
use Rattle.server.specs.declared.CallResult.{CallResult}
use Rattle.model.specs.Step.{Stores}
use Rattle.model.specs.Runs.{State, Performed, Ran, Started}
use Rattle.model.specs.Theorem.{journal_of, fed}
use Rattle.model.specs.ContractClaims.{state, Accepted}

-- The requests that carry the mark: those of a Connect, from the password to the credentials, and an Abort.
abbrev pub carries_mark : HostRequest → Bool
carries_mark (request.Connect n) = true
carries_mark (request.Abort n) = true
carries_mark (request.Password u) = true
carries_mark request.Nonce = true
carries_mark (request.Credentials n u r p) = true
carries_mark (request.Disconnect n) = false
carries_mark (request.SetPath n u c) = false
carries_mark (request.Put k b) = false
carries_mark (request.Get k) = false
carries_mark (request.Action k) = false
carries_mark (request.Session k) = false
carries_mark (request.UserDefined o k) = false
carries_mark (request.Read n) = false

-- The bytes of the Target that a request is due to name; `none` is the mark.
abbrev pub due_name : HostRequest → Naming → Option (List ℕ)
due_name r n = pick (carries_mark r) none n.under

-- A call that returns a request names by the Target `g` in its state what is due.
abbrev pub NamesDue : Outcome → Target → Naming → Type 0
NamesDue (outcome.Request r) g n = target_bytes g ≡ due_name r n
NamesDue outcome.WantsBytes g n = Unit {0}
NamesDue (outcome.Reply k) g n = Unit {0}
NamesDue (outcome.End k) g n = Unit {0}
NamesDue (outcome.Refused r) g n = Unit {0}

-- Each call of a run does, with the naming after it.
abbrev pub AllNamed : List Naming → List Performed → Type 0
AllNamed [] [] = Unit {0}
AllNamed [] (x ∷ xs) = ⊥
AllNamed (n ∷ ns) [] = ⊥
AllNamed (n ∷ ns) (x ∷ xs) = NamesDue x.result.outcome x.result.engine.target n × AllNamed ns xs

-- The claim, for every accepted start and every run of calls from there.
abbrev pub Targets : Type 0
Targets =
    (st : Settings) (s : State) → Started st s → (xs : List Performed) → Ran s xs → AllNamed (namings (journal_of st) unnamed (fed st s xs)) xs

-- The claim from the contract of a start.
abbrev pub ContractsName : Type 0
ContractsName =
    (st : Settings) (l : List ℕ) (s t : Stores) (u : List ℕ) (r : CallResult) (xs : List Performed) → Accepted st l s r t u
    → Ran (state r t u) xs → AllNamed (namings (journal_of st) unnamed (fed st (state r t u) xs)) xs
