-- Passwords leave no trace (docs/PROTOCOL.md#no-trace): of two runs from equal starts and stores, whose calls differ in passwords alone, before
-- which the host wrote the same bytes into the packet store, and whose checks come out alike, the host and the peer see the same, call for
-- call, and both leave the same. Of a run only the functions' contracts are known. There is no premise on the bytes of a packet, on kept
-- headers or on how long a password is.
use Rattle.std.specs.Prelude.{ℕ, ◌≡◌, List, [], ◌∷◌, map, Bool, true, false}
use Rattle.std.proofs.Math.Option.{Option, some}
use Rattle.base.specs.Pick.{pick}
use Rattle.journal.specs.Calls.{Call, bytes_offered_of, stream_ended_of, reply_taken_of, reply_given_of, object_given_of, body_given_of, body_failed_of, abort_acknowledged_of, password_given_of, nonce_given_of, credentials_given_of, connections_closed_of}
use Rattle.model.specs.Step.{Stores, Called}
use Rattle.model.specs.Request.{client_response}
use Rattle.model.specs.Connect.{demands_user, checks}
use Rattle.model.specs.Guard.{same_await}
use Rattle.model.specs.Runs.{State, Performed, called_in, next, lent_to, Ran, Started}
use Rattle.model.specs.Cases.{reply_in}
use Rattle.model.specs.ContractClaims.{state, Accepted}
use Rattle.server.specs.declared.Settings.{Settings}
use Rattle.server.specs.declared.Await.TheVariants as await
use Rattle.server.specs.declared.HostRequest.{HostRequest}
use Rattle.server.specs.declared.HostRequest.TheVariants as request
use Rattle.server.specs.declared.Outcome.{Outcome}
use Rattle.server.specs.declared.Outcome.TheVariants as outcome
use Rattle.server.specs.declared.CallResult.{CallResult}

-- ---- alike but for passwords

-- Two calls are alike if they are equal but for a password in the host's answer. Either password may be missing; credentials are of one
-- user id, or both of none.
pub data Alike : Call → Call → Type 0 where
  equal : (c : Call) → Alike c c
  password : (p q : Option (List ℕ)) → Alike (password_given_of p) (password_given_of q)
  credentials : (u : Option (List ℕ)) (p q : List ℕ)
      → Alike (credentials_given_of (some (record { user = u; password = p }))) (credentials_given_of (some (record { user = u; password = q })))

-- Two runs are alike, call for call, with the same bytes written by the host.
abbrev pub AllAlike : List Performed → List Performed → Type 0
AllAlike [] [] = Unit {0}
AllAlike [] (y ∷ ys) = ⊥
AllAlike (x ∷ xs) [] = ⊥
AllAlike (x ∷ xs) (y ∷ ys) = Alike x.call y.call × ((x.written ≡ y.written) × AllAlike xs ys)

-- ---- the premises

-- What the check says that a call makes. A password is checked if it was asked for; otherwise the call is refused, and no other call checks.
abbrev pub check_made : Call → State → Bool
check_made (password_given_of p) s =
    let e = s.engine in
    pick (same_await e.awaits await.Password) (checks e.peer.challenge (client_response e s.stores) (demands_user e.settings) p) false
check_made (bytes_offered_of i) s = false
check_made stream_ended_of s = false
check_made reply_taken_of s = false
check_made (reply_given_of code hs) s = false
check_made (object_given_of hs b) s = false
check_made (body_given_of d) s = false
check_made body_failed_of s = false
check_made abort_acknowledged_of s = false
check_made (nonce_given_of n l) s = false
check_made (credentials_given_of c) s = false
check_made (connections_closed_of l) s = false

-- Each check comes out alike in both runs, the first from the state `s` and the second from the state `t`.
abbrev pub ChecksAlike : State → State → List Performed → List Performed → Type 0
ChecksAlike s t [] ys = Unit {0}
ChecksAlike s t (x ∷ xs) [] = Unit {0}
ChecksAlike s t (x ∷ xs) (y ∷ ys) = (check_made x.call (lent_to s x) ≡ check_made y.call (lent_to t y)) × ChecksAlike (next x) (next y) xs ys

-- Whether the host is asked for credentials, which is done for a peer's challenge alone.
abbrev pub for_credentials : HostRequest → Bool
for_credentials (request.Credentials n u r p) = true
for_credentials (request.Connect n) = false
for_credentials (request.Disconnect n) = false
for_credentials (request.SetPath n u c) = false
for_credentials (request.Abort n) = false
for_credentials (request.Put k b) = false
for_credentials (request.Get k) = false
for_credentials (request.Action k) = false
for_credentials (request.Session k) = false
for_credentials (request.UserDefined o k) = false
for_credentials (request.Password u) = false
for_credentials request.Nonce = false
for_credentials (request.Read n) = false

-- Whether a call asks for credentials.
abbrev pub asks_credentials : Outcome → Bool
asks_credentials (outcome.Request r) = for_credentials r
asks_credentials outcome.WantsBytes = false
asks_credentials (outcome.Reply n) = false
asks_credentials (outcome.End n) = false
asks_credentials (outcome.Refused n) = false

-- No call of a run asks for credentials.
abbrev pub NoneAsked : List Performed → Type 0
NoneAsked [] = Unit {0}
NoneAsked (x ∷ xs) = (asks_credentials x.result.outcome ≡ false) × NoneAsked xs

-- ---- what a call shows

-- What a call shows, to the host and through it to the peer: the bytes taken, what the call answers (that bytes are wanted, a reply, a
-- request, a refusal or an end), and the reply's bytes if it made one.
pub record Shown : Type 0 where
  pub taken : ℕ
  pub outcome : Outcome
  pub reply : List (List ℕ)

-- What a call that was performed shows.
abbrev pub shown_in : Called → Shown
shown_in m = record { taken = m.took.taken; outcome = m.took.outcome; reply = reply_in m.took.outcome m.stores }

-- Two runs show the same, call for call; and each call leaves the same state, stores and table store in both.
pub record NoTrace (xs ys : List Performed) : Type 0 where
  pub shown : map (λ (x : Performed). shown_in (called_in x)) xs ≡ map (λ (y : Performed). shown_in (called_in y)) ys
  pub left : map called_in xs ≡ map called_in ys

-- ---- the claim

-- For every accepted start and every two runs of calls from there. The premise on credentials is one on the first run; for the second it
-- follows.
abbrev pub Secrecy : Type 0
Secrecy =
    (st : Settings) (s : State) → Started st s → (xs ys : List Performed) → Ran s xs → Ran s ys → AllAlike xs ys → ChecksAlike s s xs ys
    → NoneAsked xs → NoTrace xs ys

-- The claim from the contracts of two starts with equal settings, realms and stores.
abbrev pub ContractsKeepSecrets : Type 0
ContractsKeepSecrets =
    (st : Settings) (l : List ℕ) (s t v : Stores) (u : List ℕ) (r q : CallResult) (xs ys : List Performed)
    → Accepted st l s r t u → Accepted st l s q v u → Ran (state r t u) xs → Ran (state q v u) ys → AllAlike xs ys
    → ChecksAlike (state r t u) (state q v u) xs ys → NoneAsked xs → NoTrace xs ys
