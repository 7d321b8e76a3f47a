-- Runs of a client and a server (docs/PROTOCOL.md#link) in which each call was one of the functions of `client` and of `engine`: of both ends only
-- what the functions' contracts say is known, from their starts on. What `Names`, `Puts` and `Gets` claim is claimed of these runs.
use Rattle.std.specs.Prelude.{ℕ, ◌≤◌, ◌≡◌, List, [], ◌∷◌, Bool, true, false, take, None}
use Rattle.std.proofs.Math.Option.{Option, none, some}
use Rattle.packet.specs.Limits.{max_packet}
use Rattle.journal.specs.Calls.{Call}
use Rattle.server.specs.declared.Outcome.{Outcome as ServerOutcome}
use Rattle.server.specs.declared.Outcome.TheVariants as told
use Rattle.model.specs.Step.{Called}
use Rattle.model.specs.Runs.{Writes}
use Rattle.client_model.specs.Guard.{awaiting}
use Rattle.client_model.specs.Refusals as due
use Rattle.client_model.specs.Refusals.{ClientCall}
use Rattle.client_model.specs.Step.{Stepped}
use Rattle.client_model.specs.declared.Await.TheVariants as await
use Rattle.client_model.specs.declared.Outcome.{Outcome}
use Rattle.client_model.specs.declared.Outcome.TheVariants as said
use Rattle.link.specs.Link.{Link, UserCall, connect, get, disconnect, put, body, abort, partTaken, Move, user, host, sendUp, sendDown, offerUp, offerDown, closeUp, closeDown, server_call, moves}
use Rattle.link.specs.Told.{goes, aborted_in}
use Rattle.link.specs.Claims.{Plain, connected_in, named_after, is_open_of, Until, journal_in, PutHolds, GetHolds}
use Rattle.link.specs.PutMore.{PutMore}
use Rattle.link.specs.GetMore.{GetMore}
use Rattle.link.specs.ContractClaims.{Returned, led, led_all, started_link}
use Rattle.link.specs.HostWrites.{WrittenMove, writing_at, moves_alone, SameLink}
use Rattle.link_contracts.specs.ClientFunctions.{on_client, ClientMade, ClientStart, ClientStarts}
use Rattle.link_contracts.specs.ServerFunctions.{on_server, ServerMade, ServerStart, ServerStarts}

-- ---- the call that a move makes on the client

-- A call of the user.
abbrev pub user_call : UserCall → ClientCall
user_call (connect hs) = due.connect hs
user_call (get hs) = due.get hs
user_call (disconnect hs) = due.disconnect hs
user_call (put hs has) = due.put hs has
user_call (body d) = due.body_given_of d
user_call abort = due.abort
user_call partTaken = due.partTaken

-- The user says that the packet that waited was sent.
abbrev pub sending_call : Outcome → Option ClientCall
sending_call (said.Send n) = some due.requestSent
sending_call said.Ready = none
sending_call said.WantsBytes = none
sending_call (said.Read n) = none
sending_call (said.Part k b) = none
sending_call (said.Done c n) = none
sending_call (said.Stopped c n) = none
sending_call (said.Aborted c n) = none
sending_call (said.End x) = none
sending_call (said.Refused r) = none

-- The user says that the stream has ended, once the server has ended and all its bytes are taken.
abbrev pub ending_call : ServerOutcome → List ℕ → Option ClientCall
ending_call (told.End x) [] = some due.stream_ended_of
ending_call (told.End x) (b ∷ down) = none
ending_call told.WantsBytes down = none
ending_call (told.Reply n) down = none
ending_call (told.Request r) down = none
ending_call (told.Refused r) down = none

-- The call, if there is one.
abbrev pub called_by : Link → Move → Option ClientCall
called_by l (user u) = some (user_call u)
called_by l sendUp = sending_call l.said
called_by l (offerDown n) = some (due.bytes_offered_of (take n l.down))
called_by l closeDown = ending_call l.told l.down
called_by l (host c) = none
called_by l sendDown = none
called_by l (offerUp n) = none
called_by l closeUp = none

-- ---- a run

-- One of the client's functions made the call, if there is one, with the state and the stores of the link.
abbrev pub ClientDid : Link → Option ClientCall → Stepped → Type 0
ClientDid l none m = Unit {0}
ClientDid l (some c) m = ClientMade (on_client l.client l.stores c m)

-- The same of the server.
abbrev pub ServerDid : Link → Option Call → Called → Type 0
ServerDid l none m = Unit {0}
ServerDid l (some c) m = ServerMade (on_server l.server c m)

-- The calls of a move were made by the functions.
pub record MoveMade (l : Link) (m : Move) (x : Returned) : Type 0 where
  pub client : ClientDid l (called_by l m) x.client
  pub server : ServerDid l (server_call l m) x.server

-- The same of a run: each move was made in the link that the move before left.
abbrev pub RunMade : Link → List Move → List Returned → Type 0
RunMade l [] [] = Unit {0}
RunMade l [] (x ∷ xs) = ⊥
RunMade l (m ∷ ms) [] = ⊥
RunMade l (m ∷ ms) (x ∷ xs) = MoveMade l m x × RunMade (led l m x) ms xs

-- Both ends were started by the functions, and both starts were accepted. The packet limit of each is a number of 16 bits, as its field in the
-- settings.
pub record StartsMade (a : ServerStart) (b : ClientStart) : Type 0 where
  pub server : ServerStarts a
  pub client : ClientStarts b
  pub server-accepts : a.result.outcome ≡ told.WantsBytes
  pub client-accepts : b.result.outcome ≡ said.Ready
  pub server-limit : a.settings.max_packet_length ≤ max_packet
  pub client-limit : b.settings.max_packet_length ≤ max_packet

-- The link of two ends that were started so.
abbrev pub started_by : ServerStart → ClientStart → Link
started_by a b = started_link a.result a.left a.tables b.result b.left

-- ---- a host that writes into its packet store

-- The calls of a run were made by the functions, each in the link that the move before left and the server's host has written into.
abbrev pub WrittenMade : Link → List WrittenMove → List Returned → Type 0
WrittenMade l [] [] = Unit {0}
WrittenMade l [] (x ∷ xs) = ⊥
WrittenMade l (m ∷ ms) [] = ⊥
WrittenMade l (m ∷ ms) (x ∷ xs) =
    let k = writing_at l m.written in
    Writes l.server m.written × (MoveMade k m.move x × WrittenMade (led k m.move x) ms xs)

-- The link after such a run.
abbrev pub led_written : Link → List WrittenMove → List Returned → Link
led_written l [] xs = l
led_written l (m ∷ ms) [] = l
led_written l (m ∷ ms) (x ∷ xs) = led_written (led (writing_at l m.written) m.move x) ms xs

-- ---- the claims

-- `Names` of such a run: whenever the client awaits an operation, its ConnectionID is the one that the server gave last, and the server has it
-- open.
abbrev pub FunctionsName : Type 0
FunctionsName =
    (a : ServerStart) (b : ClientStart) (ms : List Move) (xs : List Returned)
    → let l = started_by a b in
    let k = led_all l ms xs in
    StartsMade a b → RunMade l ms xs → Plain ms → awaiting k.client await.Call ≡ true
    → (k.client.connection_id ≡ named_after None l ms) × (is_open_of k.client.connection_id k.server ≡ true)

-- `Puts` of such a run: a Put after an accepted Connect, passed on to its end. The run `before` led to the link `k`, and the Put to `n`.
abbrev pub FunctionsPut : Type 0
FunctionsPut =
    (a : ServerStart) (b : ClientStart) (before ms : List Move) (xs ys : List Returned) (y : Returned) (hs : List ℕ) (has : Bool)
    → let l = started_by a b in
    let k = led_all l before xs in
    let n = led k (user (put hs has)) y in
    StartsMade a b → RunMade l before xs → RunMade k (user (put hs has) ∷ ms) (y ∷ ys) → Plain before → Plain (user (put hs has) ∷ ms)
    → connected_in false l before ≡ true
    → goes k (put hs has) ≡ true → Until n ms → PutHolds a.settings b.settings (journal_in a.settings l before) k n hs has ms

-- `Gets` of such a run: a Get after an accepted Connect, passed on to its end.
abbrev pub FunctionsGet : Type 0
FunctionsGet =
    (a : ServerStart) (b : ClientStart) (before ms : List Move) (xs ys : List Returned) (y : Returned) (hs : List ℕ)
    → let l = started_by a b in
    let k = led_all l before xs in
    let n = led k (user (get hs)) y in
    StartsMade a b → RunMade l before xs → RunMade k (user (get hs) ∷ ms) (y ∷ ys) → Plain before → Plain (user (get hs) ∷ ms)
    → connected_in false l before ≡ true → goes k (get hs) ≡ true → Until n ms → aborted_in n ms ≡ false
    → GetHolds b.settings k n hs ms

-- `PutsMore` of such a run.
abbrev pub FunctionsPutMore : Type 0
FunctionsPutMore =
    (a : ServerStart) (b : ClientStart) (before ms : List Move) (xs ys : List Returned) (y : Returned) (hs : List ℕ) (has : Bool)
    → let l = started_by a b in
    let k = led_all l before xs in
    let n = led k (user (put hs has)) y in
    StartsMade a b → RunMade l before xs → RunMade k (user (put hs has) ∷ ms) (y ∷ ys) → Plain before → Plain (user (put hs has) ∷ ms)
    → connected_in false l before ≡ true
    → goes k (put hs has) ≡ true → Until n ms → PutMore a.settings (journal_in a.settings l before) k n hs has ms

-- `GetsMore` of such a run.
abbrev pub FunctionsGetMore : Type 0
FunctionsGetMore =
    (a : ServerStart) (b : ClientStart) (before ms : List Move) (xs ys : List Returned) (y : Returned) (hs : List ℕ)
    → let l = started_by a b in
    let k = led_all l before xs in
    let n = led k (user (get hs)) y in
    StartsMade a b → RunMade l before xs → RunMade k (user (get hs) ∷ ms) (y ∷ ys) → Plain before → Plain (user (get hs) ∷ ms)
    → connected_in false l before ≡ true → goes k (get hs) ≡ true → Until n ms → GetMore (journal_in a.settings l before) k n hs ms

-- The claims together. A run of the functions leads, from any link, to the links of `moves`, of which `PutHolds`, `GetHolds`, `PutMore` and
-- `GetMore` speak; and so does one in which the server's host writes into its packet store, but for bytes of that store which do not count.
pub record FunctionsLink : Type 0 where
  pub leads : (l : Link) (ms : List Move) (xs : List Returned) → RunMade l ms xs → led_all l ms xs ≡ moves l ms
  pub writes : (l : Link) (ms : List WrittenMove) (xs : List Returned) → WrittenMade l ms xs
      → SameLink (moves l (moves_alone ms)) (led_written l ms xs)
  pub names : FunctionsName
  pub puts : FunctionsPut
  pub gets : FunctionsGet
  pub puts-more : FunctionsPutMore
  pub gets_more : FunctionsGetMore
