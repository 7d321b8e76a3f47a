-- Client and server in a Get, with Single Response Mode (SRM) or without, aborted or not: what holds of both and of the two queues between any
-- two moves, by phases, from the call of the Get to its end. Under SRM the packets of the request follow one another (`streaming`, `closing`,
-- `lost`), and so do those of the object (`pouring`, `draining`).
use mathlib.Core.Path.{◌≡◌}
use mathlib.Core.List.{List, [], ◌∷◌, ◌++◌}
use mathlib.Core.Bool.{Bool, true, false, ◌&&◌, ◌||◌, not}
use mathlib.Core.Option.{none, some}
use mathlib.Core.Logic.{◌⊎◌}
use Prim.Native.Nat.{ℕ, ◌≤◌, ◌<◌}
use lib.ListN.{length, take}
use lib.Dec.{eqb}
use Rattle.packet.specs.Codes.{is_success, sent_code}
use Rattle.packet.specs.HeaderIds as header_id
use Rattle.packet.specs.Header.{Header, first}
use Rattle.packet.specs.declared.opcode.Opcode.TheVariants as op
use Rattle.journal.specs.Record.{bare, carried_by}
use Rattle.journal.specs.Journal.{is_enable}
use Rattle.incoming.specs.Gather.{gathering as gatheringOf, Body}
use Rattle.incoming.specs.declared.gather.Gathered.{Gathered}
use Rattle.incoming.proofs.Gathers.{KeptAgrees}
use Rattle.incoming.proofs.Queued.{Half}
use Rattle.outgoing.specs.Packets.{all_sent}
use Rattle.outgoing.proofs.Sender.{ending}
use Rattle.journal.specs.Ids.{member}
use Rattle.connection.specs.Peer.{ids_of, ConnectionId}
use Rattle.connection.specs.declared.peer.Peer.{Peer}
use Rattle.server.specs.declared.Settings.{Settings as ServerSettings}
use Rattle.server.specs.declared.Operation.TheVariants.{Getting}
use Rattle.server.specs.declared.Await.TheVariants as waits
use Rattle.server.specs.declared.End.{End as ServerEnd}
use Rattle.server.specs.declared.End.TheVariants as serverEnd
use Rattle.server.specs.declared.HostRequest.{HostRequest}
use Rattle.server.specs.declared.Outcome.{Outcome as ServerOutcome}
use Rattle.server.specs.declared.Outcome.TheVariants as told
use Rattle.model.specs.Step.{limit_of}
use Rattle.model.specs.Dispatch.{busy}
use Rattle.model.specs.Runs.{State}
use Rattle.model.proofs.ServerPut.{Refuses}
use Rattle.model.proofs.ServerGet.{Asked}
use Rattle.client_model.specs.Step.{Stores}
use Rattle.client_model.specs.declared.End.{End}
use Rattle.client_model.specs.declared.End.TheVariants as end
use Rattle.client_model.specs.declared.Operation.TheVariants.{Receiving, Aborting}
use Rattle.client_model.specs.declared.Await.TheVariants as await
use Rattle.client_model.specs.declared.Client.{Client}
use Rattle.client_model.specs.declared.Outcome.{Outcome}
use Rattle.client_model.specs.declared.Outcome.TheVariants as said
use Rattle.client_model.proofs.Conveyed.{Holding, carried_all}
use Rattle.client_model.proofs.Putting.{is_none, Plainly, onto}
use Rattle.client_model.proofs.Getting.{Fetch, wants, all_of, has_id, id_sent, wish, Stands, Waits, More, Ends, Up, Holds, kept_all, next_bytes, abort_bytes}
use Rattle.link.specs.Link.{Link}
use Rattle.link.specs.Told.{is_over, code_said, succeeded, is_accepted, is_whole, reply_part}
use Rattle.link.proofs.Moves.{is_end}
use Rattle.link.proofs.Joint.{Serves, AtRest}
use Rattle.link.proofs.Queues.{Queue}
use Rattle.link.proofs.GetHeard.{GetHeard}
use Rattle.link.proofs.GetObject.{Down, Thing, thing_packets, thing_record, Sends, Reads}

-- ---- the server

-- what a Get leaves as it is
pub record Origin : Type 0 where
  pub settings : ServerSettings
  pub peer : Peer
  pub tables : List ℕ

-- the longest packet that the client takes
abbrev pub box_of : Origin → ℕ
box_of o = o.peer.remote_max_packet_length

-- a client with this ConnectionID, or none, is admitted: no password is due, and the id is open
abbrev pub is_admitted : Origin → ConnectionId → Bool
is_admitted o id =
    not (o.settings.authentication && not o.peer.authenticated) && not (has_id id && not (member (id_sent id) (ids_of o.peer o.tables)))

-- between two calls, whatever is awaited
pub record Stays (o : Origin) (s : State) : Type 0 where
  pub serves : Serves (box_of o) s
  pub settings : s.engine.settings ≡ o.settings
  pub peer : s.engine.peer ≡ o.peer
  pub tables : s.tables ≡ o.tables

-- the server waits for the next packet, with nothing of it come
pub record Rest (o : Origin) (s : State) (t : ServerOutcome) (queue : List ℕ) : Type 0 where
  pub stays : Stays o s
  pub awaits : s.engine.awaits ≡ waits.Bytes
  pub told : t ≡ told.WantsBytes
  pub none-begun : s.engine.begun ≡ 0
  pub up : queue ≡ []

-- a packet is under way to it
pub record UnderWay (o : Origin) (q : List ℕ) (s : State) (t : ServerOutcome) (up : List ℕ) : Type 0 where
  pub stays : Stays o s
  pub awaits : s.engine.awaits ≡ waits.Bytes
  pub told : t ≡ told.WantsBytes
  pub half : Half q s.stores.packet up s.engine.begun

-- what it has gathered of packets with these headers; `on` says that SRM is on
pub data Gathers (on : Bool) (s : State) (xs : List (List Header)) : Type 0 where
  none_yet : xs ≡ [] → on ≡ false → busy s.engine.operation ≡ false → Gathers on s xs
  gathered : (g : Gathered) → s.engine.operation ≡ Getting g on false false
      → KeptAgrees (limit_of s.engine) (gatheringOf g s.stores.headers s.stores.body) (kept_all xs)
      → Asked (gatheringOf g s.stores.headers s.stores.body) (kept_all xs) → Gathers on s xs

-- ---- what was heard

-- the host was not asked yet
pub record Early (h : GetHeard) : Type 0 where
  pub asked : h.asked ≡ []
  pub answer : h.answer ≡ none
  pub object : h.object ≡ none
  pub parts : h.parts ≡ bare

-- it was asked
pub record AskedOnce (j : Fetch) (h : GetHeard) : Type 0 where
  pub asked : h.asked ≡ wish j ∷ []
  pub answer : h.answer ≡ none
  pub object : h.object ≡ none
  pub parts : h.parts ≡ bare

-- it gave an object with the body bytes `d` so far, and the user was handed what packets with the headers `zs` carry
pub record Story (j : Fetch) (box : ℕ) (t : Thing box) (d : List ℕ) (zs : List (List Header)) (h : GetHeard) : Type 0 where
  pub asked : h.asked ≡ wish j ∷ []
  pub answer : h.answer ≡ none
  pub object : h.object ≡ some (thing_record box t d)
  pub parts : h.aborted ≡ false → h.parts ≡ carried_all zs

-- once, with exactly what the user gave, or not at all
abbrev pub Once : Fetch → GetHeard → Type 0
Once j h = (h.asked ≡ wish j ∷ []) ⊎ (h.asked ≡ [])

-- once, or not at all, since the headers are too many
abbrev pub Lost : Fetch → GetHeard → Type 0
Lost j h = (h.asked ≡ wish j ∷ []) ⊎ ((h.asked ≡ []) × (65535 < length (wish j)))

-- ---- the client while a response is due

-- the response to a packet of the request, with SRM on or not, the first response or not, the last packet or not; to the packet that asks for
-- the next part, or the next part under SRM; to an Abort
pub data Stage : Type 0 where
  requesting : (on initial last : Bool) → Stage
  receiving : (on : Bool) → Stage
  aborting : Stage

-- an Abort that goes first is no flag
abbrev pub held : Stage → Bool → Bool
held (requesting on initial last) flag = flag
held (receiving on) flag = flag
held aborting flag = false

-- the flag is that the user has aborted
abbrev pub flagged : Stage → Bool → Type 0
flagged (requesting on initial last) flag = Unit {0}
flagged (receiving on) flag = Unit {0}
flagged aborting flag = flag ≡ true

abbrev pub Answered : Stage → Fetch → List (List ℕ) → Client → Stores → Type 0
Answered (requesting on initial true) j sent c s = Ends j on initial sent c
Answered (requesting on initial false) j sent c s = More j on initial sent c s
Answered (receiving on) j sent c s = (code : ℕ) × (c.operation ≡ Receiving on false code)
Answered aborting j sent c s = c.operation ≡ Aborting

pub record Due (st : Stage) (flag : Bool) (j : Fetch) (sent : List (List ℕ)) (h : GetHeard) (c : Client) (s : Stores) (o : Outcome) : Type 0 where
  pub stands : Stands j (held st flag) c s
  pub answered : Answered st j sent c s
  pub awaits : c.awaits ≡ await.Bytes
  pub said : o ≡ said.WantsBytes
  pub aborted : h.aborted ≡ flag
  pub only : flagged st flag

-- all of the request was sent
abbrev pub is_waiting : Stage → Bool
is_waiting (requesting on initial last) = last
is_waiting (receiving on) = true
is_waiting aborting = false

abbrev pub is_requesting : Stage → Bool
is_requesting (requesting on initial last) = true
is_requesting (receiving on) = false
is_requesting aborting = false

-- SRM is on
abbrev pub is_on : Stage → Bool
is_on (requesting on initial last) = on
is_on (receiving on) = on
is_on aborting = false

-- no response has come
abbrev pub is_first : Stage → Bool
is_first (requesting on initial last) = initial
is_first (receiving on) = false
is_first aborting = false

-- SRM is on once a response with these headers has come
abbrev pub on_after : Fetch → Stage → List Header → Bool
on_after j st x = is_on st || (wants j && (is_first st && is_enable (first header_id.single_response_mode x)))

-- ---- a packet that goes up

pub data Carries (j : Fetch) (o : Origin) (st : Stage) (sent : List (List ℕ)) (q : List ℕ) (s : State) (h : GetHeard) : Type 0 where
  -- one of the request
  request : (prior : List (List ℕ)) (ys : List (List Header)) (p : List ℕ) (x : List Header) (initial last : Bool)
      → st ≡ requesting false initial last → initial ≡ is_none prior
      → sent ≡ prior ++ (p ∷ []) → Holding prior ys → Up q op.Get last x → Holds (is_none prior && wants j) p x → Gathers false s ys → Early h
      → Carries j o st sent q s h
  -- the one that asks for the next part
  asks : (t : Thing (box_of o)) (out : List (List ℕ)) (d : List ℕ) (zs : List (List Header)) → st ≡ receiving false → t.on ≡ false → q ≡ next_bytes
      → Sends (box_of o) t out d s → Holding out zs → Story j (box_of o) t d zs h → Carries j o st sent q s h
  -- the Abort
  stops : st ≡ aborting → q ≡ abort_bytes j.id → Once j h → Carries j o st sent q s h

-- ---- a reply

-- what it means, with the server's state once it is sent
pub data Means (j : Fetch) (o : Origin) (st : Stage) (sent : List (List ℕ)) (code : ℕ) (x : List Header) (s : State) (h : GetHeard) : Type 0 where
  -- the request goes on, with SRM or without
  goes_on : (initial granted : Bool) (xs : List (List Header)) → st ≡ requesting false initial false → code ≡ 0x10 → on_after j st x ≡ granted
      → Holding sent xs → Gathers granted s xs → Early h → Means j o st sent code x s h
  -- the Get is refused, and nothing is open
  refuses : is_requesting st ≡ true → is_admitted o j.id ≡ false → Refuses code → busy s.engine.operation ≡ false → Early h
      → Means j o st sent code x s h
  -- the host has answered with a reply
  answers : (on initial : Bool) → st ≡ requesting on initial true → eqb code 0x10 ≡ false → busy s.engine.operation ≡ false → h.asked ≡ wish j ∷ [] → h.object ≡ none
      → h.parts ≡ bare
      → is_success code ≡ is_accepted (box_of o) h.answer → (is_success code ≡ true → carried_by x ≡ reply_part h.answer) → Means j o st sent code x s
      h
  -- a packet of the object, which others follow, without SRM
  more : (t : Thing (box_of o)) (out : List (List ℕ)) (d : List ℕ) (zs : List (List Header)) → is_waiting st ≡ true → t.on ≡ false → on_after j st x ≡ false
      → code ≡ 0x10
      → Sends (box_of o) t out d s → Holding out (zs ++ (x ∷ [])) → Story j (box_of o) t d zs h → Means j o st sent code x s h
  -- the last packet of the object
  whole : (t : Thing (box_of o)) (out : List (List ℕ)) (d : List ℕ) (zs : List (List Header)) → is_waiting st ≡ true → code ≡ 0x20
      → busy s.engine.operation ≡ false
      → thing_packets (box_of o) t (onto d (ending t.has)) ≡ all_sent out → Holding out (zs ++ (x ∷ [])) → Story j (box_of o) t d zs h → Means j o st
      sent code x s h
  -- the object cannot be sent on
  fails : (t : Thing (box_of o)) (d : List ℕ) (zs : List (List Header)) → is_waiting st ≡ true → code ≡ 0x50 → busy s.engine.operation ≡ false
      → Story j (box_of o) t d zs h → Means j o st sent code x s h
  -- the Abort is acknowledged
  stopped : st ≡ aborting → code ≡ 0x20 → busy s.engine.operation ≡ false → Once j h → Means j o st sent code x s h

-- ---- the end

-- what the run has told of the Get, once it is over with `o`
pub record Finished (j : Fetch) (origin : Origin) (h : GetHeard) (o : Outcome) : Type 0 where
  pub is_over_lem : is_over o ≡ true
  pub asked : Once j h
  -- an admitted Get that is not aborted asks, if its headers are within 65,535 bytes
  pub asks : h.aborted ≡ false → is_admitted origin j.id ≡ true → length (wish j) ≤ 65535 → h.asked ≡ wish j ∷ []
  pub success : h.aborted ≡ false → succeeded o ≡ (is_whole h.object h.last || is_accepted (box_of origin) h.answer)
  pub object : h.aborted ≡ false → is_whole h.object h.last ≡ true → h.object ≡ some h.parts
  pub reply : h.aborted ≡ false → is_accepted (box_of origin) h.answer ≡ true → h.parts ≡ reply_part h.answer
  pub code : (c : ℕ) → code_said o ≡ some c → (h.last ≡ some (sent_code c)) × (eqb c 0x10 ≡ false)
  pub number : (x : End) → o ≡ said.End x → x ≡ end.Disconnected
  -- it says Aborted only if the user aborted, Done only if not, and never Stopped
  pub stops : (c n : ℕ) → o ≡ said.Aborted c n → h.aborted ≡ true
  pub done : (c n : ℕ) → o ≡ said.Done c n → h.aborted ≡ false
  pub never : (c n : ℕ) → o ≡ said.Stopped c n → ⊥

-- the end of a server in a Get: its headers or the reply were too large
abbrev pub Large : ServerEnd → Type 0
Large x = (x ≡ serverEnd.HeadersTooLarge) ⊎ (x ≡ serverEnd.ReplyTooLarge)

-- ---- packets that follow one another

-- those of the request, which are not the first and which others follow
abbrev pub AllUp : List (List ℕ) → List (List Header) → Type 0
AllUp [] [] = Unit {0}
AllUp [] (v ∷ vs) = ⊥
AllUp (q ∷ qs) [] = ⊥
AllUp (q ∷ qs) (v ∷ vs) = Up q op.Get false v × Plainly false v × AllUp qs vs

-- those of the object, which others follow
abbrev pub AllDown : List (List ℕ) → List (List Header) → Type 0
AllDown [] [] = Unit {0}
AllDown [] (v ∷ vs) = ⊥
AllDown (y ∷ ys) [] = ⊥
AllDown (y ∷ ys) (v ∷ vs) = Down y 0x10 v × AllDown ys vs

-- the packets that went are the first of all
abbrev pub Prefix : Fetch → List (List ℕ) → Type 0
Prefix j sent = (rest : List (List ℕ)) × ((all_of j).sent ≡ sent ++ rest)

-- under SRM, a packet of the request or the Abort waits to be sent
pub data Busy (j : Fetch) (h : GetHeard) (sent : List (List ℕ)) (c : Client) (s : Stores) (o : Outcome) : Type 0 where
  sending : Stands j false c s → Waits j true sent c o s → h.aborted ≡ false → Busy j h sent c s o
  cancelling : (n : ℕ) → Stands j false c s → c.operation ≡ Aborting → c.awaits ≡ await.Sent → o ≡ said.Send n
      → take n s.request ≡ abort_bytes j.id → h.aborted ≡ true → Busy j h sent c s o

-- the last packet under way, and its headers if it is one of the request
pub data Closes (j : Fetch) (st : Stage) (q : List ℕ) (ws : List (List Header)) : Type 0 where
  last_one : (initial : Bool) (x : List Header) → st ≡ requesting true initial true → ws ≡ x ∷ [] → Up q op.Get true x → Plainly false x → Closes j st q ws
  cancels : st ≡ aborting → ws ≡ [] → q ≡ abort_bytes j.id → Closes j st q ws

-- the server waits for bytes
pub record Reader (o : Origin) (s : State) (t : ServerOutcome) : Type 0 where
  pub stays : Stays o s
  pub awaits : s.engine.awaits ≡ waits.Bytes
  pub told : t ≡ told.WantsBytes

-- the first of these headers grants SRM, if it leads
abbrev pub Granting : Bool → List (List Header) → Type 0
Granting lead [] = Unit {0}
Granting lead (x ∷ xs) = is_enable (first header_id.single_response_mode x) ≡ lead

-- once parts with these headers have come, SRM is on, or the next one turns it on
abbrev pub Turning : Fetch → Stage → Bool → List (List Header) → Type 0
Turning j st lead [] = (is_on st || (wants j && (is_first st && lead))) ≡ true
Turning j st lead (z ∷ zs) = is_on st ≡ true

-- the client takes the parts: it awaits the next one, or one waits for the user
pub data Taker (j : Fetch) (h : GetHeard) (lead : Bool) (zs : List (List Header)) (c : Client) (s : Stores) (o : Outcome) : Type 0 where
  awaiting-next : (st : Stage) (flag : Bool) (sent : List (List ℕ)) → Due st flag j sent h c s o → is_waiting st ≡ true → Turning j st lead zs
      → Taker j h lead zs c s o
  hands : (code k : ℕ) (b : Body) → Stands j false c s → c.operation ≡ Receiving true false code → c.awaits ≡ await.Taken → o ≡ said.Part k b
      → c.begun ≡ 0 → h.aborted ≡ false → Taker j h lead zs c s o

-- the last packet of the object, or the code instead of it, behind packets with the headers `xs`
pub data Last (box : ℕ) (t : Thing box) (out : List (List ℕ)) (d : List ℕ) (xs : List (List Header)) (code : ℕ) (x : List Header) (s : State) : Type 0
  where
    all-gone : code ≡ 0x20 → busy s.engine.operation ≡ false → thing_packets box t (onto d (ending t.has)) ≡ all_sent out
        → Holding out (xs ++ (x ∷ [])) → Last box t out d xs code x s
    breaks : code ≡ 0x50 → busy s.engine.operation ≡ false → Last box t out d xs code x s

-- the server under SRM: the next packet waits to be sent, or the last one, or the host is to give body bytes
pub data Source (box : ℕ) (t : Thing box) (out : List (List ℕ)) (d : List ℕ) (xs : List (List Header)) (s : State) (u : ServerOutcome) : Type 0 where
  next-waits : (y : List ℕ) (x : List Header) (n : ℕ) → Down y 0x10 x → s.engine.awaits ≡ waits.Taken → u ≡ told.Reply n
      → take n s.stores.reply ≡ y → Sends box t (out ++ (y ∷ [])) d s → Holding (out ++ (y ∷ [])) (xs ++ (x ∷ [])) → Granting t.lead (xs ++ (x ∷ []))
      → Source box t out d xs s u
  last-waits : (y : List ℕ) (code : ℕ) (x : List Header) (n : ℕ) → Down y code x → s.engine.awaits ≡ waits.Taken → u ≡ told.Reply n
      → take n s.stores.reply ≡ y → Last box t (out ++ (y ∷ [])) d xs code x s → Source box t out d xs s u
  asks-body : (r : HostRequest) → s.engine.awaits ≡ waits.Body → Reads box t out d s → u ≡ told.Request r → Source box t out d xs s u

-- ---- the phases

pub data GetJoint (j : Fetch) (o : Origin) (h : GetHeard) (l : Link) : Type 0 where
  -- a packet of the request waits to be sent
  turn : (sent : List (List ℕ)) (xs : List (List Header)) → Holding sent xs → Stands j false l.client l.stores
      → Waits j false sent l.client l.said l.stores → l.client.begun ≡ 0 → Rest o l.server l.told l.up
      → Gathers false l.server xs → l.down ≡ []
      → Early h → h.aborted ≡ false → GetJoint j o h l
  -- a part of the object waits for the user
  handing : (t : Thing (box_of o)) (out : List (List ℕ)) (d : List ℕ) (zs : List (List Header)) (code k : ℕ) (b : Body)
      → t.on ≡ false → Stands j false l.client l.stores
      → l.client.operation ≡ Receiving false false code → l.client.awaits ≡ await.Taken → l.said ≡ said.Part k b → l.client.begun ≡ 0
      → Rest o l.server l.told l.up → Sends (box_of o) t out d l.server → l.down ≡ [] → Holding out zs → Story j (box_of o) t d zs h
      → h.aborted ≡ false → GetJoint j o h l
  -- the last part waits for the user
  last-part : (on : Bool) (code k : ℕ) (b : Body) → Stands j false l.client l.stores → l.client.operation ≡ Receiving on true code
      → l.client.awaits ≡ await.Taken → l.said ≡ said.Part k b → l.client.begun ≡ 0 → Rest o l.server l.told l.up
      → busy l.server.engine.operation ≡ false → l.down ≡ [] → ((n : ℕ) → Finished j o h (said.Done code n)) → GetJoint j o h l
  -- the packet that asks for the next part waits to be sent
  asking : (t : Thing (box_of o)) (out : List (List ℕ)) (d : List ℕ) (zs : List (List Header)) (code n : ℕ) → t.on ≡ false → Stands j false l.client l.stores
      → l.client.operation ≡ Receiving false false code → l.client.awaits ≡ await.Sent → l.said ≡ said.Send n → take n l.stores.request ≡
      next_bytes
      → l.client.begun ≡ 0 → Rest o l.server l.told l.up → Sends (box_of o) t out d l.server → l.down ≡ [] → Holding out zs
      → Story j (box_of o) t d zs h → h.aborted ≡ false → GetJoint j o h l
  -- the Abort waits to be sent
  stopping : (n : ℕ) → Stands j false l.client l.stores → l.client.operation ≡ Aborting → l.client.awaits ≡ await.Sent
      → l.said ≡ said.Send n
      → take n l.stores.request ≡ abort_bytes j.id → l.client.begun ≡ 0 → Rest o l.server l.told l.up → l.down ≡ [] → Once j h
      → h.aborted ≡ true → GetJoint j o h l
  -- a packet is under way to the server
  under_way : (st : Stage) (flag : Bool) (sent : List (List ℕ)) (q : List ℕ)
      → Due st flag j sent h l.client l.stores l.said → l.client.begun ≡ 0 → UnderWay o q l.server l.told l.up
      → Carries j o st sent q l.server h → l.down ≡ [] → GetJoint j o h l
  -- the host is asked
  at_host : (flag on initial confirm : Bool) (sent : List (List ℕ)) (g : Gathered) (r : HostRequest)
      → Due (requesting on initial true) flag j sent h l.client l.stores l.said → (confirm ≡ true → (wants j && initial) ≡ true)
      → l.client.begun ≡ 0 → Stays o l.server → l.server.engine.awaits ≡ waits.Get → l.server.engine.operation ≡ Getting g on confirm false
      → l.told ≡ told.Request r → l.up ≡ [] → l.down ≡ [] → AskedOnce j h → GetJoint j o h l
  -- the host is to give body bytes
  reading : (st : Stage) (flag : Bool) (sent : List (List ℕ)) (t : Thing (box_of o)) (out : List (List ℕ)) (d : List ℕ) (zs : List (List Header))
      (r : HostRequest)
      → Due st flag j sent h l.client l.stores l.said → is_waiting st ≡ true → t.on ≡ false → is_on st ≡ false → l.client.begun ≡ 0 → Stays o l.server
      → l.server.engine.awaits ≡ waits.Body → Reads (box_of o) t out d l.server → l.told ≡ told.Request r → l.up ≡ [] → l.down ≡ []
      → Holding out zs → Story j (box_of o) t d zs h → GetJoint j o h l
  -- the host is to acknowledge the Abort
  acknowledging : (sent : List (List ℕ)) (r : HostRequest) → Due aborting true j sent h l.client l.stores l.said → l.client.begun ≡ 0
      → Stays o l.server → l.server.engine.awaits ≡ waits.Acknowledgement → l.told ≡ told.Request r → l.up ≡ [] → l.down ≡ [] → Once j h
      → GetJoint j o h l
  -- a reply waits to be sent
  replied : (st : Stage) (flag : Bool) (sent : List (List ℕ)) (y : List ℕ) (code : ℕ) (x : List Header) (n : ℕ)
      → Due st flag j sent h l.client l.stores l.said → l.client.begun ≡ 0 → Down y code x → Means j o st sent code x l.server h
      → Stays o l.server → l.server.engine.awaits ≡ waits.Taken → l.told ≡ told.Reply n → take n l.server.stores.reply ≡ y
      → l.up ≡ [] → l.down ≡ [] → GetJoint j o h l
  -- a reply is under way to the client
  coming : (st : Stage) (flag : Bool) (sent : List (List ℕ)) (y : List ℕ) (code : ℕ) (x : List Header)
      → Due st flag j sent h l.client l.stores l.said → Down y code x → Means j o st sent code x l.server h → Rest o l.server l.told
      l.up
      → Half y l.stores.packet l.down l.client.begun → h.last ≡ some (sent_code code) → GetJoint j o h l
  -- the server has ended
  ended : (st : Stage) (flag : Bool) (sent : List (List ℕ)) (x : ServerEnd) → Due st flag j sent h l.client l.stores l.said
      → l.client.begun ≡ 0
      → l.server.engine.awaits ≡ waits.Nothing → l.told ≡ told.End x → Large x → l.down ≡ [] → Lost j h → h.object ≡ none
      → is_accepted (box_of o) h.answer ≡ false → GetJoint j o h l
  -- under SRM, packets of the request are under way, and another or the Abort waits to be sent
  streaming : (sent : List (List ℕ)) (xs : List (List Header)) (qs : List (List ℕ)) (vs : List (List Header))
      → Busy j h sent l.client l.stores l.said → l.client.begun ≡ 0 → Prefix j sent → Holding sent (xs ++ vs) → AllUp qs vs
      → Reader o l.server l.told → Gathers true l.server xs → Queue qs l.server.stores.packet l.up l.server.engine.begun
      → l.down ≡ [] → Early h → GetJoint j o h l
  -- the last of them or the Abort is under way behind the others
  closing : (st : Stage) (flag : Bool) (sent : List (List ℕ)) (xs : List (List Header)) (qs : List (List ℕ)) (vs : List (List Header)) (q : List ℕ)
      (ws : List (List Header))
      → Due st flag j sent h l.client l.stores l.said → l.client.begun ≡ 0 → Prefix j sent → Holding sent (xs ++ (vs ++ ws)) → AllUp qs vs
      → Closes j st q ws → Reader o l.server l.told → Gathers true l.server xs
      → Queue (qs ++ (q ∷ [])) l.server.stores.packet l.up l.server.engine.begun → l.down ≡ [] → Early h → GetJoint j o h l
  -- the server has ended, and the client goes on sending
  lost : (sent : List (List ℕ)) (x : ServerEnd) → Busy j h sent l.client l.stores l.said → l.client.begun ≡ 0
      → l.server.engine.awaits ≡ waits.Nothing → l.told ≡ told.End x → Large x → l.down ≡ [] → Early h → 65535 < length (wish j) → GetJoint j o h l
  -- under SRM, packets of the object are under way to the client, and the next one is being made or waits to be sent
  pouring : (t : Thing (box_of o)) (out : List (List ℕ)) (d : List ℕ) (zs : List (List Header)) (ys : List (List ℕ)) (vs : List (List Header))
      → t.on ≡ true → Taker j h t.lead zs l.client l.stores l.said → AllDown ys vs
      → Queue ys l.stores.packet l.down l.client.begun → Holding out (zs ++ vs) → Granting t.lead (zs ++ vs) → l.up ≡ []
      → Stays o l.server → Source (box_of o) t out d (zs ++ vs) l.server l.told → Story j (box_of o) t d zs h → GetJoint j o h l
  -- its last packet is under way behind the others
  draining : (t : Thing (box_of o)) (out : List (List ℕ)) (d : List ℕ) (zs : List (List Header)) (ys : List (List ℕ)) (vs : List (List Header))
      (y : List ℕ) (code : ℕ) (x : List Header)
      → t.on ≡ true → Taker j h t.lead zs l.client l.stores l.said → AllDown ys vs → Down y code x
      → Queue (ys ++ (y ∷ [])) l.stores.packet l.down l.client.begun → Granting t.lead (zs ++ vs)
      → Rest o l.server l.told l.up → Last (box_of o) t out d (zs ++ vs) code x l.server → Story j (box_of o) t d zs h
      → h.last ≡ some (sent_code code) → GetJoint j o h l

-- what the Get has left as it was
pub record Same (j : Fetch) (o : Origin) (l : Link) : Type 0 where
  pub settings : l.client.settings ≡ j.settings
  pub remote : l.client.remote_max_packet_length ≡ j.remote
  pub id : l.client.connection_id ≡ j.id
  pub server : l.server.engine.settings ≡ o.settings
  pub peer : l.server.engine.peer ≡ o.peer
  pub tables : l.server.tables ≡ o.tables

-- the client has ended, since the server did; or nothing is open
pub data Rested (j : Fetch) (o : Origin) (l : Link) : Type 0 where
  both-ended : (x : ServerEnd) → is_end l.said ≡ true → l.told ≡ told.End x → Large x → Rested j o l
  is_idle : AtRest (box_of o) l → Same j o l → Rested j o l

-- a move leads on, or to the end
pub data GetNext (j : Fetch) (o : Origin) (h : GetHeard) (l : Link) : Type 0 where
  goes : GetJoint j o h l → GetNext j o h l
  over : Finished j o h l.said → Rested j o l → GetNext j o h l
