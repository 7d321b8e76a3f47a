-- Client and server in a Put, with Single Response Mode (SRM) or without, aborted or not: what holds of both and of the two queues between any two
-- moves, by phases, from the call of the Put to its end. What the client does is a mode of its own, so that a move of one end leaves what is said
-- of the other as it is.
use mathlib.Core.Path.{◌≡◌}
use mathlib.Core.List.{List, [], ◌∷◌, ◌++◌}
use mathlib.Core.Bool.{Bool, true, false, ◌&&◌}
use mathlib.Core.Option.{Option, none, some}
use mathlib.Core.Logic.{◌⊎◌}
use Prim.Native.Nat.{ℕ, ◌≤◌, ◌<◌}
use lib.ListN.{length, take, drop}
use lib.Dec.{eqb}
use Rattle.base.specs.Pick.{pick}
use Rattle.packet.specs.HeaderIds as header_id
use Rattle.packet.specs.FirstByte.{byte_of}
use Rattle.packet.specs.Codes.{is_success, sent_code}
use Rattle.packet.specs.Header.{Header, first, all_bytes}
use Rattle.packet.specs.Packet.{Request as Packet, packet_bytes, request_of}
use Rattle.packet.specs.ResponsePacket.{response_packet}
use Rattle.packet.specs.declared.opcode.Opcode.TheVariants as op
use Rattle.packet.proofs.HeaderWrites.{AllShaped}
use Rattle.journal.specs.Record.{Record, size_of}
use Rattle.journal.specs.Journal.{is_enable}
use Rattle.incoming.specs.Gather.{gathering as gatheringOf}
use Rattle.incoming.specs.Survey.{survey_of}
use Rattle.incoming.specs.declared.gather.Gathered.{Gathered}
use Rattle.incoming.proofs.Gathers.{PutAgrees}
use Rattle.incoming.proofs.Queued.{IsWhole, Half}
use Rattle.server.specs.declared.Operation.TheVariants.{Putting}
use Rattle.server.specs.declared.Await.TheVariants as waits
use Rattle.server.specs.declared.End.{End as ServerEnd}
use Rattle.server.specs.declared.End.TheVariants as server_end
use Rattle.server.specs.declared.Engine.{Engine}
use Rattle.server.specs.declared.HostRequest.{HostRequest}
use Rattle.server.specs.declared.Outcome.{Outcome as ServerOutcome}
use Rattle.server.specs.declared.Outcome.TheVariants as told
use Rattle.model.specs.Step.{limit_of}
use Rattle.model.specs.Guard.{sound_operation}
use Rattle.model.specs.Dispatch.{known_in, busy}
use Rattle.model.specs.Runs.{State}
use Rattle.model.proofs.Fit.{Base}
use Rattle.model.proofs.ServerPut.{Refuses, put_passes}
use Rattle.client_model.specs.Leading.{leading}
use Rattle.client_model.specs.Step.{Stores}
use Rattle.client_model.specs.Guard.{short, sound_operation as soundClient}
use Rattle.client_model.specs.declared.End.{End}
use Rattle.client_model.specs.declared.End.TheVariants as end
use Rattle.client_model.specs.declared.Operation.TheVariants.{Aborting}
use Rattle.client_model.specs.declared.Await.TheVariants as await
use Rattle.client_model.specs.declared.Client.{Client}
use Rattle.client_model.specs.declared.Outcome.{Outcome}
use Rattle.client_model.specs.declared.Outcome.TheVariants as said
use Rattle.client_model.proofs.Conveyed.{Holding, carried_all}
use Rattle.client_model.proofs.Requests.{put_record}
use Rattle.client_model.proofs.Putting.{Job, all_of, Keeps, Waits, Asks, Answered, Up}
use Rattle.link.specs.Link.{Link}
use Rattle.link.specs.Told.{is_over, code_said, succeeded, is_accepted}
use Rattle.link.proofs.Moves.{Heard, is_end}

-- ---- the server

-- between two calls, whatever is awaited: `box` is the longest packet that its client takes; SRM is not on for the session
pub record Serves (box : ℕ) (s : State) : Type 0 where
  pub base : Base s.engine s.stores
  pub begun : s.engine.begun < 65535
  pub counts : sound_operation (limit_of s.engine) s.engine.operation ≡ true
  pub tables : 320 ≤ length s.tables
  pub srm : s.engine.peer.srm_enabled ≡ false
  pub remote : s.engine.peer.remote_max_packet_length ≡ box

-- a reply that the client can read
pub record Down (y : List ℕ) (code : ℕ) : Type 0 where
  pub whole : IsWhole y
  pub headers : List Header
  pub final : Bool
  pub reads : response_packet false y ≡ some (record { code = code; final = final; bytes = y; headers = headers })
  pub first : take 1 y ≡ sent_code code ∷ []

-- the server waits for the next packet, with nothing of it come
pub record Ready (box : ℕ) (l : Link) : Type 0 where
  pub serves : Serves box l.server
  pub awaits : l.server.engine.awaits ≡ waits.Bytes
  pub told : l.told ≡ told.WantsBytes
  pub none-begun : l.server.engine.begun ≡ 0
  pub up : l.up ≡ []

-- ---- nothing is open

-- both ends are at rest, and nothing is on the stream; `box` is the longest packet that the server sends
pub record AtRest (box : ℕ) (l : Link) : Type 0 where
  pub room : short l.stores ≡ false
  pub begun : l.client.begun < 65535
  pub latest : l.client.length ≤ 65535
  pub least : 255 ≤ l.client.remote_max_packet_length
  pub most : l.client.remote_max_packet_length ≤ 65535
  pub counts : soundClient l.client.operation ≡ true
  pub awaits : l.client.awaits ≡ await.Call
  pub stays : l.client.aborting ≡ false
  pub ready : Ready box l
  pub idle : busy l.server.engine.operation ≡ false
  pub down : l.down ≡ []

-- the client has ended, or nothing is open
abbrev pub Rests : ℕ → Link → Type 0
Rests box l = (is_end l.said ≡ true) ⊎ AtRest box l

-- ---- what is put, and where

-- these are the headers of the first packet of the Put, with some body
pub record First (j : Job) (x : List Header) : Type 0 where
  pub body : Option (List ℕ)
  pub packet : List ℕ
  pub rest : List (List ℕ)
  pub is : (all_of j body).sent ≡ packet ∷ rest
  pub holds : drop 3 packet ≡ all_bytes x
  pub shaped : AllShaped x

-- the Put, the server before it, and whether that lets the first packet pass
pub record Deal : Type 0 where
  pub job : Job
  pub server : State
  pub passes : Bool
  pub as_said : (e : Engine) (t : List ℕ) (r : Packet) → e.settings ≡ server.engine.settings → e.peer ≡ server.engine.peer → t ≡ server.tables
      → r.opcode ≡ op.Put → First job r.headers
      → put_passes server.engine.operation e r (survey_of (some r.headers)) (known_in e t (survey_of (some r.headers))) ≡ passes

-- the longest packet that the client takes, and the Put limit
abbrev pub box_of : Deal → ℕ
box_of g = g.server.engine.peer.remote_max_packet_length

abbrev pub most_of : Deal → ℕ
most_of g = limit_of g.server.engine

-- the record of the Put, with these bytes given
abbrev pub record_for : Deal → List ℕ → Record
record_for g d = put_record g.job.id g.job.hs (pick g.job.has (some d) none)

-- why a Put gives no record: `ab` says that it was aborted
pub data Reason (g : Deal) (ab : Bool) (d : List ℕ) : Type 0 where
  by_abort : ab ≡ true → Reason g ab d
  turned_away_lem : g.passes ≡ false → Reason g ab d
  too_long : most_of g < length d → Reason g ab d
  too_many : 65535 < length (leading g.job.id false ++ g.job.hs) → Reason g ab d

-- what holds of a Put that gives one
pub record Gave (g : Deal) (ab : Bool) (d : List ℕ) : Type 0 where
  pub passes : g.passes ≡ true
  pub within : size_of (record_for g d) ≤ most_of g
  pub kept : length (leading g.job.id false ++ g.job.hs) ≤ 65535
  pub stays : ab ≡ false

-- ---- the client

-- what it does: a packet waits to be sent; it asks for body bytes; it awaits the response to a packet, which is the last one or not, and the
-- first one or not; its Abort waits to be sent; it awaits the response to that
pub data Mode : Type 0 where
  sends reads aborts aborted : Mode
  awaits : Bool → Bool → Mode

module _ (j : Job) (srm : Bool) (sent : List (List ℕ)) (ab : Bool) (d : List ℕ) (f : Bool) (c : Client) (s : Stores) (o : Outcome) where
  pub record Sends : Type 0 where
    pub keeps : Keeps j c s
    pub waits : Waits j srm sent d c o s
    pub plain : ab ≡ false
    pub final : f ≡ false

  pub record Reads : Type 0 where
    pub keeps : Keeps j c s
    pub asks : Asks j srm sent d c o s
    pub plain : ab ≡ false
    pub final : f ≡ false

  pub record Due (last initial : Bool) : Type 0 where
    pub keeps : Keeps j c s
    pub answered : Answered last j srm initial sent d c
    pub awaits : c.awaits ≡ await.Bytes
    pub said : o ≡ said.WantsBytes
    pub flag : c.aborting ≡ ab
    pub stays : last ≡ true → ab ≡ false
    pub final : f ≡ last

  -- the bytes of its Abort
  abbrev pub abort_bytes : List ℕ
  abort_bytes = packet_bytes (byte_of op.Abort true) [] (leading j.id false)

  pub record Aborts : Type 0 where
    pub keeps : Keeps j c s
    pub operation : c.operation ≡ Aborting
    pub awaits : c.awaits ≡ await.Sent
    pub said : o ≡ said.Send (length abort_bytes)
    pub request : take (length abort_bytes) s.request ≡ abort_bytes
    pub stays : c.aborting ≡ false
    pub gone : ab ≡ true
    pub final : f ≡ false

  pub record Aborted : Type 0 where
    pub keeps : Keeps j c s
    pub operation : c.operation ≡ Aborting
    pub awaits : c.awaits ≡ await.Bytes
    pub said : o ≡ said.WantsBytes
    pub stays : c.aborting ≡ false
    pub gone : ab ≡ true
    pub final : f ≡ false

  abbrev pub Stands : Mode → Type 0
  Stands sends = Sends
  Stands reads = Reads
  Stands (awaits last initial) = Due last initial
  Stands aborts = Aborts
  Stands aborted = Aborted

-- ---- packets under way to the server

-- a packet of the Put, with what it was made of, or the Abort
pub data Post : Type 0 where
  put : (q p : List ℕ) (x : List Header) (last initial : Bool) → Post
  cancel : List ℕ → Post

abbrev pub wire : Post → List ℕ
wire (put q p x last initial) = q
wire (cancel q) = q

abbrev pub wires : List Post → List ℕ
wires [] = []
wires (p ∷ ps) = wire p ++ wires ps

-- the headers of those of the Put
abbrev pub heads : List Post → List (List Header)
heads [] = []
heads (put q p x last initial ∷ ps) = x ∷ heads ps
heads (cancel q ∷ ps) = heads ps

-- the server can read it
pub record Cancels (q : List ℕ) : Type 0 where
  pub whole : IsWhole q
  pub headers : List Header
  pub reads : request_of q ≡ some (record { opcode = op.Abort; final = true; bytes = q; headers = headers })

abbrev pub Good : Job → Post → Type 0
Good j (put q p x last initial) = Up j initial q last p x
Good j (cancel q) = Cancels q

abbrev pub AllGood : Job → List Post → Type 0
AllGood j [] = Unit {0}
AllGood j (p ∷ ps) = Good j p × AllGood j ps

-- none of them is the last
abbrev pub IsMore : Post → Type 0
IsMore (put q p x last initial) = last ≡ false
IsMore (cancel q) = ⊥

abbrev pub AllMore : List Post → Type 0
AllMore [] = Unit {0}
AllMore (p ∷ ps) = IsMore p × AllMore ps

-- without SRM there are none
abbrev pub Streams : Bool → List Post → Type 0
Streams srm ps = AllMore ps × (srm ≡ false → ps ≡ [])

-- such packets and one more at the end
pub record Closing (srm : Bool) (ps : List Post) (final : Post) : Type 0 where
  pub before : List Post
  pub is : ps ≡ before ++ (final ∷ [])
  pub streams : Streams srm before

pub record Closes (srm last initial : Bool) (ps : List Post) : Type 0 where
  pub wire : List ℕ
  pub made : List ℕ
  pub headers : List Header
  pub closing : Closing srm ps (put wire made headers last initial)

pub record Stops (srm : Bool) (ps : List Post) : Type 0 where
  pub wire : List ℕ
  pub closing : Closing srm ps (cancel wire)

-- which are under way, by what the client does
abbrev pub Order : Mode → Bool → List Post → Type 0
Order sends srm ps = Streams srm ps
Order reads srm ps = Streams srm ps
Order (awaits last initial) srm ps = Closes srm last initial ps
Order aborts srm ps = Streams srm ps
Order aborted srm ps = Stops srm ps

-- what the packets that went hold, until an Abort
abbrev pub HoldsIn : Mode → List (List ℕ) → List (List Header) → Type 0
HoldsIn sends sent xs = Holding sent xs
HoldsIn reads sent xs = Holding sent xs
HoldsIn (awaits last initial) sent xs = Holding sent xs
HoldsIn aborts sent xs = Unit {0}
HoldsIn aborted sent xs = Unit {0}

-- they are the queue, of whose first some bytes have come
pub record Begun (q p up behind : List ℕ) (b : ℕ) : Type 0 where
  pub rest : List ℕ
  pub half : Half q p rest b
  pub is : up ≡ rest ++ behind

abbrev pub Under : List Post → List ℕ → List ℕ → ℕ → Type 0
Under [] p up b = (up ≡ []) × (b ≡ 0)
Under (x ∷ xs) p up b = Begun (wire x) p up (wires xs) b

-- ---- the server in it

-- what the Put leaves as it was
pub record Same (g : Deal) (s : State) : Type 0 where
  pub settings : s.engine.settings ≡ g.server.engine.settings
  pub peer : s.engine.peer ≡ g.server.engine.peer
  pub tables : s.tables ≡ g.server.tables

pub record Server (g : Deal) (s : State) : Type 0 where
  pub serves : Serves (box_of g) s
  pub same : Same g s

-- what it has gathered of packets with these headers; `srm` says that SRM is on
pub data Gathers (g : Deal) (srm : Bool) (s : State) (xs : List (List Header)) : Type 0 where
  none_yet : xs ≡ [] → s.engine.operation ≡ g.server.engine.operation → busy s.engine.operation ≡ false → srm ≡ false → Gathers g srm s xs
  gathered : (k : Gathered) → s.engine.operation ≡ Putting k srm
      → PutAgrees (limit_of s.engine) (gatheringOf k s.stores.headers s.stores.body) (carried_all xs) → g.passes ≡ true → Gathers g srm s xs

-- what a reply to the Put means, with the server's state once it is sent: `hs` are its headers
pub data MeansPut (g : Deal) (last initial : Bool) (xs : List (List Header)) (code : ℕ) (hs : List Header) (s : State) (ab : Bool) (h : Heard) : Type
    0 where
  -- the Put goes on, with SRM or without
  goes_on : last ≡ false → code ≡ 0x10 → (granted : Bool) → (g.job.wants && (initial && is_enable (first header_id.single_response_mode hs))) ≡ granted
      → Gathers g granted s xs → h.records ≡ [] → h.answer ≡ none → MeansPut g last initial xs code hs s ab h
  -- the Put is refused, and nothing is open
  refuses : Refuses code → busy s.engine.operation ≡ false → h.records ≡ [] → h.answer ≡ none → Reason g ab h.given
      → MeansPut g last initial xs code hs s ab h
  -- the host has the record, and has answered
  answers : last ≡ true → busy s.engine.operation ≡ false → h.records ≡ carried_all xs ∷ [] → is_success code ≡ is_accepted (box_of g) h.answer
      → eqb code 0x10 ≡ false → Gave g false h.given → MeansPut g last initial xs code hs s ab h

-- the reply to an Abort
pub record MeansAbort (code : ℕ) (s : State) (h : Heard) : Type 0 where
  pub idle : busy s.engine.operation ≡ false
  pub final : eqb code 0x10 ≡ false
  pub records : h.records ≡ []
  pub answer : h.answer ≡ none

abbrev pub Means : Mode → Deal → List (List Header) → ℕ → List Header → State → Bool → Heard → Type 0
Means sends g xs code hs s ab h = ⊥
Means reads g xs code hs s ab h = ⊥
Means (awaits last initial) g xs code hs s ab h = MeansPut g last initial xs code hs s ab h
Means aborts g xs code hs s ab h = ⊥
Means aborted g xs code hs s ab h = MeansAbort code s h

-- ---- the phases

-- the final packet has gone
abbrev pub IsFinal : Mode → Type 0
IsFinal sends = ⊥
IsFinal reads = ⊥
IsFinal (awaits last initial) = last ≡ true
IsFinal aborts = ⊥
IsFinal aborted = ⊥

-- the ends of a server that ends in a Put
pub data Ended : ServerEnd → Type 0 where
  headers_too_large : Ended server_end.HeadersTooLarge
  reply_too_large : Ended server_end.ReplyTooLarge

-- what the host got before the server ended
pub data Left (g : Deal) (mode : Mode) (xs : List (List Header)) (ab : Bool) (h : Heard) : Type 0 where
  nothing_left : h.records ≡ [] → Reason g ab h.given → Left g mode xs ab h
  record-left : IsFinal mode → h.records ≡ carried_all xs ∷ [] → Gave g false h.given → Left g mode xs ab h

abbrev pub Client' : Deal → Mode → Bool → List (List ℕ) → Bool → Heard → Link → Type 0
Client' g mode srm sent ab h l = Stands g.job srm sent ab h.given h.final l.client l.stores l.said mode

pub data Joint (g : Deal) (ab : Bool) (h : Heard) (l : Link) : Type 0 where
  -- the server reads
  going : (mode : Mode) (srm : Bool) (sent : List (List ℕ)) (xs : List (List Header)) (ps : List Post) → Client' g mode srm sent ab h l
      → l.client.begun ≡ 0 → HoldsIn mode sent (xs ++ heads ps) → AllGood g.job ps → Order mode srm ps
      → Server g l.server → l.server.engine.awaits ≡ waits.Bytes → l.told ≡ told.WantsBytes → Gathers g srm l.server xs
      → Under ps l.server.stores.packet l.up l.server.engine.begun → l.down ≡ [] → h.records ≡ [] → h.answer ≡ none → Joint g ab h l
  -- the host has the record and is to answer
  at_host : (srm initial : Bool) (sent : List (List ℕ)) (xs : List (List Header)) (r : HostRequest) → Client' g (awaits true initial) srm sent ab h l
      → l.client.begun ≡ 0 → Holding sent xs → Server g l.server → l.server.engine.awaits ≡ waits.Reply → l.told ≡ told.Request r
      → l.up ≡ [] → l.down ≡ [] → h.records ≡ carried_all xs ∷ [] → h.answer ≡ none → Gave g false h.given → Joint g ab h l
  -- the host has heard of the Abort
  at_abort : (srm : Bool) (sent : List (List ℕ)) (r : HostRequest) → Client' g aborted srm sent ab h l → l.client.begun ≡ 0
      → Server g l.server → l.server.engine.awaits ≡ waits.Acknowledgement → l.told ≡ told.Request r
      → l.up ≡ [] → l.down ≡ [] → h.records ≡ [] → h.answer ≡ none → Joint g ab h l
  -- a reply waits to be sent
  replied : (mode : Mode) (srm : Bool) (sent : List (List ℕ)) (xs : List (List Header)) (y : List ℕ) (code : ℕ) → Client' g mode srm sent ab h l
      → l.client.begun ≡ 0 → HoldsIn mode sent xs → (w : Down y code) → Means mode g xs code w.headers l.server ab h
      → Server g l.server → l.server.engine.awaits ≡ waits.Taken → l.server.engine.begun ≡ 0 → l.told ≡ told.Reply (length y)
      → take (length y) l.server.stores.reply ≡ y → l.up ≡ [] → l.down ≡ [] → Joint g ab h l
  -- a reply is under way to the client
  coming : (mode : Mode) (srm : Bool) (sent : List (List ℕ)) (xs : List (List Header)) (y : List ℕ) (code : ℕ) → Client' g mode srm sent ab h l
      → HoldsIn mode sent xs → (w : Down y code) → Means mode g xs code w.headers l.server ab h
      → Server g l.server → l.server.engine.awaits ≡ waits.Bytes → l.server.engine.begun ≡ 0 → l.told ≡ told.WantsBytes → l.up ≡ []
      → Half y l.stores.packet l.down l.client.begun → h.last ≡ some (sent_code code) → Joint g ab h l
  -- the server has ended
  ended : (mode : Mode) (srm : Bool) (sent : List (List ℕ)) (xs : List (List Header)) (x : ServerEnd) → Client' g mode srm sent ab h l
      → l.client.begun ≡ 0 → HoldsIn mode sent xs → Same g l.server → l.server.engine.awaits ≡ waits.Nothing → l.told ≡ told.End x → Ended x
      → l.down ≡ [] → Left g mode xs ab h → is_accepted (box_of g) h.answer ≡ false → Joint g ab h l

-- ---- the end

-- what the run has told of the Put, once it is over with `o` and the server has said `t`
pub record Finished (g : Deal) (ab : Bool) (h : Heard) (o : Outcome) (t : ServerOutcome) : Type 0 where
  pub is_over_lem : is_over o ≡ true
  pub one : ((h.records ≡ record_for g h.given ∷ []) × Gave g ab h.given) ⊎ ((h.records ≡ []) × Reason g ab h.given)
  pub success : succeeded o ≡ is_accepted (box_of g) h.answer
  pub sure : succeeded o ≡ true → h.records ≡ record_for g h.given ∷ []
  pub code : (c : ℕ) → code_said o ≡ some c → (h.last ≡ some (sent_code c)) × (eqb c 0x10 ≡ false)
  pub number : (x : End) → o ≡ said.End x → (x ≡ end.Disconnected) × (y : ServerEnd) × (t ≡ told.End y) × Ended y
  pub done : (c n : ℕ) → o ≡ said.Done c n → h.final ≡ true
  pub stopped : (c n : ℕ) → o ≡ said.Stopped c n → h.final ≡ false
  pub aborted : (c n : ℕ) → o ≡ said.Aborted c n → (h.final ≡ false) × (ab ≡ true)

-- what is left as it was
pub record Unchanged (g : Deal) (l : Link) : Type 0 where
  pub settings : l.client.settings ≡ g.job.settings
  pub remote : l.client.remote_max_packet_length ≡ g.job.remote
  pub id : l.client.connection_id ≡ g.job.id
  pub server : Same g l.server

-- a move leads on, or to the end
pub data Next (g : Deal) (ab : Bool) (h : Heard) (l : Link) : Type 0 where
  goes : Joint g ab h l → Next g ab h l
  over : Finished g ab h l.said l.told → Rests (box_of g) l → Unchanged g l → Next g ab h l
