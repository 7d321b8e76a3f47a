-- What holds of the engine and the stores between two calls, and of what a step leads to: the state is sound, the stores have room, and the
-- host was told what is awaited. Assumes nothing.
use mathlib.Core.Path.{◌≡◌, refl}
use mathlib.Core.List.{List, []}
use mathlib.Core.Bool.{Bool, true, false, ◌&&◌, ◌||◌, false≢true, true≢false}
use Prim.Native.Nat.{ℕ, ◌≤◌, ◌<◌}
use native.Mathlib.Omega.{arith}
use lib.ListN.{length, take}
use lib.Dec.{ltb}
use borrow.Author.Tests.{ltb-false, lt-ltb, le-ltb, le-leb}
use Rattle.base.specs.Pick.{pick}
use Rattle.packet.specs.Codes.{sent_code}
use Rattle.packet.specs.Packet.{packet_bytes}
use Rattle.journal.specs.Calls.{goes}
use Rattle.incoming.specs.Frame.{frame_end}
use Rattle.incoming.specs.declared.frame.Frame.TheVariants.{More}
use Rattle.incoming.specs.declared.gather.Gathered.{Gathered}
use Rattle.outgoing.specs.declared.object.Outgoing.{Outgoing}
use Rattle.outgoing.specs.declared.object.Chunk.{Chunk}
use Rattle.connection.specs.Reply.{front}
use Rattle.connection.specs.declared.peer.Peer.{Peer}
use Rattle.model.specs.Step.{Stores, with_headers, with_reply, engine_with, Done, done, DoneTabled, wants, asks, ends, replies, replies_code, continue_bytes, continues, limit_of}
use Rattle.model.specs.Guard.{short, short_tables, sound_operation, sound}
use Rattle.model.specs.Runs.{State}
use Rattle.model.specs.Refusals.{Waits, bytes, taking, reply, object, acknowledgement, password, nonce, credentials, nothing, reading, asked, told, verdict_of}
use Rattle.server.specs.declared.Operation.{Operation}
use Rattle.server.specs.declared.Operation.TheVariants.{Nothing, Trailing, Putting, Getting, Sending, Gathering as GatheringOp, Connecting, Draining}
use Rattle.connection.specs.Peer.{ConnectionId}
use Rattle.server.specs.declared.Await.{Await}
use Rattle.server.specs.declared.Await.TheVariants as await
use Rattle.server.specs.declared.End.{End}
use Rattle.server.specs.declared.Engine.{Engine}
use Rattle.server.specs.declared.HostRequest.{HostRequest}
use Rattle.server.specs.declared.Outcome.{Outcome}
use Rattle.server.specs.declared.Outcome.TheVariants as outcome
use Rattle.connection.proofs.Front.{front_length}
use Rattle.connection.proofs.Standings.{PeerFits, own_fits}
use Rattle.table.proofs.Remembering.{SameNonces}
use Rattle.incoming.proofs.Frames.{Octets}

-- ---- tests

pub and_left : (a b : Bool) → (a && b) ≡ true → a ≡ true
and_left true b h = refl
and_left false b h = h

pub and_right : (a b : Bool) → (a && b) ≡ true → b ≡ true
and_right true b h = h
and_right false b h = absurd (false≢true h)

pub or_left : (a b : Bool) → (a || b) ≡ false → a ≡ false
or_left true b h = h
or_left false b h = refl

pub or_right : (a b : Bool) → (a || b) ≡ false → b ≡ false
or_right true b h = absurd (true≢false h)
or_right false b h = h

-- ---- the stores have room

pub record Room (limit : ℕ) (s : Stores) : Type 0 where
  pub packet : 65535 ≤ length s.packet
  pub headers : 65535 ≤ length s.headers
  pub reply : 65535 ≤ length s.reply
  pub body : limit ≤ length s.body

pub room : (limit : ℕ) (s : Stores) → short limit s ≡ false → Room limit s
unfolding short
room limit s h =
    let p = or_right (ltb (length s.packet) 65535) _ h in
    let q = or_right (ltb (length s.headers) 65535) _ p in
    record {
      packet = ltb-false _ _ (or_left _ _ h);
      headers = ltb-false _ _ (or_left _ _ p);
      reply = ltb-false _ _ (or_left _ _ q);
      body = ltb-false _ _ (or_right (ltb (length s.reply) 65535) _ q);
    }

pub not_short : (limit : ℕ) (s : Stores) → Room limit s → short limit s ≡ false
unfolding short
not_short limit s r = simp (le-ltb _ _ r.packet, le-ltb _ _ r.headers, le-ltb _ _ r.reply, le-ltb _ _ r.body)

pub room-reply : (limit : ℕ) (s : Stores) (y : List ℕ) → length y ≡ length s.reply → Room limit s → Room limit (with_reply s y)
room-reply limit s y e r = record { packet = r.packet; headers = r.headers; reply = rw e r.reply; body = r.body }

pub room-headers : (limit : ℕ) (s : Stores) (hs : List ℕ) → length hs ≤ 65535 → Room limit s → Room limit (with_headers s (front hs s.headers))
room-headers limit s hs l r =
    record {
      packet = r.packet;
      headers = rw (front_length hs s.headers (omega (arith, r.headers))) r.headers;
      reply = r.reply;
      body = r.body;
    }

-- ---- what is open, by what is awaited

-- a Get that the host is asked about, an object whose body is read, a Connect that waits for credentials
pub record IsGetting (o : Operation) : Type 0 where
  pub gathered : Gathered
  pub srm : Bool
  pub confirm : Bool
  pub wait : Bool
  pub is : o ≡ Getting gathered srm confirm wait

pub record IsSending (o : Operation) : Type 0 where
  pub outgoing : Outgoing
  pub chunk : Chunk
  pub srm : Bool
  pub wait : Bool
  pub is : o ≡ Sending outgoing chunk srm wait

pub record IsConnecting (o : Operation) : Type 0 where
  pub code : ℕ
  pub front : ConnectionId
  pub size : ℕ
  pub is : o ≡ Connecting code front size

abbrev pub connecting : Operation → Bool
connecting (Connecting c f n) = true
connecting Nothing = false
connecting Trailing = false
connecting (Putting g srm) = false
connecting (Getting g srm confirm wait) = false
connecting (Sending o c srm wait) = false
connecting (GatheringOp o g) = false
connecting (Draining c) = false

-- the operation in which something can be awaited
abbrev pub Shape : Await → Operation → Type 0
Shape await.Bytes o = connecting o ≡ false
Shape await.Taken o = connecting o ≡ false
Shape await.Get o = IsGetting o
Shape await.Body o = IsSending o
Shape await.Credentials o = IsConnecting o
Shape await.Last o = o ≡ Nothing
Shape await.Connect o = o ≡ Nothing
Shape await.Disconnect o = o ≡ Nothing
Shape await.Reply o = o ≡ Nothing
Shape await.Acknowledgement o = o ≡ Nothing
Shape await.Password o = o ≡ Nothing
Shape await.Nonce o = o ≡ Nothing
Shape await.Nothing o = o ≡ Nothing

-- what waits for the host
abbrev pub room_of : Operation → ℕ
room_of (Sending o c srm wait) = c.room
room_of Nothing = 0
room_of Trailing = 0
room_of (Putting g srm) = 0
room_of (Getting g srm confirm wait) = 0
room_of (GatheringOp o g) = 0
room_of (Connecting c f n) = 0
room_of (Draining c) = 0

abbrev pub waits_of : Await → Operation → Waits
waits_of await.Bytes o = bytes
waits_of await.Taken o = taking
waits_of await.Last o = taking
waits_of await.Connect o = reply
waits_of await.Disconnect o = reply
waits_of await.Get o = object
waits_of await.Reply o = reply
waits_of await.Acknowledgement o = acknowledgement
waits_of await.Password o = password
waits_of await.Nonce o = nonce
waits_of await.Credentials o = credentials
waits_of await.Body o = reading (room_of o)
waits_of await.Nothing o = nothing

-- ---- between two calls

-- whatever is awaited
pub record Base (e : Engine) (s : Stores) : Type 0 where
  pub room : Room (limit_of e) s
  pub peer : PeerFits e.peer.nonces e.peer
  pub last : e.length ≤ 65535

-- the bytes of a packet begun
pub record Begun (b : ℕ) (p : List ℕ) : Type 0 where
  pub small : b < 65535
  pub octets : Octets (take b p)
  pub goes_on : frame_end p b ≡ More

pub none-begun : (p : List ℕ) → Begun 0 p
unfolding frame_end
none-begun p = record { small = omega arith; octets = λ k. omega arith; goes_on = refl }

pub record Sits (e : Engine) (s : Stores) : Type 0 where
  pub base : Base e s
  pub begun : Begun e.begun s.packet
  pub counts : sound_operation (limit_of e) e.operation ≡ true
  pub shape : Shape e.awaits e.operation

pub is_sound : (e : Engine) (s : Stores) → Sits e s → sound e ≡ true
unfolding sound
is_sound e s h =
    simp (
      lt-ltb _ _ h.begun.small,
      le-leb _ _ h.base.last,
      le-leb _ _ h.base.peer.count,
      le-leb _ _ h.base.peer.least,
      le-leb _ _ h.base.peer.few,
      h.counts,
    )

-- and all that is lent
pub record Seated (s : State) : Type 0 where
  pub sits : Sits s.engine s.stores
  pub tables : 320 ≤ length s.tables

pub tables-room : (t : List ℕ) → short_tables t ≡ false → 320 ≤ length t
unfolding short_tables
tables-room t h = ltb-false _ _ h

pub tables-long : (t : List ℕ) → 320 ≤ length t → short_tables t ≡ false
unfolding short_tables
tables-long t h = le-ltb _ _ h

-- there is room for the ids
pub ids-room : (s : State) → Seated s → 64 ≤ length s.tables
ids-room s h = omega (arith, h.tables)

-- and for the nonces
pub nonces-room : (s : State) → Seated s → 128 ≤ length s.tables
nonces-room s h = omega (arith, h.tables)

-- ---- what a step leads to

-- of an engine `e`, whose settings stay, and which has `n` nonces afterwards
pub record FineWith (n : ℕ) (e : Engine) (d : Done) : Type 0 where
  pub settings : d.engine.settings ≡ e.settings
  pub nonces : d.engine.peer.nonces ≡ n
  pub sits : Sits d.engine d.stores
  pub waits : (w : Waits) → told w d.outcome ≡ waits_of d.engine.awaits d.engine.operation
  pub goes : verdict_of d.outcome ≡ goes

-- as many as before
abbrev pub Fine : Engine → Done → Type 0
Fine e d = FineWith e.peer.nonces e d

pub fine-pick : (e : Engine) (t : Bool) (a b : Done) → Fine e a → Fine e b → Fine e (pick t a b)
fine-pick e true a b x y = x
fine-pick e false a b x y = y

-- the same of a step that may write the table store, which keeps its length and its nonces
pub record FineTabled (e : Engine) (t : List ℕ) (x : DoneTabled) : Type 0 where
  pub done : Fine e x.done
  pub tables : length x.tables ≡ length t
  pub nonces : SameNonces x.tables t

pub tabled-pick : (e : Engine) (t : List ℕ) (b : Bool) (x y : DoneTabled) → FineTabled e t x → FineTabled e t y → FineTabled e t (pick b x y)
tabled-pick e t true x y f g = f
tabled-pick e t false x y f g = g

module _ (e : Engine) (s : Stores) (h : Base e s) where
  pub fine-done : {n : ℕ} (p : Peer) (o : Operation) (a : Await) (c : Outcome) (z : Stores) → PeerFits n p → Room (limit_of e) z
      → sound_operation (limit_of e) o ≡ true → Shape a o
      → ((w : Waits) → told w c ≡ waits_of a o) → verdict_of c ≡ goes
      → FineWith n e (done (engine_with e.settings p o a 0 e.length e.target) c z)
  unfolding engine_with
  fine-done p o a c z f r k x w g =
      record {
        settings = refl;
        nonces = f.nonces;
        sits = record { base = record { room = r; peer = own_fits f; last = h.last }; begun = none-begun z.packet; counts = k; shape = x };
        waits = w;
        goes = g;
      }

  pub fine-wants : (p : Peer) (o : Operation) (z : Stores) → PeerFits e.peer.nonces p → Room (limit_of e) z → sound_operation (limit_of e) o ≡ true
      → Shape await.Bytes o
      → Fine e (wants e p o z)
  fine-wants p o z f r k x = fine-done p o await.Bytes outcome.WantsBytes z f r k x (λ w. refl) refl

  pub fine-asks : (p : Peer) (a : Await) (q : HostRequest) (z : Stores) → PeerFits e.peer.nonces p → Room (limit_of e) z → Shape a Nothing
      → asked q ≡ waits_of a Nothing
      → Fine e (asks e p Nothing a q z)
  fine-asks p a q z f r x w = fine-done p Nothing a (outcome.Request q) z f r refl x (λ v. w) refl

  pub fine-ends : {n : ℕ} (p : Peer) (x : End) (z : Stores) → PeerFits n p → Room (limit_of e) z → FineWith n e (ends e p x z)
  fine-ends p x z f r = fine-done p Nothing await.Nothing (outcome.End x) z f r refl refl (λ w. refl) refl

  pub fine-replies : {n : ℕ} (p : Peer) (o : Operation) (a : Await) (q : List ℕ) (z : Stores) → PeerFits n p → Room (limit_of e) z
      → sound_operation (limit_of e) o ≡ true → Shape a o
      → taking ≡ waits_of a o → length q ≤ 65535 → FineWith n e (replies e p o a q z)
  fine-replies p o a q z f r k x w l =
      fine-done p o a (outcome.Reply (length q)) (with_reply z (front q z.reply)) f
      (room-reply (limit_of e) z (front q z.reply) (front_length q z.reply (omega (arith, r.reply))) r) k x (λ v. w) refl

  -- a reply of a code, with the operation `o` open afterwards
  pub fine-code_in : (p : Peer) (o : Operation) (code : ℕ) (z : Stores) → PeerFits e.peer.nonces p → Room (limit_of e) z
      → sound_operation (limit_of e) o ≡ true
      → Shape await.Taken o → Fine e (replies_code e p o code z)
  unfolding packet_bytes
  fine-code_in p o code z f r k x = fine-replies p o await.Taken (packet_bytes (sent_code code) [] []) z f r k x refl (omega arith)

  pub fine-code : (p : Peer) (code : ℕ) (z : Stores) → PeerFits e.peer.nonces p → Room (limit_of e) z → Fine e (replies_code e p Nothing code z)
  fine-code p code z f r = fine-code_in p Nothing code z f r refl refl

  pub fine-continues : (o : Operation) (grant : Bool) (z : Stores) → Room (limit_of e) z → sound_operation (limit_of e) o ≡ true → Shape await.Taken o
      → Fine e (continues e o grant z)
  unfolding packet_bytes
  fine-continues o true z r k x = fine-replies e.peer o await.Taken (continue_bytes true) z h.peer r k x refl (omega arith)
  fine-continues o false z r k x = fine-replies e.peer o await.Taken (continue_bytes false) z h.peer r k x refl (omega arith)
