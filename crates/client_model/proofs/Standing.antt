-- What holds of the client and its stores between two calls: the state is sound, its wait fits its operation, and all that a user knows of it
-- (`Known`) follows from the state. Each step that is not refused leaves such a state, and the user learns what is known of it. Assumes nothing.
use mathlib.Core.Path.{◌≡◌, refl, sym, ap, ◌∙◌}
use mathlib.Core.Bool.{Bool, true, false, ◌||◌, true≢false}
use mathlib.Core.List.{List, []}
use Prim.Native.Nat.{ℕ, suc, ◌+◌, ◌≤◌, ◌<◌}
use native.Mathlib.Omega.{arith}
use lib.ListN.{length, get_or, take, drop, set, length-append}
use lib.Seq.{paste, length-paste, get_or-set_same}
use lib.Dec.{ltb, eqb}
use borrow.Author.Tests.{ltb-false, lt-ltb, le-leb}
use Rattle.base.specs.Pick.{pick}
use Rattle.text.specs.Unicode.{Octets}
use Rattle.packet.specs.FirstByte.{byte_of}
use Rattle.packet.specs.Packet.{packet_bytes}
use Rattle.packet.specs.declared.opcode.Opcode.TheVariants as op
use Rattle.journal.specs.Calls.{goes}
use Rattle.incoming.specs.Frame.{frame_end}
use Rattle.incoming.specs.declared.frame.Frame.TheVariants.{More}
use Rattle.outgoing.specs.Object.{Filled, empty, full, too_large, Made, sent_to, body_after, next_filled, fill, next_after}
use Rattle.outgoing.specs.declared.object.Outgoing.{Outgoing}
use Rattle.outgoing.specs.declared.object.Chunk.{Chunk}
use Rattle.outgoing.specs.declared.object.Next.{Next}
use Rattle.outgoing.specs.declared.object.Next.TheVariants as next
use Rattle.outgoing.proofs.Sent.{next-after-sends}
use Rattle.connection.specs.Reply.{front}
use Rattle.client_model.specs.declared.Kind.{Kind}
use Rattle.client_model.specs.declared.Kind.TheVariants as kind
use Rattle.client_model.specs.declared.Operation.{Operation}
use Rattle.client_model.specs.declared.Operation.TheVariants.{Nothing, Connecting, Disconnecting, Requesting, Receiving, Aborting}
use Rattle.client_model.specs.declared.Await.{Await}
use Rattle.client_model.specs.declared.Await.TheVariants as await
use Rattle.client_model.specs.declared.Client.{Client}
use Rattle.client_model.specs.declared.End.{End}
use Rattle.client_model.specs.declared.End.TheVariants as end
use Rattle.client_model.specs.declared.Outcome.{Outcome}
use Rattle.client_model.specs.Leading.{leading}
use Rattle.client_model.specs.Step.{Stores, stores, with_request, client_with, goes as goesTo, capacity_of, Done, sends, over, ends}
use Rattle.client_model.specs.Request.{opcode_of, request_of, requests_by, requests, requests_next, requests_first, id_bytes, sends_abort}
use Rattle.client_model.specs.Guard.{short, sound_operation, sound}
use Rattle.client_model.specs.Refusals.{ClientCall, Waits, operation, sending, answer, part, nothing, reading, Open, closed, connecting, disconnecting, putting, getting, aborting, Known, known, opens, sent_as, learns_by, verdict_of}
use Rattle.client_model.proofs.Putting.{Counts, counts-sound, made-counts}
use Rattle.client_model.proofs.Sending.{lead-small}

-- ---- what a user knows of a state

-- the kind of a request
abbrev pub open_kind : Kind → Open
open_kind kind.Put = putting
open_kind kind.Get = getting

abbrev pub open_of : Operation → Open
open_of Nothing = closed
open_of Connecting = connecting
open_of Disconnecting = disconnecting
open_of (Requesting k o h srm initial last) = open_kind k
open_of (Receiving srm last code) = getting
open_of Aborting = aborting

abbrev pub last_kind : Kind → Bool → Bool
last_kind kind.Put last = last
last_kind kind.Get last = false

-- whether the final packet of a Put was made, or the last part of an object has come
abbrev pub last_of : Operation → Bool
last_of Nothing = false
last_of Connecting = false
last_of Disconnecting = false
last_of (Requesting k o h srm initial last) = last_kind k last
last_of (Receiving srm last code) = last
last_of Aborting = false

abbrev pub room_of : Operation → ℕ
room_of (Requesting k o h srm initial last) = h.room
room_of Nothing = 0
room_of Connecting = 0
room_of Disconnecting = 0
room_of (Receiving srm last code) = 0
room_of Aborting = 0

abbrev pub waits_of : Await → Operation → Waits
waits_of await.Bytes o = answer
waits_of await.Call o = operation
waits_of await.Sent o = sending
waits_of await.Body o = reading (room_of o)
waits_of await.Taken o = part
waits_of await.Nothing o = nothing

abbrev pub known_of : Client → Known
known_of c =
    known (waits_of c.awaits c.operation) (open_of c.operation) c.aborting (last_of c.operation) c.remote_max_packet_length
    c.connection_id

-- ---- between two calls

-- the bytes of a response that has begun
pub record Begun (b : ℕ) (p : List ℕ) : Type 0 where
  pub small : b < 65535
  pub octets : Octets (take b p)
  pub goes_on : frame_end p b ≡ More

pub none-begun : (p : List ℕ) → Begun 0 p
unfolding frame_end
none-begun p = record { small = omega arith; octets = λ k. omega arith; goes_on = refl }

-- a request's counts; the request of a Get has no body
abbrev pub OwnBody : Kind → Outgoing → Type 0
OwnBody kind.Put o = Unit {0}
OwnBody kind.Get o = o.has_body ≡ false

abbrev pub CountsOf : Operation → Type 0
CountsOf (Requesting k o h srm initial last) = Counts o h × OwnBody k o
CountsOf Nothing = Unit {0}
CountsOf Connecting = Unit {0}
CountsOf Disconnecting = Unit {0}
CountsOf (Receiving srm last code) = Unit {0}
CountsOf Aborting = Unit {0}

-- no last part of an object waits
abbrev pub NoLast : Operation → Type 0
NoLast (Receiving srm last code) = last ≡ false
NoLast Nothing = Unit {0}
NoLast Connecting = Unit {0}
NoLast Disconnecting = Unit {0}
NoLast (Requesting k o h srm initial last) = Unit {0}
NoLast Aborting = Unit {0}

-- a Put, and the object of a Get
abbrev pub IsPut : Operation → Type 0
IsPut (Requesting kind.Put o h srm initial last) = Unit {0}
IsPut (Requesting kind.Get o h srm initial last) = ⊥
IsPut Nothing = ⊥
IsPut Connecting = ⊥
IsPut Disconnecting = ⊥
IsPut (Receiving srm last code) = ⊥
IsPut Aborting = ⊥

abbrev pub IsObject : Operation → Type 0
IsObject (Receiving srm last code) = Unit {0}
IsObject (Requesting k o h srm initial last) = ⊥
IsObject Nothing = ⊥
IsObject Connecting = ⊥
IsObject Disconnecting = ⊥
IsObject Aborting = ⊥

-- the operations in which something can be awaited
abbrev pub Shape : Await → Bool → Operation → Type 0
Shape await.Bytes aborted o = NoLast o
Shape await.Sent aborted o = (aborted ≡ false) × NoLast o
Shape await.Body aborted o = (aborted ≡ false) × IsPut o
Shape await.Taken aborted o = (aborted ≡ false) × IsObject o
Shape await.Call aborted o = aborted ≡ false
Shape await.Nothing aborted o = Unit {0}

-- the client, whatever it awaits
pub record Base (c : Client) : Type 0 where
  pub latest : c.length ≤ 65535
  pub low : 255 ≤ c.remote_max_packet_length
  pub top : c.remote_max_packet_length ≤ 65535

pub record Sits (c : Client) (s : Stores) : Type 0 where
  pub base : Base c
  pub begun : Begun c.begun s.packet
  pub counts : CountsOf c.operation
  pub shape : Shape c.awaits c.aborting c.operation

operation-sound : (o : Operation) → CountsOf o → sound_operation o ≡ true
operation-sound (Requesting k o h srm initial last) w = counts-sound o h w.0
operation-sound Nothing w = refl
operation-sound Connecting w = refl
operation-sound Disconnecting w = refl
operation-sound (Receiving srm last code) w = refl
operation-sound Aborting w = refl

pub is_sound : (c : Client) (s : Stores) → Sits c s → sound c ≡ true
unfolding sound
is_sound c s w =
    simp (lt-ltb _ _ w.begun.small, le-leb _ _ w.base.latest, le-leb _ _ w.base.low, operation-sound c.operation w.counts)

-- ---- the stores have room

pub record Room (s : Stores) : Type 0 where
  pub packet : 65535 ≤ length s.packet
  pub headers : 65535 ≤ length s.headers
  pub request : 65535 ≤ length s.request

pub or_left : (a b : Bool) → (a || b) ≡ false → a ≡ false
or_left true b h = h
or_left false b h = refl

pub or_right : (a b : Bool) → (a || b) ≡ false → b ≡ false
or_right true b h = absurd (true≢false h)
or_right false b h = h

pub room : (s : Stores) → short s ≡ false → Room s
unfolding short
room s h =
    let p = or_right (ltb (length s.packet) 65535) _ h in
    let q = or_right (ltb (length s.headers) 65535) _ p in
    record {
      packet = ltb-false _ _ (or_left _ _ h);
      headers = ltb-false _ _ (or_left _ _ p);
      request = ltb-false _ _ (or_right (ltb (length s.body) 65535) _ q);
    }

-- ---- a step that is not refused

-- it leaves such a state, and the user learns what is known of it
pub record Led (c : Client) (x : ClientCall) (d : Done) : Type 0 where
  pub goes_on : verdict_of d.outcome ≡ goes
  pub sits : Sits d.client d.stores
  pub learnt : learns_by d.outcome (known_of c) x d.stores.packet d.stores.request ≡ known_of d.client

pub led-pick : (c : Client) (x : ClientCall) (t : Bool) (a b : Done) → (t ≡ true → Led c x a) → (t ≡ false → Led c x b) → Led c x (pick t a b)
led-pick c x true a b p q = p refl
led-pick c x false a b p q = q refl

module _ (c : Client) (x : ClientCall) (s : Stores) (b : Base c) where
  pub base_kept : (o : Operation) (a : Await) (t : Bool) → Base (goesTo c o a t)
  unfolding client_with
  base_kept o a t = record { latest = b.latest; low = b.low; top = b.top }

  -- the operation is over, or the client ends
  pub ends-led : (e : End) (z : Stores) → Led c x (ends c e z)
  unfolding client_with
  ends-led e z =
      record {
        goes_on = refl;
        sits = record {
          base = base_kept Nothing await.Nothing false;
          begun = none-begun
              z.packet;
          counts = tt;
          shape = tt;
        };
        learnt = refl;
      }

  pub over_sits : (o : Outcome) (z : Stores) → Sits (over c o z).client (over c o z).stores
  unfolding client_with
  over_sits o z = record { base = base_kept Nothing await.Call false; begun = none-begun z.packet; counts = tt; shape = refl }

  -- a packet of one piece waits to be sent
  pub sends-led : (o : Operation) (t : ℕ) (f h : List ℕ) → sent_as t (opens x (open_of c.operation)) ≡ open_of o
      → eqb t (byte_of op.Put true) ≡ last_of o
      → CountsOf o → NoLast o → Led c x (sends c o (packet_bytes t f h) s)
  unfolding client_with packet_bytes
  sends-led o t f h e l n k =
      record {
        goes_on = refl;
        sits = record { base = base_kept o await.Sent false; begun = none-begun s.packet; counts = n; shape = (refl, k) };
        learnt = λ i. known sending (e i) false (l i) c.remote_max_packet_length c.connection_id;
      }

  pub abort_led : Led c x (sends_abort c s)
  unfolding sends_abort byte_of
  abort_led = sends-led Aborting (byte_of op.Abort true) [] (id_bytes c.connection_id) refl refl tt tt

-- ---- the packets of a request

-- what is made without a body asks for none
abbrev pub asks_body : Next → Bool
asks_body next.Read = true
asks_body (next.Send n last) = false
asks_body next.TooLarge = false

pub record Bodiless (m : Made) : Type 0 where
  pub still : m.packet.outgoing.has_body ≡ false
  pub unasked : asks_body m.packet.next ≡ false

after_bodiless : (has : Bool) (capacity : ℕ) (o : Outgoing) (at : ℕ) (y : List ℕ) → has ≡ false → o.has_body ≡ false
    → Bodiless (body_after has capacity o at y)
after_bodiless true capacity o at y e h = absurd (true≢false e)
after_bodiless false capacity o at y e h = record { still = h; unasked = refl }

filled_bodiless : (why : Filled) (capacity : ℕ) (o : Outgoing) (at : ℕ) (y : List ℕ) → o.has_body ≡ false
    → Bodiless (next_filled why capacity o at y)
filled_bodiless empty capacity o at y e = after_bodiless o.has_body capacity o at y e e
filled_bodiless full capacity o at y e = record { still = e; unasked = refl }
filled_bodiless too_large capacity o at y e = record { still = e; unasked = refl }

pub next_bodiless : (start capacity : ℕ) (o : Outgoing) (hs y : List ℕ) → o.has_body ≡ false → Bodiless (next_after start capacity o hs y)
unfolding next_after
next_bodiless start capacity o hs y e =
    let f = fill (suc o.total) capacity (take o.total hs) o.sent start y in
    filled_bodiless f.why capacity (sent_to o f.sent) f.at f.reply e

-- by the kind
abbrev pub OwnMade : Kind → Made → Type 0
OwnMade kind.Put m = Unit {0}
OwnMade kind.Get m = Bodiless m

pub next_own : (k : Kind) (start capacity : ℕ) (o : Outgoing) (hs y : List ℕ) → OwnBody k o → OwnMade k (next_after start capacity o hs y)
next_own kind.Put start capacity o hs y w = tt
next_own kind.Get start capacity o hs y w = next_bodiless start capacity o hs y w

made_own : (k : Kind) (m : Made) → OwnMade k m → OwnBody k m.packet.outgoing
made_own kind.Put m w = tt
made_own kind.Get m w = w.still

-- the first byte of such a packet
first-opens : (k : Kind) (last : Bool) (o : Open) → o ≡ open_kind k → sent_as (byte_of (opcode_of k) last) o ≡ open_kind k
unfolding byte_of
first-opens kind.Put true o e = e
first-opens kind.Put false o e = e
first-opens kind.Get true o e = e
first-opens kind.Get false o e = e

first-last : (k : Kind) (last : Bool) → eqb (byte_of (opcode_of k) last) (byte_of op.Put true) ≡ last_kind k last
unfolding byte_of
first-last kind.Put true = refl
first-last kind.Put false = refl
first-last kind.Get true = refl
first-last kind.Get false = refl

module _ (c : Client) (x : ClientCall) (s : Stores) (b : Base c) (k : Kind) (e : opens x (open_of c.operation) ≡ open_kind k) where
  made-led : (n : Next) (srm initial : Bool) (m : Made) → Counts m.packet.outgoing m.packet.chunk → OwnMade k m → 65535 ≤ length m.reply
      → m.packet.next ≡ n → Led c x (requests_by n c k srm initial m s)
  unfolding client_with
  made-led (next.Send n last) srm initial m w v l q =
      let t = byte_of (opcode_of k) last in
      let z = set m.reply 0 t in
      let f : get_or z 0 0 ≡ t = get_or-set_same m.reply 0 t 0 (omega arith) in
      let o = Requesting k m.packet.outgoing m.packet.chunk srm initial last in
      record {
        goes_on = refl;
        sits =
            record { base = base_kept c x s b o await.Sent false; begun = none-begun s.packet; counts = (w, made_own k m v); shape = (refl, tt) };
        learnt =
            (λ i. known sending (sent_as (f i) (opens x (open_of c.operation))) false (eqb (f i) (byte_of op.Put true))
            c.remote_max_packet_length c.connection_id)
            ∙ (λ i. known sending (first-opens k last (opens x (open_of c.operation)) e i) false (first-last k last i)
            c.remote_max_packet_length c.connection_id);
      }
  made-led next.Read srm initial m w v l q = go k e v
    where
      go : (k : Kind) → opens x (open_of c.operation) ≡ open_kind k → OwnMade k m → Led c x (requests_by next.Read c k srm initial m s)
      go kind.Put e v =
          record {
            goes_on = refl;
            sits =
                record {
                  base = base_kept c x s b (Requesting kind.Put m.packet.outgoing m.packet.chunk srm initial false) await.Body false;
                  begun = none-begun s.packet;
                  counts = (w, tt);
                  shape = (refl, tt);
                };
            learnt = λ i. known (reading m.packet.chunk.room) (e i) false false c.remote_max_packet_length c.connection_id;
          }
      go kind.Get e v = absurd (true≢false (sym (ap asks_body q) ∙ v.unasked))
  made-led next.TooLarge srm initial m w v l q = ends-led c x s b end.HeadersChanged (with_request s m.reply)

  pub requests-led : (srm initial : Bool) (m : Made) → Counts m.packet.outgoing m.packet.chunk → OwnMade k m → 65535 ≤ length m.reply
      → Led c x (requests c k srm initial m s)
  requests-led srm initial m w v l = made-led m.packet.next srm initial m w v l refl

  -- the next packet of a request
  pub next-led : (srm initial : Bool) (o : Outgoing) (h : Chunk) → Room s → Counts o h → OwnBody k o → Led c x (requests_next c k srm initial o s)
  unfolding requests_next
  next-led srm initial o h r w v =
      let m = next_after 3 (capacity_of c) o s.headers s.request in
      let n =
      next-after-sends 3 (capacity_of c) o s.headers s.request (omega arith) (omega (arith, b.top)) r.request w.sent
      (omega (arith, w.total, r.headers)) in
      requests-led srm initial m (made-counts o s.request m w.total n) (next_own k 3 (capacity_of c) o s.headers s.request v)
      (omega (arith, r.request, n.same_length))

-- the first packet of a request
request_own : (k : Kind) (n : ℕ) (has : Bool) → (k ≡ kind.Get → has ≡ false) → OwnBody k (request_of n has)
request_own kind.Put n has h = tt
request_own kind.Get n has h = h refl

pub first-led : (c : Client) (x : ClientCall) (s : Stores) → Base c → Room s → (k : Kind) → opens x (open_of c.operation) ≡ open_kind k
    → (hs : List ℕ) (has : Bool)
    → (k ≡ kind.Get → has ≡ false) → length hs ≤ 65535 → Led c x (requests_first c k hs has s)
unfolding requests_first
first-led c x s b r k e hs has g l =
    let lead = leading c.connection_id c.settings.srm_wanted in
    let y = paste s.request 3 lead (length lead) in
    let h = front hs s.headers in
    let t = stores s.packet h s.body y in
    let o = request_of (length hs) has in
    let small = lead-small c.connection_id c.settings.srm_wanted in
    let long : length y ≡ length s.request = length-paste s.request 3 lead (length lead) (omega (arith, r.request)) (omega arith) in
    let m = next_after (3 + length lead) (capacity_of c) o h y in
    let n =
    next-after-sends (3 + length lead) (capacity_of c) o h y (omega (arith, b.low)) (omega (arith, b.top)) (omega (arith, r.request)) (omega arith)
    (omega (arith, length-append hs (drop (length hs) s.headers))) in
    requests-led c x t b k e false true m (made-counts o y m l n)
    (next_own k (3 + length lead) (capacity_of c) o h y (request_own k (length hs) has g)) (omega (arith, r.request, n.same_length))
