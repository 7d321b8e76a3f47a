-- A response, in pieces or whole, leaves the client sound, and the user learns what is known of it (`Standing`), by the operation that it
-- answers. Assumes nothing.
use mathlib.Core.Path.{◌≡◌, refl, sym, ap, subst, ◌∙◌}
use mathlib.Core.Bool.{Bool, true, false, ◌||◌, not}
use mathlib.Core.Option.{Option, none, some}
use mathlib.Core.List.{List}
use Prim.Native.Nat.{ℕ, ◌%◌, ◌≤◌}
use native.Mathlib.Omega.{arith}
use lib.ListN.{length, get_or, take, length-take}
use lib.Seq.{get_or-take}
use lib.Dec.{ltb, eqb}
use borrow.Author.Tests.{ltb-false}
use Rattle.base.specs.Pick.{pick}
use Rattle.text.specs.Unicode.{Octets}
use Rattle.packet.specs.ResponseCodes as response
use Rattle.packet.specs.HeaderIds as header_id
use Rattle.packet.specs.Codes.{is_code, is_success}
use Rattle.packet.specs.Header.{Header, first, read_headers}
use Rattle.packet.specs.Packet.{connect_limit}
use Rattle.packet.specs.ResponsePacket.{ResponsePacket, response_prefix, code_in, response_with, response_packet}
use Rattle.journal.specs.Calls.{goes}
use Rattle.journal.specs.Journal.{Read, more, whole, short, read_up}
use Rattle.incoming.specs.Frame.{Frames, framed}
use Rattle.incoming.specs.declared.frame.Frame.{Frame}
use Rattle.incoming.specs.declared.frame.Frame.TheVariants.{More}
use Rattle.incoming.proofs.Frames.{Agrees, frames_agree}
use Rattle.outgoing.specs.declared.object.Outgoing.{Outgoing}
use Rattle.outgoing.specs.declared.object.Chunk.{Chunk}
use Rattle.connection.specs.Peer.{at_least255, id_in}
use Rattle.client_model.specs.declared.Kind.{Kind}
use Rattle.client_model.specs.declared.Kind.TheVariants as kind
use Rattle.client_model.specs.declared.Operation.{Operation}
use Rattle.client_model.specs.declared.Operation.TheVariants.{Nothing, Connecting, Disconnecting, Requesting, Receiving, Aborting}
use Rattle.client_model.specs.declared.Await.{Await}
use Rattle.client_model.specs.declared.Await.TheVariants as await
use Rattle.client_model.specs.declared.Client.{Client}
use Rattle.client_model.specs.declared.End.TheVariants as end
use Rattle.client_model.specs.declared.Outcome.{Outcome}
use Rattle.client_model.specs.declared.Outcome.TheVariants as outcome
use Rattle.client_model.specs.Step.{Stores, with_packet, client_with, goes as goesTo, arrived, Done, done, wants, over, Stepped}
use Rattle.client_model.specs.Answer.{is_continue, grants, gathers, parts, ended, received_more, received_last, received, continued, request_answered, connected, disconnected, responded, is_connecting, read_as, response_done}
use Rattle.client_model.specs.Calls.{framed_as, offers}
use Rattle.client_model.specs.Refusals.{bytes_offered_of, operation, answer, part, closed, putting, getting, Open, known, over_as, after, told, learns_by, verdict_of}
use Rattle.client_model.proofs.Standing.{open_of, last_of, waits_of, known_of, Begun, none-begun, CountsOf, NoLast, Shape, Base, Sits, Room, Led, led-pick, ends-led, base_kept, over_sits, abort_led, next-led}

-- ---- what was read

-- the response has the code and the bytes of the packet
pub record ReadFrom (p : List ℕ) (r : ResponsePacket) : Type 0 where
  pub code : r.code ≡ code_in p
  pub bytes : r.bytes ≡ p
  pub least : 3 ≤ length p

some_same : (a b : ResponsePacket) → some a ≡ some b → a ≡ b
some_same a b e = cc

prefix-least : (connect : Bool) → 3 ≤ response_prefix connect
prefix-least true = omega arith
prefix-least false = omega arith

pub read-from : (connect : Bool) (p : List ℕ) (r : ResponsePacket) → response_packet connect p ≡ some r → ReadFrom p r
unfolding response_packet
read-from connect p r = go (is_code (code_in p)) (ltb (length p) (response_prefix connect)) refl (read_headers p (response_prefix connect))
  where
    go : (t u : Bool) → ltb (length p) (response_prefix connect) ≡ u → (hs : Option (List Header))
        → pick t (pick u none (response_with p hs)) none ≡ some r → ReadFrom p r
    go false u l hs e = let z : ◌≡◌ {A = ℕ} 0 1 = cc in absurd (omega arith)
    go true true l hs e = let z : ◌≡◌ {A = ℕ} 0 1 = cc in absurd (omega arith)
    go true false l none e = let z : ◌≡◌ {A = ℕ} 0 1 = cc in absurd (omega arith)
    go true false l (some hs) e =
        let q = some_same _ r e in
        record {
          code = ap (λ (x : ResponsePacket). x.code) (sym q);
          bytes = ap (λ (x : ResponsePacket). x.bytes) (sym q);
          least = let k : response_prefix connect ≤ length p = ltb-false _ _ l in omega (arith, prefix-least connect);
        }

or_false : (a : Bool) → (a || false) ≡ a
or_false true = refl
or_false false = refl

-- the limit of a Connect's response
limit-low : (n : ℕ) → 255 ≤ at_least255 n
limit-low n = go (ltb n 255) refl
  where
    go : (t : Bool) → ltb n 255 ≡ t → 255 ≤ pick t 255 n
    go true e = omega arith
    go false e = ltb-false _ _ e

limit_top : (n : ℕ) → n ≤ 65535 → at_least255 n ≤ 65535
limit_top n h = go (ltb n 255)
  where
    go : (t : Bool) → pick t 255 n ≤ 65535
    go true = omega arith
    go false = h

limit-octets : (p : List ℕ) → Octets p → connect_limit p ≤ 65535
unfolding connect_limit
limit-octets p o = omega (arith, o 5, o 6)

-- ---- a response, by the operation

module _ (c : Client) (s : Stores) (i : List ℕ) (b : Base c) (m : Room s) (r : ResponsePacket) (code : r.code ≡ code_in s.packet) where
  -- a part of the object
  parts-led : (srm last : Bool) (n : ℕ) → open_of c.operation ≡ getting → not (is_continue r) ≡ last
      → Led c (bytes_offered_of i) (parts c srm last n (gathers r s) s)
  unfolding client_with
  parts-led srm last n e l =
      let t : not (eqb (code_in s.packet) response.continue) ≡ last = ap (λ (x : ℕ). not (eqb x response.continue)) (sym code) ∙ l in
      record {
        goes_on = refl;
        sits =
            record {
              base = base_kept c (bytes_offered_of i) s b (Receiving srm last n) await.Taken false;
              begun = none-begun
                  s.packet;
              counts = tt;
              shape = (refl, tt);
            };
        learnt = λ j. known part (e j) false (t j) c.remote_max_packet_length c.connection_id;
      }

  -- the operation ends with a code
  over-led : (o : Outcome) → verdict_of o ≡ goes
      → learns_by o (known_of c) (bytes_offered_of i) s.packet s.request ≡ after (known_of c) → Led c (bytes_offered_of i) (over c o s)
  unfolding client_with
  over-led o g e = record { goes_on = g; sits = over_sits c (bytes_offered_of i) s b o s; learnt = e }

  done-led : (n : ℕ) (o : Open) → open_of c.operation ≡ o → over_as o (take c.length s.packet) (after (known_of c)) ≡ after (known_of c)
      → Led c (bytes_offered_of i) (over c (outcome.Done n c.length) s)
  done-led n o e q =
      over-led (outcome.Done n c.length) refl (ap (λ (x : Open). over_as x (take c.length s.packet) (after (known_of c))) e ∙ q)

  ended-led : open_of c.operation ≡ getting → Led c (bytes_offered_of i) (over c (ended c r) s)
  ended-led e = go c.aborting
    where
      go : (t : Bool) → Led c (bytes_offered_of i) (over c (pick t (outcome.Aborted r.code c.length) (outcome.Done r.code c.length)) s)
      go true = over-led (outcome.Aborted r.code c.length) refl refl
      go false = done-led r.code getting e refl

  drops_led : open_of c.operation ≡ getting → last_of c.operation ≡ false → c.aborting ≡ true
      → Led c (bytes_offered_of i) (wants c (Receiving true false 0) true s)
  unfolding client_with
  drops_led e l a =
      let t : (c.aborting || false) ≡ true = or_false c.aborting ∙ a in
      record {
        goes_on = refl;
        sits =
            record {
              base = base_kept c (bytes_offered_of i) s b (Receiving true false 0) await.Bytes true;
              begun = none-begun
                  s.packet;
              counts = tt;
              shape = refl;
            };
        learnt = λ j. known answer (e j) (t j) (l j) c.remote_max_packet_length c.connection_id;
      }

  more-led : (srm : Bool) → open_of c.operation ≡ getting → last_of c.operation ≡ false → is_continue r ≡ true
      → Led c (bytes_offered_of i) (received_more c srm r s)
  more-led srm e l k =
      led-pick c (bytes_offered_of i) c.aborting _ _
      (λ a. led-pick c (bytes_offered_of i) srm _ _ (λ t. drops_led e l a) (λ t. abort_led c (bytes_offered_of i) s b))
      (λ a. parts-led srm false r.code e (ap not k))

  last-led : (srm : Bool) → open_of c.operation ≡ getting → is_continue r ≡ false → Led c (bytes_offered_of i) (received_last c srm r s)
  last-led srm e k =
      led-pick c (bytes_offered_of i) (not (is_success r.code) || c.aborting) _ _ (λ t. ended-led e) (λ t. parts-led srm true r.code e (ap not k))

  received-led : (srm : Bool) → open_of c.operation ≡ getting → last_of c.operation ≡ false → Led c (bytes_offered_of i) (received c srm r s)
  unfolding received
  received-led srm e l = led-pick c (bytes_offered_of i) (is_continue r) _ _ (λ t. more-led srm e l t) (λ t. last-led srm e t)

  -- the next packet of a request, or the Abort
  continued-led : (k : Kind) (o : Outgoing) (h : Chunk) (srm initial last : Bool) → c.operation ≡ Requesting k o h srm initial last
      → CountsOf (Requesting k o h srm initial last) → Led c (bytes_offered_of i) (continued k c o srm initial r s)
  continued-led k o h srm initial last e w =
      led-pick c (bytes_offered_of i) c.aborting _ _ (λ t. abort_led c (bytes_offered_of i) s b)
      (λ t. next-led c (bytes_offered_of i) s b k (ap open_of e) (srm || grants c initial r) false o h m w.0 w.1)

  answered-led : (k : Kind) (o : Outgoing) (h : Chunk) (srm initial last : Bool) → c.operation ≡ Requesting k o h srm initial last
      → CountsOf (Requesting k o h srm initial last) → Led c (bytes_offered_of i) (request_answered k c o srm initial last r s)
  answered-led kind.Put o h srm initial true e w = done-led r.code putting (ap open_of e) refl
  answered-led kind.Put o h srm initial false e w =
      led-pick c (bytes_offered_of i) (is_continue r) _ _ (λ t. continued-led kind.Put o h srm initial false e w)
      (λ t. over-led (outcome.Stopped r.code c.length) refl refl)
  answered-led kind.Get o h srm initial true e w = received-led (srm || grants c initial r) (ap open_of e) (ap last_of e)
  answered-led kind.Get o h srm initial false e w =
      led-pick c (bytes_offered_of i) (is_continue r) _ _ (λ t. continued-led kind.Get o h srm initial false e w) (λ t. last-led srm (ap open_of e) t)

  -- Connect and Disconnect
  connect_led : c.operation ≡ Connecting → response_packet true (take c.length s.packet) ≡ some r → Octets r.bytes
      → Led c (bytes_offered_of i) (done (connected c r) (outcome.Done r.code c.length) s)
  unfolding client_with
  connect_led e p o =
      let limit = at_least255 (connect_limit r.bytes) in
      let id = id_in (first header_id.connection_id r.headers) in
      let q : learns_by (outcome.Done r.code c.length) (known_of c) (bytes_offered_of i) s.packet s.request
      ≡ pick (is_success r.code) (known operation closed false false limit id) (after (known_of c)) =
      ap (λ (x : Operation). over_as (open_of x) (take c.length s.packet) (after (known_of c))) e
      ∙ ap (λ (x : Option ResponsePacket). told x (after (known_of c))) p in
      go (is_success r.code) q
    where
      go : (t : Bool)
          → learns_by (outcome.Done r.code c.length) (known_of c) (bytes_offered_of i) s.packet s.request
          ≡ pick t (known operation closed false false (at_least255 (connect_limit r.bytes)) (id_in (first header_id.connection_id r.headers)))
          (after (known_of c))
          → Led c (bytes_offered_of i)
          (done
          (pick t
          (client_with c.settings (at_least255 (connect_limit r.bytes))
          (id_in (first header_id.connection_id r.headers)) Nothing await.Call false 0
          c.length)
          (goesTo c Nothing await.Call false))
          (outcome.Done r.code c.length) s)
      go true q =
          record {
            goes_on = refl;
            sits =
                record {
                  base =
                      record {
                        latest = b.latest;
                        low = limit-low (connect_limit r.bytes);
                        top = limit_top (connect_limit r.bytes) (limit-octets r.bytes o);
                      };
                  begun = none-begun s.packet;
                  counts = tt;
                  shape = refl;
                };
            learnt = q;
          }
      go false q = record { goes_on = refl; sits = over_sits c (bytes_offered_of i) s b (outcome.Done r.code c.length) s; learnt = q }

  disconnect_led : c.operation ≡ Disconnecting → Led c (bytes_offered_of i) (done (disconnected c) (outcome.Done r.code c.length) s)
  unfolding client_with
  disconnect_led e =
      record {
        goes_on = refl;
        sits =
            record {
              base = record { latest = b.latest; low = omega arith; top = omega arith };
              begun = none-begun s.packet;
              counts = tt;
              shape = refl;
            };
        learnt = ap (λ (x : Operation). over_as (open_of x) (take c.length s.packet) (after (known_of c))) e;
      }

  responded-led : (o : Operation) → c.operation ≡ o → CountsOf o → NoLast o → response_packet (is_connecting o) (take c.length s.packet) ≡ some r
      → Octets r.bytes → Led c (bytes_offered_of i) (responded o c r s)
  responded-led Connecting e w l p oct = connect_led e p oct
  responded-led Disconnecting e w l p oct = disconnect_led e
  responded-led (Requesting k o h srm initial last) e w l p oct = answered-led k o h srm initial last e w
  responded-led (Receiving srm last n) e w l p oct = received-led srm (ap open_of e) (ap last_of e ∙ l)
  responded-led Aborting e w l p oct = over-led (outcome.Aborted r.code c.length) refl refl
  responded-led Nothing e w l p oct = ends-led c (bytes_offered_of i) s b end.Unreadable s

-- ---- a whole response

read-led : (c : Client) (s : Stores) (i : List ℕ) → Base c → Room s → CountsOf c.operation → NoLast c.operation
    → Octets (take c.length s.packet)
    → (q : Option ResponsePacket) → response_packet (is_connecting c.operation) (take c.length s.packet) ≡ q
    → Led c (bytes_offered_of i) (read_as q c s)
read-led c s i b m w l oct none e = ends-led c (bytes_offered_of i) s b end.Unreadable s
read-led c s i b m w l oct (some r) e =
    let f = read-from (is_connecting c.operation) (take c.length s.packet) r e in
    let n : 3 ≤ c.length = omega (arith, f.least, length-take c.length s.packet) in
    let z : get_or (take c.length s.packet) 0 0 ≡ get_or s.packet 0 0 = get_or-take c.length s.packet 0 0 (omega arith) in
    responded-led c s i b m r (f.code ∙ ap (λ (x : ℕ). x % 128) z) c.operation refl w l e (subst Octets (sym f.bytes) oct)

whole-led : (c : Client) (n : ℕ) (s : Stores) (i : List ℕ) → Base c → Room s → CountsOf c.operation → NoLast c.operation → n ≤ 65535
    → Octets (take n s.packet) → Led c (bytes_offered_of i) (response_done c n s)
unfolding response_done client_with
whole-led c n s i b m w l h oct =
    let d = read-led (arrived c n) s i (record { latest = h; low = b.low; top = b.top }) m w l oct
    (response_packet (is_connecting c.operation) (take n s.packet)) refl in
    record { goes_on = d.goes_on; sits = d.sits; learnt = d.learnt }

-- ---- bytes of a response

-- what a call leads to, without the count of the bytes that were taken
abbrev pub done_in : Stepped → Done
done_in m = done m.took.client m.took.outcome m.stores

module _ (c : Client) (s : Stores) (i : List ℕ) (w : Sits c s) (m : Room s) (a : c.awaits ≡ await.Bytes) where
  no_last : NoLast c.operation
  no_last = subst (λ (y : Await). Shape y c.aborting c.operation) a w.shape

  begun-led : (p : List ℕ) (n : ℕ) → Begun n p → Led c (bytes_offered_of i) (done_in (framed_as More c n 0 (with_packet s p)))
  unfolding client_with
  begun-led p n g =
      let e : answer ≡ waits_of c.awaits c.operation = ap (λ (x : Await). waits_of x c.operation) (sym a) in
      record {
        goes_on = refl;
        sits =
            record {
              base = record { latest = w.base.latest; low = w.base.low; top = w.base.top };
              begun = g;
              counts = w.counts;
              shape = w.shape;
            };
        learnt =
            λ j. known (e j) (open_of c.operation) (or_false c.aborting j) (last_of c.operation) c.remote_max_packet_length
            c.connection_id;
      }

  room-packet : (p : List ℕ) → length p ≡ length s.packet → Room (with_packet s p)
  room-packet p e = record { packet = omega (arith, m.packet, e); headers = m.headers; request = m.request }

  framed-led : (f : Frames) (q : Read) → Agrees s.packet f q
      → Led c (bytes_offered_of i) (done_in (framed_as f.result.frame c f.result.begun f.result.taken (with_packet s f.packet)))
  framed-led f (more q) (e, g, n, o) =
      subst (λ (x : Frame). Led c (bytes_offered_of i) (done_in (framed_as x c f.result.begun f.result.taken (with_packet s f.packet)))) (sym e)
      (begun-led f.packet f.result.begun (record { small = n; octets = subst Octets g.bytes g.octets; goes_on = o }))
  framed-led f (whole q) (e, g, n) =
      subst (λ (x : Frame). Led c (bytes_offered_of i) (done_in (framed_as x c f.result.begun f.result.taken (with_packet s f.packet)))) (sym e)
      (whole-led c f.result.begun (with_packet s f.packet) i w.base (room-packet f.packet g.same_length) w.counts no_last n
      (subst Octets g.bytes g.octets))
  framed-led f short (e, n) =
      subst (λ (x : Frame). Led c (bytes_offered_of i) (done_in (framed_as x c f.result.begun f.result.taken (with_packet s f.packet)))) (sym e)
      (ends-led c (bytes_offered_of i) s w.base end.LengthTooSmall (with_packet s f.packet))

  pub offered-led : Octets i → Led c (bytes_offered_of i) (done_in (offers c (framed s.packet c.begun 0 i) s))
  offered-led oct =
      framed-led (framed s.packet c.begun 0 i) (read_up (take c.begun s.packet) i)
      (frames_agree s.packet i c.begun 0 w.begun.small m.packet w.begun.octets oct w.begun.goes_on)
