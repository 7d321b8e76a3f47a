-- How a game opens: the start, the Connect, and the first Get, up to the first read of the body. Assumes nothing.
use mathlib.Core.Path.{◌≡◌, refl, sym, ap, ◌∙◌}
use mathlib.Core.List.{List, [], ◌∷◌}
use mathlib.Core.Bool.{Bool, true, false, ◌||◌}
use Prim.Native.Nat.{ℕ, suc, ◌+◌, ◌-◌, ◌*◌, ◌/◌, ◌%◌, ◌≤◌}
use native.Mathlib.Nat.{div-add-mod'}
use native.Mathlib.Omega.{arith}
use lib.ListN.{length, length-replicate}
use borrow.Author.Tests.{le-ltb}
use Rattle.packet.specs.FirstByte.{named, first_byte, same_opcode}
use Rattle.packet.specs.Header.{header_at_of, walk, read_headers, first, encoding_of, tagged, allowed, encoded_at, all_bytes, bytes_of}
use Rattle.packet.specs.Modes.{is_mode}
use Rattle.packet.specs.Packet.{request_of, packet_bytes, connect_limit}
use Rattle.incoming.specs.Frame.{frame_end, framed}
use Rattle.incoming.specs.Survey.{survey_of}
use Rattle.table.specs.Targets.{unnamed}
use Rattle.packet.specs.Canonical.{canonical, rewritten}
use Rattle.packet.specs.Auth.{same}
use Rattle.packet.specs.Codes.{is_success, is_code, codes}
use Rattle.connection.specs.Reply.{send_bytes, front}
use Rattle.connection.specs.ConnectReply.{connect_headers, answered_challenge, challenges}
use Rattle.connection.specs.Peer.{peer_with, fresh_peer, limited, srm_peer}
use Rattle.connection.specs.declared.peer.Peer.{Peer}
use Rattle.connection.proofs.Front.{front_length}
use Rattle.connection.proofs.Standings.{PeerFits}
use Rattle.server.specs.declared.Operation.TheVariants.{Nothing, Sending, Getting}
use Rattle.server.specs.declared.Await.{Await}
use Rattle.server.specs.declared.Await.TheVariants as await
use Rattle.server.specs.declared.Engine.{Engine}
use Rattle.server.specs.declared.HostRequest.TheVariants as request
use Rattle.server.specs.declared.Outcome.TheVariants as outcome
use Rattle.model.specs.Step.{Stores, with_reply, engine_with, done, called, done_tabled, wants, asks, replies, sends_connect, after}
use Rattle.model.specs.Request.{last_packet, last_headers}
use Rattle.model.specs.Connect.{connect_packet as connecting, connect_answer, connect_sends}
use Rattle.model.specs.Dispatch.{packet_target, packet_done, rejection, dispatch}
use Rattle.model.specs.Object.{sends_next}
use Rattle.model.specs.Operation.{nothing_gathered, get_packet as gets}
use Rattle.incoming.specs.Gather.{gather_all}
use Rattle.model.specs.Guard.{long_realm, bad_reply, bad_headers}
use Rattle.model.specs.Calls.{with_packet, offers, bytes_offered_step, reply_answer, reply_given_step, reply_taken_step, object_given_step, start_step, started}
use Rattle.model.specs.Runs.{State}
use Rattle.model.proofs.Fit.{Room, room-reply, not_short, tables-long, none-begun, Shape, Sits, is_sound}
use Rattle.simulator.specs.Play.{Moment, moment, settings_for, blank_store, blank, begun, opening_packet, connects, connected_from}
use Rattle.simulator.specs.Play.{plain_get, game_after, turn, plays}
use Rattle.simulator.proofs.Turns.{Three, three, plays-turn, object, chunk_at, next-plain}

-- ---- the start

pub zeros-length : (n : ℕ) → length (blank_store n) ≡ n
unfolding blank_store
zeros-length n = length-replicate n 0

pub blank-room : Room 0 blank
blank-room =
    record {
      packet = omega (arith, zeros-length 65535);
      headers = omega (arith, zeros-length 65535);
      reply = omega (arith, zeros-length 65535);
      body = omega arith;
    }

abbrev pub first_state : Bool → Stores → List ℕ → State
first_state srm s t = record { engine = started (settings_for srm); stores = s; tables = t }

pub begun_is : (srm : Bool) → begun srm ≡ first_state srm blank (blank_store 320)
unfolding start_step long_realm
begun_is srm = rw (tables-long (blank_store 320) (omega (arith, zeros-length 320)), not_short 0 blank blank-room)

-- ---- the Connect

-- its two bytes of the limit
abbrev named-limit : ℕ → ℕ
named-limit m = m / 256 * 256 + m % 256

-- the packet store, once the Connect has come
abbrev connect_in : ℕ → Bool → ℕ → ℕ → List ℕ → List ℕ
connect_in m true a b rest = 0x80 ∷ 0x00 ∷ 0x09 ∷ 0x10 ∷ 0x00 ∷ m / 256 ∷ m % 256 ∷ 0x97 ∷ 0x01 ∷ rest
connect_in m false a b rest = 0x80 ∷ 0x00 ∷ 0x07 ∷ 0x10 ∷ 0x00 ∷ m / 256 ∷ m % 256 ∷ a ∷ b ∷ rest

abbrev pub connect_length : Bool → ℕ
connect_length true = 9
connect_length false = 7

connect_comes : (m : ℕ) (srm : Bool) (x₀ x₁ x₂ x₃ x₄ x₅ x₆ x₇ x₈ : ℕ) (rest : List ℕ) (s : Stores) (t : List ℕ)
    → let e = started (settings_for srm) in
    let p = x₀ ∷ x₁ ∷ x₂ ∷ x₃ ∷ x₄ ∷ x₅ ∷ x₆ ∷ x₇ ∷ x₈ ∷ rest in
    offers e (framed p 0 0 (opening_packet m srm)) s t
    ≡ after (connect_length srm)
    (asks (engine_with (settings_for srm) fresh_peer Nothing await.Bytes 0 (connect_length srm) unnamed)
    (limited fresh_peer (named-limit m)) Nothing await.Connect
    (request.Connect (connect_length srm)) (with_packet s (connect_in m srm x₇ x₈ rest)))
unfolding started engine_with framed frame_end packet_done packet_target request_of named first_byte read_headers walk header_at_of same_opcode survey_of first
    dispatch connecting packet_bytes last_packet connect_limit encoding_of tagged allowed encoded_at is_mode
connect_comes m true x₀ x₁ x₂ x₃ x₄ x₅ x₆ x₇ x₈ rest s t = refl
connect_comes m false x₀ x₁ x₂ x₃ x₄ x₅ x₆ x₇ x₈ rest s t = refl

-- a store that has nine bytes at least
record Nine (p : List ℕ) : Type 0 where
  x₀ : ℕ
  x₁ : ℕ
  x₂ : ℕ
  x₃ : ℕ
  x₄ : ℕ
  x₅ : ℕ
  x₆ : ℕ
  x₇ : ℕ
  x₈ : ℕ
  rest : List ℕ
  is : p ≡ x₀ ∷ x₁ ∷ x₂ ∷ x₃ ∷ x₄ ∷ x₅ ∷ x₆ ∷ x₇ ∷ x₈ ∷ rest

nine : (p : List ℕ) → 9 ≤ length p → Nine p
nine [] h = absurd (omega arith)
nine (a ∷ []) h = absurd (omega arith)
nine (a ∷ b ∷ []) h = absurd (omega arith)
nine (a ∷ b ∷ c ∷ []) h = absurd (omega arith)
nine (a ∷ b ∷ c ∷ d ∷ []) h = absurd (omega arith)
nine (a ∷ b ∷ c ∷ d ∷ e ∷ []) h = absurd (omega arith)
nine (a ∷ b ∷ c ∷ d ∷ e ∷ f ∷ []) h = absurd (omega arith)
nine (a ∷ b ∷ c ∷ d ∷ e ∷ f ∷ g ∷ []) h = absurd (omega arith)
nine (a ∷ b ∷ c ∷ d ∷ e ∷ f ∷ g ∷ i ∷ []) h = absurd (omega arith)
nine (a ∷ b ∷ c ∷ d ∷ e ∷ f ∷ g ∷ i ∷ j ∷ rest) h =
    record { x₀ = a; x₁ = b; x₂ = c; x₃ = d; x₄ = e; x₅ = f; x₆ = g; x₇ = i; x₈ = j; rest = rest; is = refl }

-- the peer once the Connect has come, and once it is accepted
abbrev named-peer : ℕ → Peer
named-peer m = limited fresh_peer m

abbrev pub peer_of : ℕ → Bool → Peer
peer_of m srm = srm_peer (named-peer m) srm

-- the reply to it
abbrev connect_reply : Bool → List ℕ
connect_reply true = 0xA0 ∷ 0x00 ∷ 0x09 ∷ 0x10 ∷ 0x00 ∷ 0xFF ∷ 0xFF ∷ 0x97 ∷ 0x01 ∷ []
connect_reply false = 0xA0 ∷ 0x00 ∷ 0x07 ∷ 0x10 ∷ 0x00 ∷ 0xFF ∷ 0xFF ∷ []

abbrev accepted : ℕ → Bool → Engine
accepted m srm = engine_with (settings_for srm) (named-peer m) Nothing await.Connect 0 (connect_length srm) unnamed

connect_answered : (m : ℕ) (srm : Bool) (a b : ℕ) (rest : List ℕ) (s : Stores) (t : List ℕ) → 255 ≤ m → m ≤ 65535
    → let z = with_packet s (connect_in m srm a b rest) in
    reply_answer (accepted m srm) 0x20 [] z t
    ≡ done_tabled (replies (accepted m srm) (peer_of m srm) Nothing await.Taken (connect_reply srm) z) t
unfolding reply_answer connect_answer connect_sends sends_connect send_bytes connect_headers answered_challenge challenges
    engine_with peer_with request_of named first_byte read_headers walk header_at_of same_opcode survey_of first
    packet_bytes last_packet last_headers encoding_of tagged allowed encoded_at is_mode is_success all_bytes bytes_of
connect_answered m true a b rest s t low high = rw (le-ltb m 255 low, le-ltb m 9 (omega arith))
connect_answered m false a b rest s t low high = rw (le-ltb m 255 low, le-ltb m 7 (omega arith))

-- ---- the calls of the Connect

good-answer : bad_reply 0x20 [] ≡ false
unfolding bad_reply is_code codes bad_headers canonical rewritten same read_headers walk header_at_of all_bytes
good-answer = refl

good-headers : bad_headers [] ≡ false
unfolding bad_headers canonical rewritten same read_headers walk header_at_of all_bytes
good-headers = refl

-- a Get packet while nothing is open
get_comes : (m : ℕ) (srm : Bool) (len x y z : ℕ) (rest : List ℕ) (s : Stores) (t : List ℕ)
    → offers (engine_with (settings_for srm) (peer_of m srm) Nothing await.Bytes 0 len unnamed) (framed (x ∷ y ∷ z ∷ rest) 0 0 plain_get) s t
    ≡ after 3
    (done (engine_with (settings_for srm) (peer_of m srm) (Getting nothing_gathered srm false false) await.Get 0 3 unnamed)
    (outcome.Request (request.Get 0))
    (with_packet s (0x83 ∷ 0x00 ∷ 0x03 ∷ rest)))
unfolding engine_with peer_with framed frame_end packet_done packet_target request_of named first_byte read_headers walk header_at_of same_opcode survey_of first
    dispatch rejection gets gather_all
get_comes m true len x y z rest s t = refl
get_comes m false len x y z rest s t = refl

module _ (m : ℕ) (low : 255 ≤ m) (high : m ≤ 65535) (srm : Bool) (t : List ℕ) (tables : 320 ≤ length t) where
  pub peer-limit : (peer_of m srm).remote_max_packet_length ≡ m
  unfolding peer_with
  peer-limit = rw (le-ltb m 255 low)

  pub peer-mode : (peer_of m srm).srm_enabled ≡ srm
  unfolding peer_with
  peer-mode = refl

  named-fits : PeerFits (named-peer m).nonces (named-peer m)
  unfolding peer_with
  named-fits =
      record {
        count = omega arith;
        least = rw (le-ltb m 255 low) low;
        most = rw (le-ltb m 255 low) high;
        nonces = refl;
        few = omega arith;
      }

  pub peer-fits : PeerFits (peer_of m srm).nonces (peer_of m srm)
  unfolding peer_with
  peer-fits =
      record {
        count = omega arith;
        least = rw (le-ltb m 255 low) low;
        most = rw (le-ltb m 255 low) high;
        nonces = refl;
        few = omega arith;
      }

  fresh-fits : PeerFits fresh_peer.nonces fresh_peer
  unfolding peer_with
  fresh-fits = record { count = omega arith; least = omega arith; most = omega arith; nonces = refl; few = omega arith }

  -- the state is sound while nothing is open
  sits_free : (pr : Peer) (a : Await) (len : ℕ) (s : Stores) → PeerFits pr.nonces pr → Room 0 s → len ≤ 65535 → Shape a Nothing
      → Sits (engine_with (settings_for srm) pr Nothing a 0 len unnamed) s
  unfolding engine_with
  sits_free pr a len s f r l h =
      record { base = record { room = r; peer = f; last = l }; begun = none-begun s.packet; counts = refl; shape = h }

  sits_getting : (s : Stores) → Room 0 s
      → Sits (engine_with (settings_for srm) (peer_of m srm) (Getting nothing_gathered srm false false) await.Get 0 3 unnamed) s
  unfolding engine_with
  sits_getting s r =
      record {
        base = record { room = r; peer = peer-fits; last = omega arith };
        begun = none-begun s.packet;
        counts = refl;
        shape = record { gathered = nothing_gathered; srm = srm; confirm = false; wait = false; is = refl };
      }

  pub length-short : connect_length srm ≤ 65535
  length-short = go srm
    where
      go : (w : Bool) → connect_length w ≤ 65535
      go true = omega arith
      go false = omega arith

  connect_offered : (s : Stores) → Room 0 s → (v : Nine s.packet)
      → bytes_offered_step (started (settings_for srm)) (opening_packet m srm) s t
      ≡ after (connect_length srm)
      (asks (engine_with (settings_for srm) fresh_peer Nothing await.Bytes 0 (connect_length srm) unnamed) (named-peer m) Nothing await.Connect
      (request.Connect (connect_length srm)) (with_packet s (connect_in m srm v.x₇ v.x₈ v.rest)))
  unfolding bytes_offered_step started engine_with
  connect_offered s r v =
      let e : named-limit m ≡ m = div-add-mod' m 256 in
      let sound = is_sound (started (settings_for srm)) s (sits_free fresh_peer await.Bytes 0 s fresh-fits r (omega arith) refl) in
      rw (tables-long t tables, not_short 0 s r, sound, v.is)
      (rw e at (connect_comes m srm v.x₀ v.x₁ v.x₂ v.x₃ v.x₄ v.x₅ v.x₆ v.x₇ v.x₈ v.rest s t))

  connect_given : (s : Stores) (a b : ℕ) (rest : List ℕ) → Room 0 (with_packet s (connect_in m srm a b rest))
      → let z = with_packet s (connect_in m srm a b rest) in
      reply_given_step (accepted m srm) 0x20 [] z t
      ≡ called (after 0 (replies (accepted m srm) (peer_of m srm) Nothing await.Taken (connect_reply srm) z)) t
  unfolding reply_given_step engine_with
  connect_given s a b rest r =
      rw (
        tables-long t tables,
        not_short 0 (with_packet s (connect_in m srm a b rest)) r,
        is_sound (accepted m srm) (with_packet s (connect_in m srm a b rest))
            (sits_free (named-peer m) await.Connect (connect_length srm) (with_packet s (connect_in m srm a b rest)) named-fits r length-short refl),
        good-answer,
        connect_answered m srm a b rest s t low high,
      )

  connect_taken : (s : Stores) → Room 0 s
      → reply_taken_step (engine_with (settings_for srm) (peer_of m srm) Nothing await.Taken 0 (connect_length srm) unnamed) s
      ≡ after 0 (wants (engine_with (settings_for srm) (peer_of m srm) Nothing await.Taken 0 (connect_length srm) unnamed) (peer_of m srm) Nothing s)
  unfolding reply_taken_step engine_with
  connect_taken s r =
      rw (
        not_short 0 s r,
        is_sound (engine_with (settings_for srm) (peer_of m srm) Nothing await.Taken 0 (connect_length srm) unnamed) s
            (sits_free (peer_of m srm) await.Taken (connect_length srm) s peer-fits r length-short refl),
      )

  -- a free engine, between two operations
  abbrev pub free : ℕ → Engine
  free len = engine_with (settings_for srm) (peer_of m srm) Nothing await.Bytes 0 len unnamed

  -- nothing is asked yet
  abbrev pub opening : ℕ → Stores → ℕ → Moment
  opening n s len =
      moment (record { engine = free len; outcome = outcome.WantsBytes; left = n; packets = 0; requests = 0; over = false }) s t

  -- the stores with the Connect's reply
  abbrev replied_in : Stores → Stores
  replied_in s = with_reply s (front (connect_reply srm) s.reply)

  reply-length : length (connect_reply srm) ≤ 65535
  reply-length = go srm
    where
      go : (w : Bool) → length (connect_reply w) ≤ 65535
      go true = omega arith
      go false = omega arith

  replied-room : (s : Stores) → Room 0 s → Room 0 (replied_in s)
  replied-room s r =
      room-reply 0 s (front (connect_reply srm) s.reply) (front_length (connect_reply srm) s.reply (omega (arith, r.reply, reply-length))) r

  packet-room : (s : Stores) (q : List ℕ) → length q ≡ length s.packet → Room 0 s → Room 0 (with_packet s q)
  packet-room s q e r = record { packet = rw e r.packet; headers = r.headers; reply = r.reply; body = r.body }

  connect_length_lem : (x y : ℕ) (p rest : List ℕ) (w : Bool) → length p ≡ 9 + length rest → length (connect_in m w x y rest) ≡ length p
  connect_length_lem x y p rest true e = omega arith
  connect_length_lem x y p rest false e = omega arith

  pub connects_to : (n : ℕ) (s : Stores) → Room 0 s
      → (s' : Stores) × (Room 0 s' × (connected_from (first_state srm s t) n m srm ≡ opening n s' (connect_length srm)))
  unfolding connects engine_with
  connects_to n s r =
      let v = nine s.packet (omega (arith, r.packet)) in
      let q = connect_in m srm v.x₇ v.x₈ v.rest in
      let z = with_packet s q in
      let d : length q ≡ length s.packet = connect_length_lem v.x₇ v.x₈ s.packet v.rest srm (omega (arith, ap length v.is)) in
      let y = packet-room s q d r in (
        replied_in z,
        (
          replied-room z y,
          rw (connect_offered s r v, connect_given s v.x₇ v.x₈ v.rest y, connect_taken (replied_in z) (replied-room z y)),
        ),
      )

  -- ---- the Get

  abbrev getting_at : Engine
  getting_at = engine_with (settings_for srm) (peer_of m srm) (Getting nothing_gathered srm false false) await.Get 0 3 unnamed

  abbrev get_in : Stores → List ℕ → Stores
  get_in s rest = with_packet s (0x83 ∷ 0x00 ∷ 0x03 ∷ rest)

  get_offered : (s : Stores) (len : ℕ) → Room 0 s → len ≤ 65535 → (v : Three s.packet)
      → bytes_offered_step (free len) plain_get s t
      ≡ after 3 (done getting_at (outcome.Request (request.Get 0)) (get_in s v.rest))
  unfolding bytes_offered_step engine_with
  get_offered s len r l v =
      rw (tables-long t tables, not_short 0 s r, is_sound (free len) s (sits_free (peer_of m srm) await.Bytes len s peer-fits r l refl), v.is)
      (get_comes m srm len v.a v.b v.c v.rest s t)

  abbrev asks_object : ℕ → Stores → Moment
  asks_object n s =
      moment
      (record { engine = getting_at; outcome = outcome.Request (request.Get 0); left = n; packets = 0; requests = 1; over = false })
      s t

  turn_get : (z : List ℕ) (n : ℕ) (s : Stores) (len : ℕ) (v : Three s.packet) → Room 0 s → len ≤ 65535
      → turn z (opening n s len) ≡ asks_object n (get_in s v.rest)
  unfolding turn game_after
  turn_get z n s len v r l = let e : n - 0 ≡ n = omega arith in rw (get_offered s len r l v, e)

  -- the object is given, and a body read is asked for
  abbrev reads_at : Engine
  reads_at = engine_with (settings_for srm) (peer_of m srm) (Sending (object false 0) (chunk_at 0 (m - 5)) srm false) await.Body 0 3 unnamed

  object-comes : (s : Stores) → Room 0 s
      → object_given_step getting_at [] true s ≡ after 0 (done reads_at (outcome.Request (request.Read (m - 5))) s)
  unfolding object_given_step sends_next engine_with
  object-comes s r =
      let e : m - 3 - 3 + 1 ≡ m - 5 = omega arith in
      let o : (srm || false) ≡ srm = or_false srm in
      rw (
        not_short 0 s r,
        is_sound getting_at s (sits_getting s r),
        good-headers,
        o,
        peer-limit,
        next-plain (m - 3) 0 false s.headers s.reply (omega arith),
        e,
      )
    where
      or_false : (w : Bool) → (w || false) ≡ w
      or_false true = refl
      or_false false = refl

  turn-object : (z : List ℕ) (n : ℕ) (s : Stores) → Room 0 s
      → turn z (asks_object n s)
      ≡ moment (record { engine = reads_at; outcome = outcome.Request (request.Read (m - 5)); left = n; packets = 0; requests = 1; over = false }) s t
  unfolding turn game_after
  turn-object z n s r = let e : n - 0 ≡ n = omega arith in rw (object-comes s r, e)

  -- ---- the first two turns

  pub opens_to : (z : List ℕ) (n : ℕ) (s : Stores) (len f : ℕ) → Room 0 s → len ≤ 65535
      → (s' : Stores) × (Room 0 s' × (plays z (suc (suc f)) (opening n s len)
      ≡ plays z f
      (moment
      (record { engine = reads_at; outcome = outcome.Request (request.Read (m - 5)); left = n; packets = 0; requests = 1; over = false }) s' t)))
  opens_to z n s len f r l =
      let v = three s.packet (omega (arith, r.packet)) in
      let s' = get_in s v.rest in
      let d : length s'.packet ≡ length s.packet = ap length (sym v.is) in
      let y = packet-room s s'.packet d r in (
        s',
        (
          y,
          plays-turn z (suc f) (opening n s len) (asks_object n s') refl (turn_get z n s len v r l)
              ∙ plays-turn z f (asks_object n s') _ refl (turn-object z n s' y),
        ),
      )
