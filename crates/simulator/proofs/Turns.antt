-- The turns of a game, one by one: what each call leads to, for an object without headers. Assumes nothing.
use mathlib.Core.Path.{◌≡◌, refl, sym, ap, ◌∙◌}
use mathlib.Core.List.{List, [], ◌∷◌}
use mathlib.Core.Bool.{Bool, true, false, ◌&&◌}
use Prim.Native.Nat.{ℕ, zero, suc, ◌+◌, ◌-◌, ◌*◌, ◌≤◌, ◌<◌}
use native.Mathlib.Nat.{add-zero}
use native.Mathlib.Omega.{arith}
use lib.ListN.{length, get_or, take, set, length-set}
use lib.Seq.{paste, length-take-le}
use lib.Dec.{ltb}
use borrow.Author.Tests.{ltb-true, ltb-false, le-ltb, lt-ltb, le-leb, ne_eqb}
use Rattle.base.specs.Pick.{pick}
use Rattle.packet.specs.FirstByte.{named, first_byte, same_opcode}
use Rattle.packet.specs.Header.{header_at_of, walk, read_headers, first}
use Rattle.packet.specs.Packet.{request_of}
use Rattle.incoming.specs.Frame.{frame_end, framed}
use Rattle.incoming.specs.Survey.{survey_of}
use Rattle.table.specs.declared.targets.Target.{Target}
use Rattle.outgoing.specs.declared.object.Outgoing.{Outgoing}
use Rattle.outgoing.specs.declared.object.Chunk.{Chunk}
use Rattle.outgoing.specs.Object.{Made, made, reading, sending, body_header, no_chunk, begin_chunk, fill, fill_packet, next_packet, full_chunk, body_given_of}
use Rattle.connection.specs.declared.peer.Peer.{Peer}
use Rattle.connection.proofs.Standings.{PeerFits}
use Rattle.server.specs.declared.Settings.{Settings}
use Rattle.server.specs.declared.Operation.{Operation}
use Rattle.server.specs.declared.Operation.TheVariants.{Nothing, Sending}
use Rattle.server.specs.declared.Await.{Await}
use Rattle.server.specs.declared.Await.TheVariants as await
use Rattle.server.specs.declared.Engine.{Engine}
use Rattle.server.specs.declared.HostRequest.TheVariants as request
use Rattle.server.specs.declared.Outcome.TheVariants as outcome
use Rattle.model.specs.Step.{Stores, with_reply, engine_with, Done, wants, asks, after}
use Rattle.model.specs.Object.{sends_packet, sends_next}
use Rattle.model.specs.Guard.{sound_operation}
use Rattle.model.specs.Dispatch.{packet_target, packet_done}
use Rattle.model.specs.Calls.{with_packet, offers, body_given_step, reply_taken_step, bytes_offered_step}
use Rattle.outgoing.proofs.Sent.{body-sends}
use Rattle.model.proofs.Fit.{Room, not_short, room-reply, none-begun, Shape, Sits, is_sound, tables-long}
use Rattle.simulator.specs.declared.Game.{Game}
use Rattle.simulator.specs.Play.{Moment, moment, plain_get, giving, game_after, turn, plays, formula_packets}
use Rattle.simulator.proofs.Counting.{last_one, one_more, at_least_one}

-- ---- an object without headers

abbrev pub object : Bool → ℕ → Outgoing
object has b = record { total = 0; sent = 0; lead = false; has_body = true; has_pending = has; pending = b }

-- its next packet is a chunk that begins
pub next-plain : (capacity b : ℕ) (has : Bool) (hs y : List ℕ) → 3 ≤ capacity
    → next_packet capacity (object has b) hs y ≡ begin_chunk has (object has b) 3 (capacity - 3) y
unfolding next_packet fill_packet fill header_at_of
next-plain capacity b has hs y h = rw (le-ltb (capacity + 3) 6 (omega arith))

abbrev pub chunk_at : ℕ → ℕ → Chunk
chunk_at got room = record { at = 3; got = got; room = room }

-- a game in which the engine's last call came to `d`
abbrev pub game_of : Done → ℕ → ℕ → ℕ → Game
game_of d left p q = record { engine = d.engine; outcome = d.outcome; left = left; packets = p; requests = q; over = false }

-- ---- so many turns

-- a game that is over, with these counts and the whole body given, while the engine waits for the next request
pub record Ended (p q : ℕ) (x : Moment) : Type 0 where
  pub over : x.game.over ≡ true
  pub packets : x.game.packets ≡ p
  pub requests : x.game.requests ≡ q
  pub left : x.game.left ≡ 0
  pub waits : x.game.outcome ≡ outcome.WantsBytes

pub ended_as : (p p' q q' : ℕ) (x : Moment) → p ≡ p' → q ≡ q' → Ended p q x → Ended p' q' x
ended_as p p' q q' x a b h = record { over = h.over; packets = h.packets ∙ a; requests = h.requests ∙ b; left = h.left; waits = h.waits }

pub ended_by : (p q : ℕ) (x y : Moment) → x ≡ y → Ended p q y → Ended p q x
ended_by p q x y e h = rw e h

-- a turn that leads to `y`
pub plays-turn : (z : List ℕ) (f : ℕ) (x y : Moment) → x.game.over ≡ false → turn z x ≡ y → plays z (suc f) x ≡ plays z f y
unfolding plays
plays-turn z f x y h e = ap (λ (o : Bool). pick o x (plays z f (turn z x))) h ∙ ap (λ (w : Moment). plays z f w) e

pub plays-over : (z : List ℕ) (f : ℕ) (x : Moment) → x.game.over ≡ true → plays z f x ≡ x
unfolding plays
plays-over z zero x h = refl
plays-over z (suc f) x h = rw h

-- a store that has three bytes at least
pub record Three (p : List ℕ) : Type 0 where
  pub a : ℕ
  pub b : ℕ
  pub c : ℕ
  pub rest : List ℕ
  pub is : p ≡ a ∷ b ∷ c ∷ rest

pub three : (p : List ℕ) → 3 ≤ length p → Three p
three [] h = absurd (omega arith)
three (a ∷ []) h = absurd (omega arith)
three (a ∷ b ∷ []) h = absurd (omega arith)
three (a ∷ b ∷ c ∷ rest) h = record { a = a; b = b; c = c; rest = rest; is = refl }

module _ (z : List ℕ) (long : 65535 ≤ length z) (m : ℕ) (low : 255 ≤ m) (high : m ≤ 65535) (st : Settings) (pr : Peer)
    (fits : PeerFits pr.nonces pr)
    (limit : pr.remote_max_packet_length ≡ m) (g : Target) (t : List ℕ) (tables : 320 ≤ length t) (srm : Bool) where
  abbrev pub engine_at : Operation → Await → ℕ → Engine
  engine_at o a len = engine_with st pr o a 0 len g

  abbrev pub Lent : Stores → Type 0
  Lent s = Room st.max_object_size s

  pub sits_at : (s : Stores) (o : Operation) (a : Await) (len : ℕ) → Lent s → len ≤ 65535
      → sound_operation st.max_object_size o ≡ true → Shape a o
      → Sits (engine_at o a len) s
  unfolding engine_with
  sits_at s o a len r l c h =
      record { base = record { room = r; peer = fits; last = l }; begun = none-begun s.packet; counts = c; shape = h }

  abbrev pub sending_of : Bool → ℕ → ℕ → ℕ → Operation
  sending_of has b got room = Sending (object has b) (chunk_at got room) srm false

  pub sound-sending : (has : Bool) (b got room : ℕ) → 3 + got ≤ 65532 → 3 + got + room ≤ 65533
      → sound_operation st.max_object_size (sending_of has b got room) ≡ true
  sound-sending has b got room h k = rw (le-leb (3 + got) 65532 h, le-leb (3 + got + room) 65533 k)

  -- a body read is asked for
  abbrev pub reads : Stores → ℕ → Bool → ℕ → ℕ → ℕ → ℕ → ℕ → ℕ → Moment
  reads s len has b got room left p q =
      moment
      (record {
        engine = engine_at (sending_of has b got room) await.Body len;
        outcome = outcome.Request (request.Read room);
        left = left;
        packets = p;
        requests = q;
        over = false;
      })
      s t

  -- bytes of the body are given
  abbrev pub given : Stores → ℕ → Bool → ℕ → ℕ → ℕ → ℕ → Done
  given s len has b got room k =
      sends_packet (engine_at (sending_of has b got room) await.Body len) srm false (body_given_of (object has b) (chunk_at got room) (take k z) s.reply) s

  pub turn-given : (s : Stores) (len : ℕ) (has : Bool) (b got room left p q k : ℕ) → Lent s → len ≤ 65535 → 3 + got ≤ 65532 → 3 + got + room ≤ 65533
      → giving room left ≡ k → k ≤ room
      → turn z (reads s len has b got room left p q)
      ≡ moment (game_of (given s len has b got room k) (left - k) p q) (given s len has b got room k).stores t
  unfolding turn game_after body_given_step engine_with
  turn-given s len has b got room left p q k r l h w e f =
      let n : length (take k z) ≡ k = length-take-le k z (omega arith) in
      let o = sending_of has b got room in
      let d =
      sits_at s o await.Body len r l (sound-sending has b got room h w)
      (record { outgoing = object has b; chunk = chunk_at got room; srm = srm; wait = false; is = refl }) in
      rw (e, not_short st.max_object_size s r, is_sound (engine_at o await.Body len) s d, n, le-ltb room k f, add-zero p, add-zero q)

  -- ---- what body bytes lead to

  -- as many bytes as were asked for: the chunk is full
  pub chunk-full : (has : Bool) (b got room : ℕ) (y : List ℕ) → 1 ≤ room → room ≤ 65535 → 1 ≤ got + (room - 1)
      → body_given_of (object has b) (chunk_at got room) (take room z) y
      ≡ sending (object true (get_or (take room z) (room - 1) 0)) false (6 + (got + (room - 1)))
      (body_header 0x48 3 (got + (room - 1)) (paste y (6 + got) (take (room - 1) (take room z)) (room - 1)))
  unfolding body_given_of full_chunk
  chunk-full has b got room y o h w =
      let n : length (take room z) ≡ room = length-take-le room z (omega arith) in
      rw (n, ne_eqb room 0 (λ e. omega arith), le-ltb room room (omega arith), ne_eqb (got + (room - 1)) 0 (λ e. omega arith))

  -- fewer: the chunk goes on
  pub chunk_part : (has : Bool) (b got room k : ℕ) (y : List ℕ) → 1 ≤ k → k < room → k ≤ 65535
      → body_given_of (object has b) (chunk_at got room) (take k z) y
      ≡ made (reading (object has b) 3 (got + k) (room - k)) (paste y (6 + got) (take k z) k)
  unfolding body_given_of
  chunk_part has b got room k y o h w =
      let n : length (take k z) ≡ k = length-take-le k z (omega arith) in
      rw (n, ne_eqb k 0 (λ e. omega arith), lt-ltb k room h)

  -- none: the body has ended
  pub chunk-last : (has : Bool) (b got room : ℕ) (y : List ℕ)
      → body_given_of (object has b) (chunk_at got room) (take 0 z) y ≡ sending (object false 0) true (6 + got) (body_header 0x49 3 got y)
  unfolding body_given_of
  chunk-last has b got room y = refl

  -- a reply waits that others follow
  abbrev pub waits : Stores → ℕ → ℕ → ℕ → ℕ → ℕ → ℕ → Moment
  waits s len b n left p q =
      moment
      (record {
        engine = engine_at (Sending (object true b) no_chunk srm false) await.Taken len;
        outcome = outcome.Reply n;
        left = left;
        packets = p;
        requests = q;
        over = false;
      })
      s t

  -- the last reply waits
  abbrev pub waits_last : Stores → ℕ → ℕ → ℕ → ℕ → Moment
  waits_last s len n p q =
      moment
      (record { engine = engine_at Nothing await.Taken len; outcome = outcome.Reply n; left = 0; packets = p; requests = q; over = false })
      s t

  -- bytes are wanted, between two packets of the object
  abbrev pub wants_on : Stores → ℕ → ℕ → ℕ → ℕ → ℕ → Moment
  wants_on s len b left p q =
      moment
      (record {
        engine = engine_at (Sending (object true b) no_chunk srm false) await.Bytes len;
        outcome = outcome.WantsBytes;
        left = left;
        packets = p;
        requests = q;
        over = false;
      })
      s t

  -- the stores with room, and the reply store's first byte
  pub record Waiting (code : ℕ) (s : Stores) : Type 0 where
    pub lent : Lent s
    pub first : get_or s.reply 0 0 ≡ code

  module _ (s : Stores) (len : ℕ) (r : Lent s) (l : len ≤ 65535) where
    -- a chunk that is full
    pub turn-full : (has : Bool) (b got room left p q : ℕ) → 1 ≤ room → 3 + got ≤ 65532 → 3 + got + room ≤ 65533 → 1 ≤ got + (room - 1) → room ≤ left
        → (s' : Stores) × ((b' : ℕ) × ((n : ℕ) × (Waiting 0x90 s'
        × (turn z (reads s len has b got room left p q) ≡ waits s' len b' n (left - room) p q))))
    unfolding engine_with
    turn-full has b got room left p q o h w f y =
        let k : giving room left ≡ room = omega arith in
        let b' = get_or (take room z) (room - 1) 0 in
        let n = 6 + (got + (room - 1)) in
        let i = chunk-full has b got room s.reply o (omega arith) f in
        let d = paste s.reply (6 + got) (take (room - 1) (take room z)) (room - 1) in
        let x = sending (object true b') false n (body_header 0x48 3 (got + (room - 1)) d) in
        let d : length (take room z) ≡ room = length-take-le room z (omega arith) in
        let v = body-sends (object has b) (chunk_at got room) (take room z) s.reply r.reply (omega arith) h w (omega arith) in
        let u : length x.reply ≡ length s.reply = ap (λ (j : Made). length j.reply) (sym i) ∙ v.same_length in (
          with_reply s x.reply,
          (
            b',
            (
              n,
              (
                record { lent = room-reply st.max_object_size s x.reply u r; first = refl },
                turn-given s len has b got room left p q room r l h w k (omega arith) ∙ rw i,
              ),
            ),
          ),
        )

    -- a chunk that goes on
    pub turn-part : (has : Bool) (b got room left p q : ℕ) → 3 + got + room ≤ 65533 → 1 ≤ left → left < room
        → (s' : Stores) × (Lent s' × (turn z (reads s len has b got room left p q) ≡ reads s' len has b (got + left) (room - left) 0 p q))
    unfolding engine_with
    turn-part has b got room left p q w o y =
        let k : giving room left ≡ left = omega arith in
        let i = chunk_part has b got room left s.reply o y (omega arith) in
        let x = made (reading (object has b) 3 (got + left) (room - left)) (paste s.reply (6 + got) (take left z) left) in
        let d : length (take left z) ≡ left = length-take-le left z (omega arith) in
        let v = body-sends (object has b) (chunk_at got room) (take left z) s.reply r.reply (omega arith) (omega arith) w (omega arith) in
        let u : length x.reply ≡ length s.reply = ap (λ (j : Made). length j.reply) (sym i) ∙ v.same_length in
        let a : left - left ≡ 0 = omega arith in (
          with_reply s x.reply,
          (
            room-reply st.max_object_size s x.reply u r,
            turn-given s len has b got room left p q left r l (omega arith) w k (omega arith) ∙ rw (i, a),
          ),
        )

    -- the body's end
    pub turn_end : (has : Bool) (b got room p q : ℕ) → 3 + got ≤ 65532 → 3 + got + room ≤ 65533
        → (s' : Stores) × ((n : ℕ) × (Waiting 0xA0 s' × (turn z (reads s len has b got room 0 p q) ≡ waits_last s' len n p q)))
    unfolding engine_with
    turn_end has b got room p q h w =
        let k : giving room 0 ≡ 0 = omega arith in
        let i = chunk-last has b got room s.reply in
        let x = sending (object false 0) true (6 + got) (body_header 0x49 3 got s.reply) in
        let v = body-sends (object has b) (chunk_at got room) (take 0 z) s.reply r.reply (omega arith) h w (omega arith) in
        let u : length x.reply ≡ length s.reply = ap (λ (j : Made). length j.reply) (sym i) ∙ v.same_length in (
          with_reply s x.reply,
          (
            6 + got,
            (
              record { lent = room-reply st.max_object_size s x.reply u r; first = refl },
              turn-given s len has b got room 0 p q 0 r l h w k (omega arith) ∙ rw i,
            ),
          ),
        )

  -- ---- the next packet

  -- it begins with the byte that was read ahead
  abbrev pub begun_in : Stores → ℕ → Stores
  begun_in s b = with_reply s (set s.reply 6 b)

  pub begun-lent : (s : Stores) (b : ℕ) → Lent s → Lent (begun_in s b)
  begun-lent s b r = room-reply st.max_object_size s (set s.reply 6 b) (length-set s.reply 6 b) r

  abbrev pub asks_on : Stores → ℕ → ℕ → Done
  asks_on s len b =
      asks (engine_at Nothing await.Bytes len) pr (sending_of false 0 1 (m - 6)) await.Body (request.Read (m - 6)) (begun_in s b)

  pub next-begins : (s : Stores) (len b : ℕ) (a : Await) (o : Operation)
      → sends_next (engine_at o a len) (object true b) srm false s ≡ asks_on s len b
  unfolding sends_next engine_with
  next-begins s len b a o =
      let e : m - 3 - 3 ≡ m - 6 = omega arith in
      rw (limit, next-plain (m - 3) b true s.headers s.reply (omega arith), e, ne_eqb (m - 6) 0 (λ x. omega arith))

  -- ---- a reply is taken

  module _ (s : Stores) (len b n left p q : ℕ) (w : Waiting 0x90 s) (l : len ≤ 65535) where
    sound-waits : sound_operation st.max_object_size (Sending (object true b) no_chunk srm false) ≡ true
    sound-waits = refl

    pub turn-taken : turn z (waits s len b n left p q)
        ≡ moment
        (game_of (pick (srm && true)
        (sends_next (engine_at (Sending (object true b) no_chunk srm false) await.Taken len) (object true b) srm false s)
        (wants (engine_at (Sending (object true b) no_chunk srm false) await.Taken len) pr (Sending (object true b) no_chunk srm false) s))
        left (p + 1) q)
        (pick (srm && true) (sends_next (engine_at (Sending (object true b) no_chunk srm false) await.Taken len) (object true b) srm false s)
        (wants (engine_at (Sending (object true b) no_chunk srm false) await.Taken len) pr (Sending (object true b) no_chunk srm false) s)).stores t
    unfolding turn game_after reply_taken_step engine_with
    turn-taken =
        let o = Sending (object true b) no_chunk srm false in
        let e : left - 0 ≡ left = omega arith in
        rw (
          not_short st.max_object_size s w.lent,
          is_sound (engine_at o await.Taken len) s (sits_at s o await.Taken len w.lent l sound-waits refl),
          w.first,
          e,
          add-zero q,
        )

  -- the last one
  pub turn-over : (s : Stores) (len n p q : ℕ) → Waiting 0xA0 s → len ≤ 65535 → Ended (p + 1) q (turn z (waits_last s len n p q))
  unfolding turn game_after reply_taken_step engine_with
  turn-over s len n p q w l =
      record {
        over = rw w.first;
        packets = refl;
        requests = add-zero q;
        left = refl;
        waits = rw (
          not_short st.max_object_size s w.lent,
          is_sound (engine_at Nothing await.Taken len) s (sits_at s Nothing await.Taken len w.lent l refl refl),
        );
      }

  -- ---- a request is sent between two packets

  abbrev asked : Stores → List ℕ → Stores
  asked s rest = with_packet s (0x83 ∷ 0x00 ∷ 0x03 ∷ rest)

  asks_on_lem : (b len x y u : ℕ) (rest : List ℕ) (s : Stores)
      → let e = engine_at (Sending (object true b) no_chunk srm false) await.Bytes len in
      offers e (framed (x ∷ y ∷ u ∷ rest) 0 0 plain_get) s t
      ≡ after (offers e (framed (x ∷ y ∷ u ∷ rest) 0 0 plain_get) s t).took.taken
      (sends_next (engine_at (Sending (object true b) no_chunk srm false) await.Bytes 3) (object true b) srm false (asked s rest))
  unfolding engine_with framed frame_end packet_done packet_target request_of named first_byte read_headers walk header_at_of same_opcode survey_of first
  asks_on_lem b len x y u rest s = refl

  offered_on : (s : Stores) (len b : ℕ) (v : Three s.packet) → Lent s → len ≤ 65535
      → (taken : ℕ) × (bytes_offered_step (engine_at (Sending (object true b) no_chunk srm false) await.Bytes len) plain_get s t
      ≡ after taken (sends_next (engine_at (Sending (object true b) no_chunk srm false) await.Bytes 3) (object true b) srm false (asked s v.rest)))
  unfolding bytes_offered_step engine_with
  offered_on s len b v r l =
      let o = Sending (object true b) no_chunk srm false in (
        (offers (engine_at o await.Bytes len) (framed (v.a ∷ v.b ∷ v.c ∷ v.rest) 0 0 plain_get) s t).took.taken,
        rw (
          tables-long t tables,
          not_short st.max_object_size s r,
          is_sound (engine_at o await.Bytes len) s (sits_at s o await.Bytes len r l refl refl),
          v.is,
        )
            (asks_on_lem b len v.a v.b v.c v.rest s),
      )

  pub turn-asked : (s : Stores) (len b left p q : ℕ) → Lent s → len ≤ 65535
      → (s' : Stores) × (Lent s' × (turn z (wants_on s len b left p q)
      ≡ moment (game_of (sends_next (engine_at (Sending (object true b) no_chunk srm false) await.Bytes 3) (object true b) srm false s') left p (q + 1))
      (sends_next (engine_at (Sending (object true b) no_chunk srm false) await.Bytes 3) (object true b) srm false s').stores t))
  unfolding turn game_after
  turn-asked s len b left p q r l =
      let v = three s.packet (omega (arith, r.packet)) in
      let a : length (asked s v.rest).packet ≡ length s.packet = ap length (sym v.is) in
      let e : left - 0 ≡ left = omega arith in (
        asked s v.rest,
        (
          record { packet = omega (arith, r.packet); headers = r.headers; reply = r.reply; body = r.body },
          rw ((offered_on s len b v r l).1, e, add-zero p),
        ),
      )

  -- ---- from one packet to the next

  -- under Single Response Mode the next packet follows at once
  pub next-follows : srm ≡ true → (s : Stores) (len b n left p q : ℕ) → Waiting 0x90 s → len ≤ 65535
      → turn z (waits s len b n left p q) ≡ reads (begun_in s b) len false 0 1 (m - 6) left (p + 1) q
  unfolding engine_with
  next-follows h s len b n left p q w l =
      let e : (srm && true) ≡ true = rw h in
      turn-taken s len b n left p q w l
      ∙ rw (e, next-begins s len b await.Taken (Sending (object true b) no_chunk srm false))

  -- otherwise bytes are wanted
  pub next-waits : srm ≡ false → (s : Stores) (len b n left p q : ℕ) → Waiting 0x90 s → len ≤ 65535
      → turn z (waits s len b n left p q) ≡ wants_on s len b left (p + 1) q
  unfolding engine_with
  next-waits h s len b n left p q w l =
      let e : (srm && true) ≡ false = rw h in
      turn-taken s len b n left p q w l ∙ rw e

  -- and the client asks
  pub next-asked : (s : Stores) (len b left p q : ℕ) → Lent s → len ≤ 65535
      → (s' : Stores) × (Lent s' × (turn z (wants_on s len b left p q) ≡ reads s' 3 false 0 1 (m - 6) left p (q + 1)))
  unfolding engine_with
  next-asked s len b left p q r l =
      let v = turn-asked s len b left p q r l in (
        begun_in v.0 b,
        (
          begun-lent v.0 b v.1.0,
          v.1.1 ∙ rw (next-begins v.0 3 b await.Bytes (Sending (object true b) no_chunk srm false)),
        ),
      )

  -- ---- so many turns

  ended-kept : (f p q : ℕ) (x : Moment) → Ended p q x → Ended p q (plays z f x)
  ended-kept f p q x h = rw (plays-over z f x h.over) h

  -- the last reply
  last-reply : (f : ℕ) (s : Stores) (len n p q : ℕ) → Waiting 0xA0 s → len ≤ 65535 → Ended (p + 1) q (plays z (suc f) (waits_last s len n p q))
  last-reply f s len n p q w l =
      ended_by (p + 1) q _ _ (plays-turn z f (waits_last s len n p q) (turn z (waits_last s len n p q)) refl refl)
      (ended-kept f (p + 1) q (turn z (waits_last s len n p q)) (turn-over s len n p q w l))

  -- the last packet, once the body has ended
  last_end : (f : ℕ) (s : Stores) (len : ℕ) (has : Bool) (b got room p q : ℕ) → Lent s → len ≤ 65535 → 3 + got ≤ 65532 → 3 + got + room ≤ 65533
      → Ended (p + 1) q (plays z (suc (suc f)) (reads s len has b got room 0 p q))
  last_end f s len has b got room p q r l h w =
      let v = turn_end s len r l has b got room p q h w in
      ended_by (p + 1) q _ _ (plays-turn z (suc f) (reads s len has b got room 0 p q) (waits_last v.0 len v.1.0 p q) refl v.1.1.1)
      (last-reply f v.0 len v.1.0 p q v.1.1.0 l)

  -- the last packet, from what is left of the body
  last-packet : (f : ℕ) (s : Stores) (len : ℕ) (has : Bool) (b got room left p q : ℕ) → Lent s → len ≤ 65535 → got + room ≤ 65530 → left < room
      → 3 ≤ f → Ended (p + 1) q (plays z f (reads s len has b got room left p q))
  last-packet zero s len has b got room left p q r l h w k = absurd (omega arith)
  last-packet (suc zero) s len has b got room left p q r l h w k = absurd (omega arith)
  last-packet (suc (suc zero)) s len has b got room left p q r l h w k = absurd (omega arith)
  last-packet (suc (suc (suc f))) s len has b got room zero p q r l h w k =
      last_end (suc f) s len has b got room p q r l (omega arith) (omega arith)
  last-packet (suc (suc (suc f))) s len has b got room (suc left) p q r l h w k =
      let v = turn-part s len r l has b got room (suc left) p q (omega arith) (omega arith) w in
      ended_by (p + 1) q _ _
      (plays-turn z (suc (suc f)) (reads s len has b got room (suc left) p q)
      (reads v.0 len has b (got + suc left) (room - suc left) 0 p q) refl v.1.1)
      (last_end f v.0 len has b (got + suc left) (room - suc left) p q v.1.0 l (omega arith) (omega arith))

  -- ---- the whole body

  -- a body read is asked for, and `r` bytes are still to go out: those that were read ahead, and those that the host has left
  pub record Again (r p q : ℕ) (x : Moment) : Type 0 where
    pub stores : Stores
    pub len : ℕ
    pub has : Bool
    pub pending : ℕ
    pub got : ℕ
    pub room : ℕ
    pub left : ℕ
    pub lent : Lent stores
    pub short : len ≤ 65535
    pub ahead : got ≤ 1
    pub rest : room + got ≡ m - 5
    pub bytes : left + got ≡ r
    pub is : x ≡ reads stores len has pending got room left p q

  abbrev standing : (r p q : ℕ) (x : Moment) → Again r p q x → Moment
  standing r p q x a = reads a.stores a.len a.has a.pending a.got a.room a.left p q

  -- a packet that is not the last
  again_more : (r p q f : ℕ) (x : Moment) → Again r p q x → m - 6 < r → 3 ≤ f
      → (f' : ℕ) × ((q' : ℕ) × ((y : Moment) × (Again (r - (m - 6)) (p + 1) q' y
      × ((plays z f x ≡ plays z f' y) × ((f ≤ f' + 3) × (q' ≡ q + pick srm 0 1))))))
  again_more r p q zero x a h k = absurd (omega arith)
  again_more r p q (suc zero) x a h k = absurd (omega arith)
  again_more r p q (suc (suc zero)) x a h k = absurd (omega arith)
  again_more r p q (suc (suc (suc f))) x a h k =
      let v =
      turn-full a.stores a.len a.lent a.short a.has a.pending a.got a.room a.left p q (omega (arith, a.rest, a.ahead))
      (omega (arith, a.ahead)) (omega (arith, a.rest)) (omega (arith, a.rest)) (omega (arith, a.rest, a.bytes)) in
      go srm refl v.0 v.1.0 v.1.1.0 v.1.1.1.0 v.1.1.1.1
    where
      full : (s : Stores) (b n : ℕ) → turn z (standing r p q x a) ≡ waits s a.len b n (a.left - a.room) p q
          → plays z (suc (suc (suc f))) x ≡ plays z (suc (suc f)) (waits s a.len b n (a.left - a.room) p q)
      full s b n e =
          ap (λ (w : Moment). plays z (suc (suc (suc f))) w) a.is
          ∙ plays-turn z (suc (suc f)) (standing r p q x a) (waits s a.len b n (a.left - a.room) p q) refl e

      go : (w : Bool) → srm ≡ w → (s : Stores) (b n : ℕ) → Waiting 0x90 s → turn z (standing r p q x a) ≡ waits s a.len b n (a.left - a.room) p q
          → (f' : ℕ) × ((q' : ℕ) × ((y : Moment) × (Again (r - (m - 6)) (p + 1) q' y
          × ((plays z (suc (suc (suc f))) x ≡ plays z f' y) × ((suc (suc (suc f)) ≤ f' + 3) × (q' ≡ q + pick srm 0 1))))))
      go true e s b n w i = (
        suc f,
        (
          q,
          (
            reads (begun_in s b) a.len false 0 1 (m - 6) (a.left - a.room) (p + 1) q,
            (
              record {
                stores = begun_in s b;
                len = a.len;
                has = false;
                pending = 0;
                got = 1;
                room = m - 6;
                left = a.left - a.room;
                lent = begun-lent s b w.lent;
                short = a.short;
                ahead = omega arith;
                rest = omega arith;
                bytes = omega (arith, a.rest, a.bytes);
                is = refl;
              },
              (
                full s b n i
                    ∙ plays-turn z (suc f) (waits s a.len b n (a.left - a.room) p q) _ refl
                    (next-follows e s a.len b n (a.left - a.room) p q w a.short),
                (omega arith, rw e (sym (add-zero q))),
              ),
            ),
          ),
        ),
      )
      go false e s b n w i =
          let v = next-asked s a.len b (a.left - a.room) (p + 1) q w.lent a.short in (
            f,
            (
              q + 1,
              (
                reads v.0 3 false 0 1 (m - 6) (a.left - a.room) (p + 1) (q + 1),
                (
                  record {
                    stores = v.0;
                    len = 3;
                    has = false;
                    pending = 0;
                    got = 1;
                    room = m - 6;
                    left = a.left - a.room;
                    lent = v.1.0;
                    short = omega arith;
                    ahead = omega arith;
                    rest = omega arith;
                    bytes = omega (arith, a.rest, a.bytes);
                    is = refl;
                  },
                  (
                    full s b n i
                        ∙ plays-turn z (suc f) (waits s a.len b n (a.left - a.room) p q) _ refl
                        (next-waits e s a.len b n (a.left - a.room) p q w a.short)
                        ∙ plays-turn z f (wants_on s a.len b (a.left - a.room) (p + 1) q) _ refl v.1.1,
                    (omega arith, rw e),
                  ),
                ),
              ),
            ),
          )

  -- requests beyond the first
  abbrev pub further_of : ℕ → ℕ
  further_of n = pick srm 0 (n - 1)

  further : (n q : ℕ) → 1 ≤ n → q + pick srm 0 1 + further_of n ≡ q + further_of (n + 1)
  further n q h = go srm
    where
      go : (w : Bool) → q + pick w 0 1 + pick w 0 (n - 1) ≡ q + pick w 0 (n + 1 - 1)
      go true = omega arith
      go false = omega arith

  ends_last : (r p q f : ℕ) (x : Moment) → r ≤ m - 6 → 3 ≤ f → Again r p q x
      → Ended (p + formula_packets r m) (q + further_of (formula_packets r m)) (plays z f x)
  ends_last r p q f x w i a =
      let n = last_one r m (omega arith) w in
      ended_as (p + 1) (p + formula_packets r m) q (q + further_of (formula_packets r m)) (plays z f x) (rw n) (rw n (none_further srm))
      (ended_by (p + 1) q _ _ (ap (λ (y : Moment). plays z f y) a.is)
      (last-packet f a.stores a.len a.has a.pending a.got a.room a.left p q a.lent a.short (omega (arith, a.rest))
      (omega (arith, a.rest, a.bytes)) i))
    where
      none_further : (w : Bool) → q ≡ q + pick w 0 (1 - 1)
      none_further true = omega arith
      none_further false = omega arith

  abbrev Ends : ℕ → Type 0
  Ends k = (r p q f : ℕ) (x : Moment) → r ≤ k → 3 * r + 3 ≤ f → Again r p q x
      → Ended (p + formula_packets r m) (q + further_of (formula_packets r m)) (plays z f x)

  pub to_the_end : (k : ℕ) → Ends k
  to_the_end zero r p q f x h i a = ends_last r p q f x (omega arith) (omega arith) a
  to_the_end (suc k) r p q f x h i a = go (ltb (m - 6) r) refl (to_the_end k)
    where
      go : (t : Bool) → ltb (m - 6) r ≡ t → Ends k → Ended (p + formula_packets r m) (q + further_of (formula_packets r m)) (plays z f x)
      go false e ih = ends_last r p q f x (ltb-false _ _ e) (omega arith) a
      go true e ih =
          let w : m - 6 < r = ltb-true _ _ e in
          let n = one_more r m (omega arith) w in
          let o = at_least_one (r - (m - 6)) m (omega arith) in
          let v = again_more r p q f x a w (omega arith) in
          let y = ih (r - (m - 6)) (p + 1) v.1.0 v.0 v.1.1.0 (omega arith) (omega (arith, v.1.1.1.1.1.0)) v.1.1.1.0 in
          ended_by (p + formula_packets r m) (q + further_of (formula_packets r m)) _ _ v.1.1.1.1.0
          (ended_as (p + 1 + formula_packets (r - (m - 6)) m) (p + formula_packets r m) (v.1.0 + further_of (formula_packets (r - (m - 6)) m))
          (q + further_of (formula_packets r m)) (plays z v.0 v.1.1.0) (rw n (omega arith))
          (ap (λ (c : ℕ). c + further_of (formula_packets (r - (m - 6)) m)) v.1.1.1.1.1.1 ∙ further (formula_packets (r - (m - 6)) m) q o
          ∙ ap (λ (c : ℕ). q + further_of c) (sym n)) y)
