-- What the server does in a Put: bytes of the packets under way are offered to it, the host answers, a reply goes onto the stream. Whatever the
-- client does meanwhile is left as it is. Assumes nothing.
use mathlib.Core.Path.{◌≡◌, refl, sym, ap, ap₂, subst, subst₂, ◌∙◌}
use mathlib.Core.List.{List, [], ◌∷◌, ◌++◌, append-nil, append_assoc}
use mathlib.Core.Bool.{Bool, true, false, ◌&&◌, ◌||◌, not, true≢false, false≢true}
use mathlib.Core.Option.{Option, none, some}
use Prim.Native.Nat.{ℕ, zero, suc, ◌+◌, ◌%◌, ◌≤◌, ◌<◌}
use native.Mathlib.Omega.{arith}
use lib.ListN.{length, take, drop}
use lib.Seq.{take-append_seam}
use lib.Dec.{ltb, leb, eqb}
use borrow.Author.Tests.{ltb-true, ltb-false, le-leb, lt-leb, lt-ltb, eqb-true}
use Rattle.std.specs.Prelude.{None}
use Rattle.base.specs.Pick.{pick}
use Rattle.text.specs.Unicode.{Octets}
use Rattle.packet.specs.Canonical.{canonical_as, canonical}
use Rattle.packet.specs.Codes.{member, codes, is_code, is_success, sent_code}
use Rattle.packet.specs.Header.{Header, encoding_of, bytes_of, read_headers, all_bytes}
use Rattle.packet.specs.Packet.{Request as Packet, packet_bytes, request_of}
use Rattle.packet.specs.HeaderWriter.{header}
use Rattle.packet.specs.Modes as modes
use Rattle.packet.specs.declared.opcode.Opcode.TheVariants as op
use Rattle.packet.proofs.HeaderBytes.{header-bytes}
use Rattle.packet.proofs.HeaderWrites.{read_shaped, read-written}
use Rattle.journal.specs.Record.{Record, body_length, size_of, joined, carried_by}
use Rattle.journal.specs.Calls.{bytes_offered_of, reply_given_of, abort_acknowledged_of}
use Rattle.journal.proofs.Laws.{joined-bare, joined_assoc}
use Rattle.incoming.specs.Frame.{Frames, framed}
use Rattle.incoming.specs.Gather.{Gathering, gathering as gatheringOf, Body}
use Rattle.incoming.specs.Survey.{tests, survey_of}
use Rattle.incoming.specs.declared.survey.Survey.{Survey}
use Rattle.incoming.specs.declared.gather.Gathered.{Gathered}
use Rattle.incoming.specs.declared.gather.Keep.TheVariants as keep
use Rattle.incoming.proofs.Gathers.{PutAgrees, put-begins}
use Rattle.incoming.proofs.Queued.{IsWhole, Half, Came, goes as stillGoes, comes, queued, none_come}
use Rattle.connection.specs.Reply.{send_bytes, front}
use Rattle.connection.proofs.Front.{front_length}
use Rattle.server.specs.declared.Operation.{Operation}
use Rattle.server.specs.declared.Operation.TheVariants.{Nothing, Trailing, Putting, Getting, Sending, Gathering as GatheringOp, Connecting, Draining}
use Rattle.server.specs.declared.Await.{Await}
use Rattle.server.specs.declared.Await.TheVariants as waits
use Rattle.server.specs.declared.CallKind.{CallKind}
use Rattle.server.specs.declared.CallKind.TheVariants as kind
use Rattle.server.specs.declared.End.{End}
use Rattle.server.specs.declared.End.TheVariants as end
use Rattle.server.specs.declared.Engine.{Engine}
use Rattle.server.specs.declared.HostRequest.TheVariants as request
use Rattle.server.specs.declared.Outcome.{Outcome}
use Rattle.server.specs.declared.Outcome.TheVariants as told
use Rattle.server.specs.declared.Refusal.TheVariants as refusal
use Rattle.model.specs.Step.{Stores, with_reply, with_gathered, engine_with, Done, wants, asks, ends, replies, replies_code, continues, continue_bytes, sends, sent, limit_of, Stepped, Called, called, after}
use Rattle.model.specs.Operation.{nothing_gathered, overrun, put_packet, gathers}
use Rattle.model.specs.Object.{goes_on_of}
use Rattle.model.specs.Dispatch.{known_in, confirms, inside, busy, read_as, packet_target, arrived, packet_done}
use Rattle.model.specs.Guard.{sound_operation, sound, fits, same_await, refuse, guarded, guarded_tables, guarded_called, bad_headers, bad_reply}
use Rattle.model.specs.Connect.{connect_answer}
use Rattle.model.specs.Request.{last_headers}
use Rattle.packet.specs.HeaderIds as header_id
use Rattle.packet.specs.Header.{first}
use Rattle.connection.specs.Peer.{linked, disconnected_peer}
use Rattle.model.specs.Calls.{sends_linked, with_packet, offers, bytes_offered_step, reply_taken_step, reply_answer, reply_checked, reply_given_step, abort_acknowledged_step}
use Rattle.model.specs.Runs.{State, step_of, keeps, handed, handed_by, records}
use Rattle.model.proofs.Fit.{and_left, and_right, or_left, or_right, Base, not_short, tables-long, room-reply}
use Rattle.model.proofs.ServerPut.{PutDid, full, hands, past, stops, goes_on as putGoes, speaks, silent as putSilent, server-put, gathered_room, Refuses, Begins, turned, gathered as putGathers, put_passes, first-put, next-put, put-read, server_abort}
use Rattle.client_model.proofs.Conveyed.{Holding, carried_all}
use Rattle.client_model.proofs.Requests.{response-read}
use Rattle.journal.specs.Journal.{is_enable}
use Rattle.outgoing.specs.Queue.{insert_early}
use Rattle.client_model.specs.Leading.{leading_headers}
use Rattle.client_model.proofs.Leads.{lead_shaped}
use Rattle.client_model.proofs.Putting.{Job, onto, Answered, Up, ends-carried}
use Rattle.outgoing.proofs.Sender.{ending}
use Rattle.client_model.proofs.Within.{Within, sent-within, carried-within, fewer_within, sent-first}
use Rattle.link.specs.Link.{Link, link_with, host, sendDown, offerUp, told_after, server_did, reply_bytes, sends_down, call_after, performed_by, move}
use Rattle.link.specs.Told.{went, Answer, answer_by, answers, is_accepted, first_or}
use Rattle.link.proofs.Moves.{Heard, heard_after, or_else, or_false, silent}
use Rattle.link.proofs.Joint.{Serves, Down, First, Deal, box_of, most_of, record_for, Reason, by_abort, turned_away_lem, too_long, too_many, Gave, Mode, sends as sending, reads, aborts, aborted, awaits, Post, put, cancel, wire, wires, heads, Cancels, Good, AllGood, IsMore, Streams, Closing, Order, HoldsIn, Under, Same, Server, Gathers, none_yet, gathered, goes_on, refuses, answers as hostAnswers, Means, Ended, headers_too_large, reply_too_large, Left, nothing_left, record-left, Client', Joint, going, at_host, at_abort, replied, coming, ended}

-- ---- the guard

pub serves_sound : (box : ℕ) (s : State) → Serves box s → sound s.engine ≡ true
unfolding sound
serves_sound box s v =
    simp (
      lt-ltb _ _ v.begun,
      le-leb _ _ v.base.last,
      le-leb _ _ v.base.peer.count,
      le-leb _ _ v.base.peer.least,
      le-leb _ _ v.base.peer.few,
      v.counts,
    )

module _ (box : ℕ) (s : State) (v : Serves box s) where
  pub passes : (k : CallKind) (m : Stepped) → fits k s.engine.awaits ≡ true → guarded k s.engine s.stores m ≡ m
  passes k m f = simp (not_short (limit_of s.engine) s.stores v.base.room, serves_sound box s v, f)

  pub passes-tables : (k : CallKind) (m : Stepped) → fits k s.engine.awaits ≡ true → guarded_tables k s.engine s.stores s.tables m ≡ m
  passes-tables k m f =
      simp (tables-long s.tables v.tables, not_short (limit_of s.engine) s.stores v.base.room, serves_sound box s v, f)

  pub passes-called : (k : CallKind) (m : Called) → fits k s.engine.awaits ≡ true → guarded_called k s.engine s.stores s.tables m ≡ m
  passes-called k m f =
      simp (tables-long s.tables v.tables, not_short (limit_of s.engine) s.stores v.base.room, serves_sound box s v, f)

-- ---- replies that can be read

all_below : ℕ → List ℕ → Bool
all_below n [] = true
all_below n (y ∷ ys) = ltb y n && all_below n ys

member_below : (x n : ℕ) (l : List ℕ) → member x l ≡ true → all_below n l ≡ true → x < n
unfolding all_below
member_below x n [] e b = absurd (false≢true e)
member_below x n (y ∷ ys) e b =
    go (eqb x y) refl e (λ w. member_below x n ys w (and_right (ltb y n) (all_below n ys) b))
  where
    go : (t : Bool) → eqb x y ≡ t → (t || member x ys) ≡ true → (member x ys ≡ true → x < n) → x < n
    go true i w rest =
        let q = eqb-true x y i in
        let k = ltb-true y n (and_left (ltb y n) (all_below n ys) b) in
        omega (arith, q, k)
    go false i w rest = rest w

code_below : (code : ℕ) → is_code code ≡ true → code < 128
unfolding is_code codes all_below
code_below code e = member_below code 128 codes e refl

pub code-back : (code : ℕ) → is_code code ≡ true → sent_code code % 128 ≡ code
code-back code e = let k = code_below code e in omega (arith, k)

-- a code and headers
pub reply-down : (code : ℕ) (hs : List ℕ) (l : List Header) → is_code code ≡ true → length hs ≤ 65532 → Octets hs → read_headers hs 0 ≡ some l
    → Down (packet_bytes (sent_code code) [] hs) code
unfolding packet_bytes
reply-down code hs l c n o e =
    let y = packet_bytes (sent_code code) [] hs in
    let b = code-back code c in
    let w : IsWhole y = record { least = omega arith; most = omega arith; field = omega arith } in
    let r = response-read y l (ap is_code b ∙ c) w.least
    (read-written l y 3 (read_shaped hs 0 l e) (sym (header-bytes hs 0 l o e))) in
    record {
      whole = w;
      headers = l;
      final = leb 128 (sent_code code);
      reads = r ∙ ap (λ (n : ℕ). some (record { code = n; final = leb 128 (sent_code code); bytes = y; headers = l })) b;
      first = refl;
    }

pub none_read : read_headers [] 0 ≡ some []
unfolding read_headers Rattle.packet.specs.Header.walk Rattle.packet.specs.Header.header_at_of
none_read = refl

-- a Continue, which grants SRM or not
pub grant-down : (t : Bool) → (w : Down (continue_bytes t) 0x10) × (is_enable (first header_id.single_response_mode w.headers) ≡ t)
unfolding is_code codes leading_headers insert_early all_bytes bytes_of encoding_of reply-down first
grant-down false = (reply-down 0x10 [] [] refl (omega arith) (λ k. omega arith) none_read, refl)
grant-down true =
    let h = header header_id.single_response_mode (modes.enable ∷ []) in (
      reply-down 0x10 (0x97 ∷ 0x01 ∷ []) (h ∷ []) refl (omega arith) few (read-written (h ∷ []) (0x97 ∷ 0x01 ∷ []) 0 (lead_shaped None true) refl),
      refl,
    )
  where
    few : Octets (0x97 ∷ 0x01 ∷ [])
    few zero = omega arith
    few (suc zero) = omega arith
    few (suc (suc k)) = omega arith

-- a code alone
pub code-down : (code : ℕ) → is_code code ≡ true → Down (packet_bytes (sent_code code) [] []) code
code-down code c = reply-down code [] [] c (omega arith) (λ k. omega arith) none_read

-- ---- what the server does, as moves of the link

-- the link after a step of the server, with the queue up
abbrev pub did_link : Link → Done → List ℕ → Link
did_link l d up =
    link_with l.client l.stores l.said (record {
      engine = d.engine;
      stores = d.stores;
      tables = l.server.tables;
    })
    (told_after l.told d.outcome) up l.down

-- what is heard of it
abbrev pub heard_did : Heard → Done → Heard
heard_did h d =
    record {
      records = h.records ++ (handed d.outcome d.stores ++ []);
      answer = or_else h.answer none;
      last = h.last;
      given = h.given ++ [];
      final = h.final || false;
    }

-- the server stands as before, with something open, and waits for something
pub serves_on : (box : ℕ) (e : Engine) (z : Stores) (t : List ℕ) (o : Operation) (a : Await) → Base e z → 320 ≤ length t
    → e.peer.srm_enabled ≡ false → e.peer.remote_max_packet_length ≡ box
    → sound_operation (limit_of e) o ≡ true
    → Serves box (record { engine = engine_with e.settings e.peer o a 0 e.length e.target; stores = z; tables = t })
unfolding engine_with
serves_on box e z t o a b n m c w = record {
  base = record { room = b.room; peer = b.peer; last = b.last };
  begun = omega arith;
  counts = w;
  tables = n;
  srm = m;
  remote = c;
}

pub reply-front : (q y : List ℕ) → take (length q) (front q y) ≡ q
reply-front q y = take-append_seam q (drop (length q) y)

-- the stores with a reply
pub base_reply : (e : Engine) (z : Stores) (q : List ℕ) → Base e z → length q ≤ 65535 → Base e (with_reply z (front q z.reply))
base_reply e z q b n =
    record {
      room = room-reply (limit_of e) z (front q z.reply) (front_length q z.reply (omega (arith, n, b.room.reply))) b.room;
      peer = b.peer;
      last = b.last;
    }

-- ---- packets under way

good-whole : (j : Job) (p : Post) → Good j p → IsWhole (wire p)
good-whole j (put q m x last initial) w = w.whole
good-whole j (cancel q) w = w.whole

-- nothing of the first has come
pub next_under : (j : Job) (ps : List Post) (p : List ℕ) → AllGood j ps → 65535 ≤ length p → Under ps p (wires ps) 0
next_under j [] p w r = (refl, refl)
next_under j (x ∷ xs) p w r = record { rest = wire x; half = none_come (wire x) p (good-whole j x w.0) r; is = refl }

wires-append : (ps qs : List Post) → wires (ps ++ qs) ≡ wires ps ++ wires qs
wires-append [] qs = refl
wires-append (p ∷ ps) qs = ap (λ (l : List ℕ). wire p ++ l) (wires-append ps qs) ∙ sym (append_assoc (wire p) (wires ps) (wires qs))

-- some more
pub under_more : (j : Job) (ps qs : List Post) (p up : List ℕ) (b : ℕ) → Under ps p up b → AllGood j qs → 65535 ≤ length p
    → Under (ps ++ qs) p (up ++ wires qs) b
under_more j [] qs p up b w g r =
    subst₂ (λ (u : List ℕ) (n : ℕ). Under qs p (u ++ wires qs) n) (sym w.0) (sym w.1) (next_under j qs p g r)
under_more j (x ∷ ps) qs p up b w g r =
    record {
      rest = w.rest;
      half = w.half;
      is = ap (λ (l : List ℕ). l ++ wires qs) w.is ∙ append_assoc w.rest (wires ps) (wires qs)
          ∙ ap (λ (l : List ℕ). w.rest ++ l) (sym (wires-append ps qs));
    }

pub good-append : (j : Job) (ps qs : List Post) → AllGood j ps → AllGood j qs → AllGood j (ps ++ qs)
good-append j [] qs a b = b
good-append j (p ∷ ps) qs a b = (a.0, good-append j ps qs a.1 b)

pub heads-append : (ps qs : List Post) → heads (ps ++ qs) ≡ heads ps ++ heads qs
heads-append [] qs = refl
heads-append (put q m x last initial ∷ ps) qs = ap (λ (l : List (List Header)). x ∷ l) (heads-append ps qs)
heads-append (cancel q ∷ ps) qs = heads-append ps qs

-- what the first of them is: others follow under SRM; or the client awaits the response to it
data Front (mode : Mode) (srm : Bool) (p : Post) (ps : List Post) : Type 0 where
  more : IsMore p → srm ≡ true → Order mode srm ps → Front mode srm p ps
  closes : (last initial : Bool) (q m : List ℕ) (x : List Header) → mode ≡ awaits last initial → p ≡ put q m x last initial → ps ≡ []
      → Front mode srm p ps
  cancels : (q : List ℕ) → mode ≡ aborted → p ≡ cancel q → ps ≡ [] → Front mode srm p ps

streams-front : (mode : Mode) (srm : Bool) (p : Post) (ps : List Post) → (Streams srm ps → Order mode srm ps) → Streams srm (p ∷ ps)
    → Front mode srm p ps
streams-front mode true p ps f w = more w.0.0 refl (f (w.0.1, λ e. absurd (true≢false e)))
streams-front mode false p ps f w = let e = w.1 refl in let z : ◌≡◌ {A = ℕ} 0 1 = cc in absurd (omega arith)

closing-front : (mode : Mode) (srm : Bool) (p final : Post) (ps before : List Post) → p ∷ ps ≡ before ++ (final ∷ []) → Streams srm before
    → (Closing srm ps final → Order mode srm ps) → (p ≡ final → ps ≡ [] → Front mode srm p ps) → Front mode srm p ps
closing-front mode srm p final ps [] e w f g = g (let q : p ≡ final = cc in q) (let q : ps ≡ [] = cc in q)
closing-front mode true p final ps (b ∷ bs) e w f g =
    let q : p ≡ b = cc in
    let r : ps ≡ bs ++ (final ∷ []) = cc in
    more (subst IsMore (sym q) w.0.0) refl (f (record { before = bs; is = r; streams = (w.0.1, λ i. absurd (true≢false i)) }))
closing-front mode false p final ps (b ∷ bs) e w f g = let i = w.1 refl in let z : ◌≡◌ {A = ℕ} 0 1 = cc in absurd (omega arith)

front_of : (mode : Mode) (srm : Bool) (p : Post) (ps : List Post) → Order mode srm (p ∷ ps) → Front mode srm p ps
front_of sending srm p ps w = streams-front sending srm p ps (λ x. x) w
front_of reads srm p ps w = streams-front reads srm p ps (λ x. x) w
front_of aborts srm p ps w = streams-front aborts srm p ps (λ x. x) w
front_of (awaits last initial) srm p ps w =
    closing-front (awaits last initial) srm p (put w.wire w.made w.headers last initial) ps w.closing.before w.closing.is
    w.closing.streams
    (λ c. record { wire = w.wire; made = w.made; headers = w.headers; closing = c })
    (λ e i. closes last initial w.wire w.made w.headers refl e i)
front_of aborted srm p ps w =
    closing-front aborted srm p (cancel w.wire) ps w.closing.before w.closing.is w.closing.streams
    (λ c. record { wire = w.wire; closing = c }) (λ e i. cancels w.wire refl e i)

-- ---- why a packet is the last

-- the headers that went are too many, or the client has aborted
full_reason : (g : Deal) (mode : Mode) (srm : Bool) (sent : List (List ℕ)) (ab : Bool) (h : Heard) (l : Link) (xs ys : List (List Header))
    → Client' g mode srm sent ab h l → HoldsIn mode sent (xs ++ ys) → 65535 < length (carried_all xs).headers → Reason g ab h.given
full_reason g mode srm sent ab h l xs ys w hold n = by mode w hold
  where
    whole : Within (carried_all (xs ++ ys)) (record_for g h.given) → Reason g ab h.given
    whole v = let u = fewer_within xs ys in too_many (omega (arith, n, v.headers, u.headers))

    by : (mode : Mode) → Client' g mode srm sent ab h l → HoldsIn mode sent (xs ++ ys) → Reason g ab h.given
    by sending w hold = whole (sent-within g.job sent h.given (xs ++ ys) hold w.waits.rest w.waits.so_far)
    by reads w hold = whole (sent-within g.job sent h.given (xs ++ ys) hold w.asks.rest w.asks.so_far)
    by (awaits last initial) w hold = whole (carried-within g.job sent h.given (xs ++ ys) hold last srm initial l.client w.answered)
    by aborts w hold = by_abort w.gone
    by aborted w hold = by_abort w.gone

-- no more body bytes than were given
record-within : (g : Deal) (d : List ℕ) → size_of (record_for g d) ≤ length d
record-within g d = go g.job.has
  where
    go : (t : Bool) → body_length (pick t (some d) none) ≤ length d
    go true = omega arith
    go false = omega arith

-- the first packet is that of the Put
first_of_all : (j : Job) (last srm initial : Bool) (sent : List (List ℕ)) (d : List ℕ) (c : Rattle.client_model.specs.declared.Client.Client)
    (x : List Header)
    → Answered last j srm initial sent d c → Holding sent (x ∷ []) → First j x
first_of_all j last srm initial [] d c x a h = absurd h
first_of_all j last srm initial (m ∷ (n ∷ ms)) d c x a h = absurd h.2
first_of_all j last srm initial (m ∷ []) d c x a h =
    let w = sent-first j last srm initial (m ∷ []) d c a in
    record { body = onto d (ending j.has); packet = m; rest = w.0; is = w.1; holds = h.0; shaped = h.1 }

-- what is granted is what the client asked for
granted_is : (wants initial enable confirm : Bool) → enable ≡ (initial && wants) → (confirm ≡ true → enable ≡ true)
    → (wants && (initial && confirm)) ≡ confirm
granted_is true true enable confirm e f = refl
granted_is true false enable true e f = absurd (true≢false (sym (f refl) ∙ e))
granted_is true false enable false e f = refl
granted_is false true enable true e f = absurd (true≢false (sym (f refl) ∙ e))
granted_is false true enable false e f = refl
granted_is false false enable true e f = absurd (true≢false (sym (f refl) ∙ e))
granted_is false false enable false e f = refl

-- ---- what a step of the server leads to: `e` is the engine with the packet that came

module _ (g : Deal) (ab : Bool) (h : Heard) (l : Link) (begun : l.client.begun ≡ 0) (dn : l.down ≡ []) (v : Server g l.server) (e : Engine)
    (se : e.settings ≡ l.server.engine.settings) (pe : e.peer ≡ l.server.engine.peer) where
  same_on : Same g (record { engine = e; stores = l.server.stores; tables = l.server.tables })
  same_on = record { settings = se ∙ v.same.settings; peer = pe ∙ v.same.peer; tables = v.same.tables }

  -- the server stands as before, with something open, and waits for something
  server_on : (z : Stores) (o : Operation) (a : Await) → Base e z → sound_operation (limit_of e) o ≡ true
      → Server g (record {
        engine = engine_with e.settings e.peer o a 0 e.length e.target;
        stores = z;
        tables = l.server.tables;
      })
  unfolding engine_with
  server_on z o a b w =
      record {
        serves =
            serves_on (box_of g) e z l.server.tables o a b v.serves.tables
            (ap (λ (p : Rattle.connection.specs.declared.peer.Peer.Peer). p.srm_enabled) pe ∙ v.serves.srm)
            (ap (λ (p : Rattle.connection.specs.declared.peer.Peer.Peer). p.remote_max_packet_length) pe ∙ v.serves.remote) w;
        same = record { settings = same_on.settings; peer = same_on.peer; tables = same_on.tables };
      }

  module _ (mode : Mode) (srm : Bool) (sent : List (List ℕ)) (xs : List (List Header)) (w : Client' g mode srm sent ab h l)
      (hold : HoldsIn mode sent xs) where
    -- a reply
    did-reply : (z : Stores) (o : Operation) (y : List ℕ) (code : ℕ) → Base e z → sound_operation (limit_of e) o ≡ true → (y' : Down y code)
        → Means mode g xs code y'.headers (did_link l (replies e e.peer o waits.Taken y z) []).server ab h
        → Joint g ab h (did_link l (replies e e.peer o waits.Taken y z) [])
    unfolding engine_with
    did-reply z o y code b s y' mean =
        replied mode srm sent xs y code w begun hold y' mean
        (server_on (with_reply z (front y z.reply)) o waits.Taken (base_reply e z y b y'.whole.most) s)
        refl refl refl (reply-front y z.reply) refl dn

    -- the server ends
    did-end : (z : Stores) (x : End) (up : List ℕ) → Ended x → Left g mode xs ab h → h.answer ≡ none
        → Joint g ab (heard_did h (ends e e.peer x z)) (did_link l (ends e e.peer x z) up)
    unfolding engine_with
    did-end z x up is left ha =
        subst (λ (y : Heard). Joint g ab y (did_link l (ends e e.peer x z) up)) (sym (silent h))
        (ended mode srm sent xs x w begun hold
        (record { settings = same_on.settings; peer = same_on.peer; tables = same_on.tables }) refl refl is dn left
        (ap (is_accepted (box_of g)) ha))

  -- a refusal
  did-refuse : (last initial srm : Bool) (sent : List (List ℕ)) (xs : List (List Header)) → Client' g (awaits last initial) srm sent ab h l
      → Holding sent xs
      → (z : Stores) (o : Operation) (code : ℕ) → Base e z → busy o ≡ false → Refuses code → h.records ≡ [] → h.answer ≡ none
      → Reason g ab h.given
      → Joint g ab (heard_did h (replies_code e e.peer o code z)) (did_link l (replies_code e e.peer o code z) [])
  unfolding engine_with
  did-refuse last initial srm sent xs w hold z o code b i r hr ha why =
      subst (λ (x : Heard). Joint g ab x (did_link l (replies_code e e.peer o code z) [])) (sym (silent h))
      (did-reply (awaits last initial) srm sent xs w hold z o (packet_bytes (sent_code code) [] []) code b (idle_sound o i)
      (code-down code r.is_code_lem) (refuses r i hr ha why))
    where
      idle_sound : (o : Operation) → busy o ≡ false → sound_operation (limit_of e) o ≡ true
      idle_sound Nothing i = refl
      idle_sound Trailing i = refl
      idle_sound (Putting g srm) i = absurd (true≢false i)
      idle_sound (Getting g srm confirm wait) i = absurd (true≢false i)
      idle_sound (Sending o c srm wait) i = absurd (true≢false i)
      idle_sound (GatheringOp o g) i = absurd (true≢false i)
      idle_sound (Connecting c f n) i = absurd (true≢false i)
      idle_sound (Draining code) i = absurd (true≢false i)

  -- a Continue, with the grant of SRM or without
  did-continue : (initial srm : Bool) (sent : List (List ℕ)) (xs : List (List Header)) → Client' g (awaits false initial) srm sent ab h l
      → Holding sent xs
      → (s : Stores) (x : Gathering) (confirm : Bool) → (g.job.wants && (initial && confirm)) ≡ confirm → g.passes ≡ true
      → Base e (with_gathered s x) → PutAgrees (limit_of e) x (carried_all xs) → h.records ≡ [] → h.answer ≡ none
      → Joint g ab (heard_did h (continues e (Putting x.got confirm) confirm (with_gathered s x)))
      (did_link l (continues e (Putting x.got confirm) confirm (with_gathered s x)) [])
  unfolding engine_with
  did-continue initial srm sent xs w hold s x confirm gr pass b ag hr ha =
      let y = grant-down confirm in
      subst (λ (y : Heard). Joint g ab y (did_link l (continues e (Putting x.got confirm) confirm (with_gathered s x)) [])) (sym (silent h))
      (did-reply (awaits false initial) srm sent xs w hold (with_gathered s x) (Putting x.got confirm) (continue_bytes confirm) 0x10 b
      (simp (le-leb _ _ ag.kept-room, le-leb _ _ ag.body-within))
      y.0 (goes_on refl refl confirm (ap (λ (t : Bool). g.job.wants && (initial && t)) y.1 ∙ gr) (gathered x.got refl ag pass) hr ha))

  -- the host gets the record
  did_hand : (initial srm : Bool) (sent : List (List ℕ)) (xs : List (List Header)) → Client' g (awaits true initial) srm sent ab h l → Holding sent xs
      → (z : Stores) (k : ℕ) (y : Body) → Base e z → handed_by (request.Put k y) z ≡ carried_all xs ∷ []
      → h.records ≡ [] → h.answer ≡ none → Gave g false h.given
      → Joint g ab (heard_did h (asks e e.peer Nothing waits.Reply (request.Put k y) z))
      (did_link l (asks e e.peer Nothing waits.Reply (request.Put k y) z) [])
  unfolding engine_with
  did_hand initial srm sent xs w hold z k y b i hr ha gave =
      let d = asks e e.peer Nothing waits.Reply (request.Put k y) z in
      let n : Heard = record { records = carried_all xs ∷ []; answer = none; last = h.last; given = h.given; final = h.final } in
      let q : heard_did h d ≡ n =
      (λ t. record {
        records = (ap (λ (r : List Record). r ++ (handed_by (request.Put k y) z ++ [])) hr ∙ ap (λ (r : List Record). r ++ []) i) t;
        answer = ap (λ (a : Option Answer). or_else a none) ha t;
        last = h.last;
        given = append-nil h.given t;
        final = or_false h.final t;
      }) in
      subst (λ (x : Heard). Joint g ab x (did_link l d [])) (sym q)
      (at_host srm initial sent xs (request.Put k y) w begun hold (server_on z Nothing waits.Reply b refl) refl refl refl dn refl refl gave)

  -- the host hears of the Abort
  did_abort : (srm : Bool) (sent : List (List ℕ)) → Client' g aborted srm sent ab h l → (z : Stores) → Base e z → h.records ≡ [] → h.answer ≡ none
      → Joint g ab (heard_did h (asks e e.peer Nothing waits.Acknowledgement (request.Abort e.length) z))
      (did_link l (asks e e.peer Nothing waits.Acknowledgement (request.Abort e.length) z) [])
  unfolding engine_with
  did_abort srm sent w z b hr ha =
      let d = asks e e.peer Nothing waits.Acknowledgement (request.Abort e.length) z in
      subst (λ (x : Heard). Joint g ab x (did_link l d [])) (sym (silent h))
      (at_abort srm sent (request.Abort e.length) w begun (server_on z Nothing waits.Acknowledgement b refl) refl refl refl dn hr ha)

-- ---- a packet is whole

-- what the packets carry with one more
pub carried-more : (xs : List (List Header)) (x : List Header) → joined (carried_all xs) (carried_by x) ≡ carried_all (xs ++ (x ∷ []))
carried-more [] x = sym (joined-bare (carried_by x))
carried-more (y ∷ xs) x = joined_assoc (carried_by y) (carried_all xs) (carried_by x) ∙ ap (joined (carried_by y)) (carried-more xs x)

-- after a Put that was too long nothing is open
overrun_idle : (st : Rattle.server.specs.declared.Settings.Settings) → busy (overrun st) ≡ false
overrun_idle st = go st.refuse_trailing
  where
    go : (t : Bool) → busy (pick t Trailing Nothing) ≡ false
    go true = refl
    go false = refl

too_large : Refuses 0x4D
unfolding is_code codes is_success
too_large = record { is_code_lem = refl; fails = refl; final = refl }

module _ (g : Deal) (ab : Bool) (h : Heard) (l : Link) (begun : l.client.begun ≡ 0) (dn : l.down ≡ []) (v : Server g l.server)
    (hr : h.records ≡ []) (ha : h.answer ≡ none)
    (q m : List ℕ) (x : List Header) (last initial : Bool) (u : Up g.job initial q last m x) where
  -- the packet as it is read
  abbrev packet : Packet
  packet = record { opcode = op.Put; final = last; bytes = q; headers = x }

  -- the engine with it, and the stores
  abbrev took_engine : Engine
  took_engine = arrived l.server.engine (length q) (packet_target (some packet) l.server.engine l.server.tables)

  abbrev took_stores : List ℕ → Stores
  took_stores s = with_packet l.server.stores s

  abbrev survey : Survey
  survey = survey_of (some x)

  took-settings : took_engine.settings ≡ l.server.engine.settings
  unfolding engine_with
  took-settings = refl

  took-peer : took_engine.peer ≡ l.server.engine.peer
  unfolding engine_with
  took-peer = refl

  took_base : (s : List ℕ) → length s ≡ length l.server.stores.packet → Base took_engine (took_stores s)
  unfolding engine_with
  took_base s e =
      let b = v.serves.base in
      record {
        room =
            record {
              packet = rw e b.room.packet;
              headers = b.room.headers;
              reply = b.room.reply;
              body = b.room.body;
            };
        peer = b.peer;
        last = u.whole.most;
      }

  -- what is gathered with it
  module _ (xs : List (List Header)) (s : List ℕ) (le : length s ≡ length l.server.stores.packet) (k : Gathered)
      (ag : PutAgrees (limit_of l.server.engine) (gatheringOf k l.server.stores.headers l.server.stores.body) (carried_all xs))
      (pass : g.passes ≡ true) where
    abbrev now : Gathering
    now = gathers took_engine keep.Put x k (took_stores s)

    now_base : Base took_engine (with_gathered (took_stores s) now)
    unfolding engine_with
    now_base =
        record {
          room = gathered_room took_engine (took_stores s) packet k (carried_all xs) (took_base s le).room ag;
          peer = v.serves.base.peer;
          last = u.whole.most;
        }

    now-did : (srm confirm : Bool) → PutDid took_engine (took_stores s) packet survey srm confirm (carried_all (xs ++ (x ∷ []))) now
        (put_packet took_engine packet survey srm confirm k (took_stores s))
    unfolding engine_with
    now-did srm confirm =
        subst (λ (c : Record). PutDid took_engine (took_stores s) packet survey srm confirm c now
        (put_packet took_engine packet survey srm confirm k (took_stores s))) (carried-more xs x)
        (server-put took_engine (took_stores s) packet survey srm confirm k (carried_all xs) ag)

    -- the Put limit is that of the server
    most_is : limit_of took_engine ≡ most_of g
    unfolding engine_with
    most_is = ap (λ (st : Rattle.server.specs.declared.Settings.Settings). st.max_object_size) v.same.settings

    -- others follow, under SRM
    module _ (mode : Mode) (srm : Bool) (sent : List (List ℕ)) (ps : List Post) (w : Client' g mode srm sent ab h l)
        (hold : HoldsIn mode sent (xs ++ (x ∷ heads ps)))
        (goods : AllGood g.job ps) (order : Order mode srm ps) (lf : last ≡ false) (sr : srm ≡ true) where
      more_hold : HoldsIn mode sent ((xs ++ (x ∷ [])) ++ heads ps)
      more_hold = subst (HoldsIn mode sent) (sym (append_assoc xs (x ∷ []) (heads ps))) hold

      more_joint : (d : Done) → PutDid took_engine (took_stores s) packet survey srm false (carried_all (xs ++ (x ∷ []))) now d
          → Joint g ab (heard_did h d) (did_link l d (wires ps))
      unfolding engine_with survey_of
      more_joint d (full n e) =
          subst (λ (y : Done). Joint g ab (heard_did h y) (did_link l y (wires ps))) (sym e)
          (did-end g ab h l begun dn v took_engine took-settings took-peer mode srm sent ((xs ++ (x ∷ [])) ++ heads ps) w more_hold
          (with_gathered (took_stores s) now)
          end.HeadersTooLarge (wires ps) headers_too_large (nothing_left hr
          (full_reason g mode srm sent ab h l (xs ++ (x ∷ [])) (heads ps) w more_hold n)) ha)
      more_joint d (hands f n c e i) = absurd (true≢false (sym f ∙ lf))
      more_joint d (past f n e) = absurd (true≢false (sym f ∙ lf))
      more_joint d (stops f i n e) = absurd (true≢false (sym sr ∙ i))
      more_joint d (putGoes f i n c e) = absurd (true≢false (sym sr ∙ i))
      more_joint d (speaks f i n c e) =
          absurd (true≢false (sym n ∙ ap (tests Rattle.packet.specs.Modes.additional) u.plain.bare))
      more_joint d (putSilent f i n c e) =
          let y = wants took_engine took_engine.peer (Putting now.got true) (with_gathered (took_stores s) now) in
          subst (λ (y : Done). Joint g ab (heard_did h y) (did_link l y (wires ps))) (sym e)
          (subst (λ (z : Heard). Joint g ab z (did_link l y (wires ps))) (sym (silent h))
          (going mode srm sent (xs ++ (x ∷ [])) ps w begun more_hold goods order
          (server_on g ab h l begun dn v took_engine took-settings took-peer (with_gathered (took_stores s) now) (Putting now.got true) waits.Bytes
          now_base
          (simp (le-leb _ _ c.kept-room, le-leb _ _ c.body-within)))
          refl refl (gathered now.got (ap (Putting now.got) (sym i)) c pass) (next_under g.job ps s goods now_base.room.packet) dn hr
          ha))

    -- the client awaits the response to it
    module _ (srm : Bool) (sent : List (List ℕ)) (w : Client' g (awaits last initial) srm sent ab h l) (hold : Holding sent (xs ++ (x ∷ [])))
        (confirm : Bool) (conf : confirm ≡ true → is_enable (first header_id.single_response_mode x) ≡ true) where
      -- what it carries is within what was given
      close_within : Within (carried_all (xs ++ (x ∷ []))) (record_for g h.given)
      close_within = carried-within g.job sent h.given (xs ++ (x ∷ [])) hold last srm initial l.client w.answered

      past_reason : limit_of took_engine < size_of (carried_all (xs ++ (x ∷ []))) → Reason g ab h.given
      past_reason n = too_long (omega (arith, n, most_is, close_within.body, record-within g h.given))

      as_last : (t : Bool) → last ≡ t → Client' g (awaits t initial) srm sent ab h l
      as_last t e = subst (λ (y : Bool). Client' g (awaits y initial) srm sent ab h l) e w

      gave : last ≡ true → size_of (carried_all (xs ++ (x ∷ []))) ≤ limit_of took_engine
          → PutAgrees (limit_of took_engine) now (carried_all (xs ++ (x ∷ []))) → Gave g false h.given
      gave e n c =
          let i = ends-carried g.job srm initial sent h.given l.client (xs ++ (x ∷ [])) (as_last true e).answered hold in
          let t = ap (λ (r : Record). length r.headers) i in
          let z = ap (λ (r : Record). size_of r) i in
          record { passes = pass; within = omega (arith, n, z, most_is); kept = omega (arith, t, c.kept, c.kept-room); stays = refl }

      close_joint : (d : Done) → PutDid took_engine (took_stores s) packet survey srm confirm (carried_all (xs ++ (x ∷ []))) now d
          → Joint g ab (heard_did h d) (did_link l d [])
      unfolding engine_with
      close_joint d (full n e) =
          subst (λ (y : Done). Joint g ab (heard_did h y) (did_link l y [])) (sym e)
          (did-end g ab h l begun dn v took_engine took-settings took-peer (awaits last initial) srm sent (xs ++ (x ∷ [])) w hold
          (with_gathered (took_stores s) now)
          end.HeadersTooLarge [] headers_too_large (nothing_left hr (too_many (omega (arith, n, close_within.headers)))) ha)
      close_joint d (hands f n c e i) =
          subst (λ (y : Done). Joint g ab (heard_did h y) (did_link l y [])) (sym e)
          (did_hand g ab h l begun dn v took_engine took-settings took-peer initial srm sent (xs ++ (x ∷ [])) (as_last true f) hold
          (with_gathered (took_stores s) now) now.got.kept (Rattle.model.specs.Operation.put_body now.got) now_base i hr ha (gave f n c))
      close_joint d (past f n e) =
          subst (λ (y : Done). Joint g ab (heard_did h y) (did_link l y [])) (sym e)
          (did-refuse g ab h l begun dn v took_engine took-settings took-peer last initial srm sent (xs ++ (x ∷ [])) w hold
          (with_gathered (took_stores s) now) Nothing 0x4D now_base refl too_large hr ha (past_reason n))
      close_joint d (stops f i n e) =
          subst (λ (y : Done). Joint g ab (heard_did h y) (did_link l y [])) (sym e)
          (did-refuse g ab h l begun dn v took_engine took-settings took-peer last initial srm sent (xs ++ (x ∷ [])) w hold
          (with_gathered (took_stores s) now) (overrun took_engine.settings) 0x4D now_base (overrun_idle took_engine.settings) too_large hr ha
          (past_reason n))
      close_joint d (putGoes f i n c e) =
          subst (λ (y : Done). Joint g ab (heard_did h y) (did_link l y [])) (sym e)
          (did-continue g ab h l begun dn v took_engine took-settings took-peer initial srm sent (xs ++ (x ∷ [])) (as_last false f) hold
          (took_stores s) now confirm (granted_is g.job.wants initial (is_enable (first header_id.single_response_mode x)) confirm u.plain.asks
          conf) pass now_base c hr ha)
      close_joint d (speaks f i n c e) = absurd (true≢false (sym i ∙ (as_last false f).answered.single))
      close_joint d (putSilent f i n c e) = absurd (true≢false (sym i ∙ (as_last false f).answered.single))

  -- ---- by what is open

  abbrev known : Bool
  known = known_in took_engine l.server.tables survey

  -- SRM is granted only if the packet asks for it
  confirms-asked : confirms took_engine survey ≡ true → is_enable (first header_id.single_response_mode x) ≡ true
  unfolding engine_with survey_of
  confirms-asked e =
      and_right l.server.engine.settings.srm_supported (is_enable (first header_id.single_response_mode x))
      (and_right (not l.server.engine.peer.srm_enabled)
      (l.server.engine.settings.srm_supported && is_enable (first header_id.single_response_mode x)) e)

  -- the first packet
  begins_joint : (srm : Bool) (sent : List (List ℕ)) (s : List ℕ) → length s ≡ length l.server.stores.packet
      → Client' g (awaits last initial) srm sent ab h l
      → Holding sent (x ∷ []) → srm ≡ false → (o : Operation) → o ≡ g.server.engine.operation → (d : Done)
      → Begins (put_passes o took_engine packet survey known) took_engine (took_stores s) packet survey d → Joint g ab (heard_did h d) (did_link l d [])
  unfolding engine_with
  begins_joint srm sent s le w hold sf o eo d b = by b
    where
      said : put_passes o took_engine packet survey known ≡ g.passes
      said =
          ap (λ (y : Operation). put_passes y took_engine packet survey known) eo
          ∙ g.as_said took_engine l.server.tables packet v.same.settings v.same.peer v.same.tables refl
          (first_of_all g.job last srm initial sent h.given l.client x w.answered hold)

      by : Begins (put_passes o took_engine packet survey known) took_engine (took_stores s) packet survey d → Joint g ab (heard_did h d) (did_link l d [])
      by (turned n code p r i eq) =
          subst (λ (y : Done). Joint g ab (heard_did h y) (did_link l y [])) (sym eq)
          (did-refuse g ab h l begun dn v took_engine took-settings took-peer last initial srm sent (x ∷ []) w hold
          (took_stores s) p code (took_base s le) i r hr ha (turned_away_lem (sym said ∙ n)))
      by (putGathers y eq) =
          close_joint [] s le nothing_gathered
          (put-begins (limit_of l.server.engine) l.server.stores.headers l.server.stores.body v.serves.base.room.headers
          v.serves.base.room.body) (sym said ∙ y)
          srm sent w hold (confirms took_engine survey) confirms-asked d
          (subst (λ (z : Done). PutDid took_engine (took_stores s) packet survey srm (confirms took_engine survey) (carried_all (x ∷ []))
          (gathers took_engine keep.Put x nothing_gathered (took_stores s)) z)
          (sym (eq ∙ ap (λ (t : Bool). put_packet took_engine packet survey t (confirms took_engine survey) nothing_gathered (took_stores s))
          (v.serves.srm ∙ sym sf)))
          (now-did [] s le nothing_gathered
          (put-begins (limit_of l.server.engine) l.server.stores.headers l.server.stores.body v.serves.base.room.headers
          v.serves.base.room.body) (sym said ∙ y)
          srm (confirms took_engine survey)))

  -- a later one
  next-did : (srm : Bool) (xs : List (List Header)) (s : List ℕ) (le : length s ≡ length l.server.stores.packet) (k : Gathered)
      → l.server.engine.operation ≡ Putting k srm
      → (ag : PutAgrees (limit_of l.server.engine) (gatheringOf k l.server.stores.headers l.server.stores.body) (carried_all xs))
      → g.passes ≡ true
      → PutDid took_engine (took_stores s) packet survey srm false (carried_all (xs ++ (x ∷ []))) (gathers took_engine keep.Put x k (took_stores s))
      (inside l.server.engine.operation took_engine packet survey known (took_stores s))
  unfolding engine_with
  next-did srm xs s le k e ag pass =
      subst (λ (z : Done). PutDid took_engine (took_stores s) packet survey srm false (carried_all (xs ++ (x ∷ [])))
      (gathers took_engine keep.Put x k (took_stores s)) z)
      (sym (ap (λ (o : Operation). inside o took_engine packet survey known (took_stores s)) e
      ∙ next-put took_engine (took_stores s) packet survey known k srm refl))
      (now-did xs s le k ag pass srm false)

  inside_joint : (mode : Mode) (srm : Bool) (sent : List (List ℕ)) (xs : List (List Header)) (ps : List Post) (s : List ℕ)
      → length s ≡ length l.server.stores.packet
      → Client' g mode srm sent ab h l → HoldsIn mode sent (xs ++ (x ∷ heads ps)) → AllGood g.job ps → Gathers g srm l.server xs
      → Front mode srm (put q m x last initial) ps
      → let d = inside l.server.engine.operation took_engine packet survey known (took_stores s) in Joint g ab (heard_did h d)
      (did_link l d (wires ps))
  unfolding engine_with
  inside_joint mode srm sent xs ps s le w hold goods (gathered k e ag pass) (more lf sr order) =
      more_joint xs s le k ag pass mode srm sent ps w hold goods order lf sr
      (inside l.server.engine.operation took_engine packet survey known (took_stores s)) (next-did srm xs s le k e ag pass)
  inside_joint mode srm sent xs ps s le w hold goods (none_yet i eo b sf) (more lf sr order) = absurd (true≢false (sym sr ∙ sf))
  inside_joint mode srm sent xs ps s le w hold goods ga (cancels r em ep eps) = let z : ◌≡◌ {A = ℕ} 0 1 = cc in absurd (omega arith)
  inside_joint mode srm sent xs ps s le w hold goods (gathered k e ag pass) (closes last' initial' q' m' x' em ep eps) =
      let d = inside l.server.engine.operation took_engine packet survey known (took_stores s) in
      let a : last' ≡ last = cc in
      let b : initial' ≡ initial = cc in
      let i : mode ≡ awaits last initial = em ∙ ap₂ awaits a b in
      subst (λ (r : List Post). Joint g ab (heard_did h d) (did_link l d (wires r))) (sym eps)
      (close_joint xs s le k ag pass srm sent (subst (λ (y : Mode). Client' g y srm sent ab h l) i w)
      (subst₂ (λ (y : Mode) (r : List Post). HoldsIn y sent (xs ++ (x ∷ heads r))) i eps hold) false (λ f. absurd (false≢true f)) d
      (next-did srm xs s le k e ag pass))
  inside_joint mode srm sent xs ps s le w hold goods (none_yet n eo b sf) (closes last' initial' q' m' x' em ep eps) =
      let d = inside l.server.engine.operation took_engine packet survey known (took_stores s) in
      let a : last' ≡ last = cc in
      let c : initial' ≡ initial = cc in
      let i : mode ≡ awaits last initial = em ∙ ap₂ awaits a c in
      subst (λ (r : List Post). Joint g ab (heard_did h d) (did_link l d (wires r))) (sym eps)
      (begins_joint srm sent s le (subst (λ (y : Mode). Client' g y srm sent ab h l) i w)
      (subst (λ (ys : List (List Header)). Holding sent (ys ++ (x ∷ []))) n
      (subst₂ (λ (y : Mode) (r : List Post). HoldsIn y sent (xs ++ (x ∷ heads r))) i eps hold))
      sf l.server.engine.operation eo d
      (first-put took_engine (took_stores s) packet survey known refl v.serves.srm l.server.engine.operation b))

  -- the packet as the engine reads it
  packet-done : (s : List ℕ) → take (length q) s ≡ q
      → packet_done l.server.engine (length q) (took_stores s) l.server.tables
      ≡ inside l.server.engine.operation took_engine packet survey known (took_stores s)
  unfolding packet_done engine_with
  packet-done s e =
      let E = l.server.engine in
      let t = l.server.tables in
      ap (λ (y : List ℕ). read_as (request_of y) (arrived E (length q) (packet_target (request_of y) E t)) y (took_stores s) t) e
      ∙ ap (λ (o : Option Packet). read_as o (arrived E (length q) (packet_target o E t)) q (took_stores s) t) u.reads
      ∙ put-read took_engine q (took_stores s) t packet refl

-- ---- the Abort

module _ (g : Deal) (ab : Bool) (h : Heard) (l : Link) (begun : l.client.begun ≡ 0) (dn : l.down ≡ []) (v : Server g l.server)
    (hr : h.records ≡ []) (ha : h.answer ≡ none)
    (q : List ℕ) (u : Cancels q) where
  abbrev stop_packet : Packet
  stop_packet = record { opcode = op.Abort; final = true; bytes = q; headers = u.headers }

  abbrev stop_engine : Engine
  stop_engine = arrived l.server.engine (length q) (packet_target (some stop_packet) l.server.engine l.server.tables)

  abort_done : (s : List ℕ) → take (length q) s ≡ q
      → packet_done l.server.engine (length q) (with_packet l.server.stores s) l.server.tables
      ≡ asks stop_engine stop_engine.peer Nothing waits.Acknowledgement (request.Abort stop_engine.length) (with_packet l.server.stores s)
  unfolding packet_done engine_with
  abort_done s e =
      let E = l.server.engine in
      let t = l.server.tables in
      let z = with_packet l.server.stores s in
      ap (λ (y : List ℕ). read_as (request_of y) (arrived E (length q) (packet_target (request_of y) E t)) y z t) e
      ∙ ap (λ (o : Option Packet). read_as o (arrived E (length q) (packet_target o E t)) q z t) u.reads
      ∙ server_abort stop_engine q z t stop_packet refl

  abort_joint : (mode : Mode) (srm : Bool) (sent : List (List ℕ)) (ps : List Post) (s : List ℕ) → length s ≡ length l.server.stores.packet
      → Client' g mode srm sent ab h l → Front mode srm (cancel q) ps
      → let d = asks stop_engine stop_engine.peer Nothing waits.Acknowledgement (request.Abort stop_engine.length)
      (with_packet l.server.stores s) in
      Joint g ab (heard_did h d) (did_link l d (wires ps))
  unfolding engine_with
  abort_joint mode srm sent ps s le w (more n sr order) = absurd n
  abort_joint mode srm sent ps s le w (closes last' initial' q' m' x' em ep eps) = let z : ◌≡◌ {A = ℕ} 0 1 = cc in absurd (omega arith)
  abort_joint mode srm sent ps s le w (cancels r em ep eps) =
      let d = asks stop_engine stop_engine.peer Nothing waits.Acknowledgement (request.Abort stop_engine.length)
      (with_packet l.server.stores s) in
      let b = v.serves.base in
      subst (λ (r : List Post). Joint g ab (heard_did h d) (did_link l d (wires r))) (sym eps)
      (did_abort g ab h l begun dn v stop_engine refl refl srm sent (subst (λ (y : Mode). Client' g y srm sent ab h l) em w)
      (with_packet l.server.stores s)
      (record {
        room =
            record {
              packet = rw le b.room.packet;
              headers = b.room.headers;
              reply = b.room.reply;
              body = b.room.body;
            };
        peer = b.peer;
        last = u.whole.most;
      })
      hr ha)

-- ---- bytes are offered

drop-within : (n : ℕ) (a b : List ℕ) → n ≤ length a → drop n (a ++ b) ≡ drop n a ++ b
drop-within zero a b e = refl
drop-within (suc n) [] b e = absurd (omega (arith, e))
drop-within (suc n) (x ∷ a) b e = drop-within n a b (omega (arith, e))

drop_seam : (a b : List ℕ) → drop (length a) (a ++ b) ≡ b
drop_seam [] b = refl
drop_seam (x ∷ a) b = drop_seam a b

module _ (g : Deal) (ab : Bool) (h : Heard) (l : Link) (mode : Mode) (srm : Bool) (sent : List (List ℕ)) (xs : List (List Header))
    (w : Client' g mode srm sent ab h l)
    (begun : l.client.begun ≡ 0) (v : Server g l.server) (a : l.server.engine.awaits ≡ waits.Bytes) (ga : Gathers g srm l.server xs)
    (dn : l.down ≡ [])
    (hr : h.records ≡ []) (ha : h.answer ≡ none) where
  -- a packet is whole
  whole_joint : (p : Post) (ps : List Post) → Good g.job p → AllGood g.job ps → HoldsIn mode sent (xs ++ heads (p ∷ ps))
      → Order mode srm (p ∷ ps) → (s : List ℕ)
      → length s ≡ length l.server.stores.packet → take (length (wire p)) s ≡ wire p
      → let d = packet_done l.server.engine (length (wire p)) (with_packet l.server.stores s) l.server.tables in Joint g ab (heard_did h d)
      (did_link l d (wires ps))
  whole_joint (put q m x last initial) ps u goods hold order s le e =
      subst (λ (d : Done). Joint g ab (heard_did h d) (did_link l d (wires ps))) (sym (packet-done g ab h l begun dn v hr ha q m x last initial u s e))
      (inside_joint g ab h l begun dn v hr ha q m x last initial u mode srm sent xs ps s le w hold goods ga
      (front_of mode srm (put q m x last initial) ps order))
  whole_joint (cancel q) ps u goods hold order s le e =
      subst (λ (d : Done). Joint g ab (heard_did h d) (did_link l d (wires ps))) (sym (abort_done g ab h l begun dn v hr ha q u s e))
      (abort_joint g ab h l begun dn v hr ha q u mode srm sent ps s le w (front_of mode srm (cancel q) ps order))

  server-step : (i : List ℕ) → step_of l.server (bytes_offered_of i)
      ≡ keeps l.server (offers l.server.engine (framed l.server.stores.packet l.server.engine.begun 0 i) l.server.stores
      l.server.tables)
  unfolding bytes_offered_step
  server-step i =
      ap (keeps l.server) (passes-tables (box_of g) l.server v.serves kind.FromPeer
      (offers l.server.engine (framed l.server.stores.packet l.server.engine.begun 0 i) l.server.stores l.server.tables)
      (ap (λ (w : Await). fits kind.FromPeer w) a))

  -- what is heard of a call of bytes
  abbrev heard_call : Called → Heard
  heard_call m = record {
    records = h.records ++ (handed m.took.outcome m.stores ++ []);
    answer = or_else h.answer none;
    last = h.last;
    given = h.given ++ [];
    final = h.final || false;
  }

  module _ (p : Post) (ps : List Post) (good : Good g.job p) (goods : AllGood g.job ps) (hold : HoldsIn mode sent (xs ++ heads (p ∷ ps)))
      (order : Order mode srm (p ∷ ps))
      (rest : List ℕ) (up : l.up ≡ rest ++ wires ps) where
    came : (n : ℕ) (f : Frames) → Half (wire p) l.server.stores.packet rest l.server.engine.begun
        → Came (wire p) l.server.stores.packet rest l.server.engine.begun 0 n f
        → let m = keeps l.server (offers l.server.engine f l.server.stores l.server.tables) in
        Joint g ab (heard_call m) (server_did l m (drop m.took.taken l.up) l.down)
    unfolding engine_with
    came n f half (stillGoes s lt e r le) =
        let E = l.server.engine in
        let b = v.serves.base in
        let t : 0 + n ≡ n = omega arith in
        let z : drop (0 + n) l.up ≡ drop n rest ++ wires ps = ap (λ (m : ℕ). drop m l.up) t ∙ ap (drop n) up
        ∙ drop-within n rest (wires ps) (omega (arith, lt)) in
        let y : State = record {
          engine = engine_with E.settings E.peer E.operation E.awaits (E.begun + n) E.length E.target;
          stores = with_packet l.server.stores s;
          tables = l.server.tables;
        } in
        subst (λ (x : Frames). let m = keeps l.server (offers E x l.server.stores l.server.tables) in
        Joint g ab (heard_call m) (server_did l m (drop m.took.taken l.up) l.down)) (sym e)
        (subst₂ (λ (x : Heard) (u : List ℕ). Joint g ab x (link_with l.client l.stores l.said y told.WantsBytes u l.down))
        (sym (silent h)) (sym z)
        (going mode srm sent xs (p ∷ ps) w begun hold (good, goods) order
        (record {
          serves =
              record {
                base =
                    record {
                      room =
                          record {
                            packet = rw le b.room.packet;
                            headers = b.room.headers;
                            reply = b.room.reply;
                            body = b.room.body;
                          };
                      peer = b.peer;
                      last = b.last;
                    };
                begun = omega (arith, r.count, r.more, r.whole.most);
                counts = v.serves.counts;
                tables = v.serves.tables;
                srm = v.serves.srm;
                remote = v.serves.remote;
              };
          same = record { settings = v.same.settings; peer = v.same.peer; tables = v.same.tables };
        })
        a refl (gathers_as ga) (record { rest = drop n rest; half = r; is = refl }) dn hr ha))
      where
        gathers_as : Gathers g srm l.server xs
            → Gathers g srm (record {
              engine = engine_with l.server.engine.settings l.server.engine.peer l.server.engine.operation
                  l.server.engine.awaits (l.server.engine.begun + n) l.server.engine.length l.server.engine.target;
              stores = with_packet l.server.stores s;
              tables = l.server.tables;
            }) xs
        gathers_as (none_yet e o i k) = none_yet e o i k
        gathers_as (gathered k e ag pass) = gathered k e ag pass
    came n f half (comes s ge e r le) =
        let E = l.server.engine in
        let t : 0 + length rest ≡ length rest = omega arith in
        let z : drop (0 + length rest) l.up ≡ wires ps = ap (λ (m : ℕ). drop m l.up) t ∙ ap (drop (length rest)) up
        ∙ drop_seam rest (wires ps) in
        subst (λ (x : Frames). let m = keeps l.server (offers E x l.server.stores l.server.tables) in
        Joint g ab (heard_call m) (server_did l m (drop m.took.taken l.up) l.down)) (sym e)
        (subst (λ (u : List ℕ). let d = packet_done E (length (wire p)) (with_packet l.server.stores s) l.server.tables in Joint g ab
        (heard_did h d) (did_link l d u)) (sym z)
        (whole_joint p ps good goods hold order s le r))

    pub offer_up : Half (wire p) l.server.stores.packet rest l.server.engine.begun → (n : ℕ)
        → Joint g ab (heard_after h l (offerUp n)) (move l (offerUp n))
    unfolding move
    offer_up half n =
        let i = take n l.up in
        let e : take n (rest ++ wires ps) ≡ i = ap (take n) (sym up) in
        subst (λ (m : Called). Joint g ab (heard_call m) (server_did l m (drop m.took.taken l.up) l.down)) (sym (server-step i))
        (came n (framed l.server.stores.packet l.server.engine.begun 0 i) half
        (subst (λ (y : List ℕ). Came (wire p) l.server.stores.packet rest l.server.engine.begun 0 n
        (framed l.server.stores.packet l.server.engine.begun 0 y)) e
        (queued rest (wire p) l.server.stores.packet (wires ps) l.server.engine.begun 0 n half)))

-- ---- a reply goes onto the stream

-- nothing follows a reply by itself, unless an object is sent
pub idle_goes : (o : Operation) (e : Engine) (s : Stores) → busy o ≡ false → goes_on_of o e s ≡ wants e e.peer e.operation s
idle_goes Nothing e s i = refl
idle_goes Trailing e s i = refl
idle_goes (Putting g srm) e s i = refl
idle_goes (Getting g srm confirm wait) e s i = refl
idle_goes (Sending o c srm wait) e s i = absurd (true≢false i)
idle_goes (GatheringOp o g) e s i = refl
idle_goes (Connecting c f n) e s i = refl
idle_goes (Draining code) e s i = refl

gathers-goes : (g : Deal) (srm : Bool) (s : State) (xs : List (List Header)) → Gathers g srm s xs
    → goes_on_of s.engine.operation s.engine s.stores ≡ wants s.engine s.engine.peer s.engine.operation s.stores
gathers-goes g srm s xs (none_yet e o i k) = idle_goes s.engine.operation s.engine s.stores i
gathers-goes g srm s xs (gathered k e ag pass) = ap (λ (o : Operation). goes_on_of o s.engine s.stores) e

means-goes : (mode : Mode) (g : Deal) (xs : List (List Header)) (code : ℕ) (hs : List Header) (s : State) (ab : Bool) (h : Heard)
    → Means mode g xs code hs s ab h
    → goes_on_of s.engine.operation s.engine s.stores ≡ wants s.engine s.engine.peer s.engine.operation s.stores
means-goes sending g xs code hs s ab h m = absurd m
means-goes reads g xs code hs s ab h m = absurd m
means-goes aborts g xs code hs s ab h m = absurd m
means-goes aborted g xs code hs s ab h m = idle_goes s.engine.operation s.engine s.stores m.idle
means-goes (awaits last initial) g xs code hs s ab h (goes_on f c granted q ga hr ha) = gathers-goes g granted s xs ga
means-goes (awaits last initial) g xs code hs s ab h (refuses w i hr ha why) = idle_goes s.engine.operation s.engine s.stores i
means-goes (awaits last initial) g xs code hs s ab h (hostAnswers f i hr ok n gave) = idle_goes s.engine.operation s.engine s.stores i

pub first_of : (b : Option ℕ) (c : ℕ) (y : List ℕ) → take 1 y ≡ c ∷ [] → first_or b y ≡ some c
first_of b c [] e = let z : ◌≡◌ {A = ℕ} 0 1 = cc in absurd (omega arith)
first_of b c (a ∷ y) e = let q : a ≡ c = cc in ap (λ (n : ℕ). some n) q

pub client-packet : (s : Rattle.client_model.specs.Step.Stores) → Rattle.client_model.specs.Guard.short s ≡ false → 65535 ≤ length s.packet
unfolding Rattle.client_model.specs.Guard.short
client-packet s e = ltb-false (length s.packet) 65535 (or_left (ltb (length s.packet) 65535) _ e)

module _ (g : Deal) (ab : Bool) (h : Heard) (l : Link) (mode : Mode) (srm : Bool) (sent : List (List ℕ)) (xs : List (List Header)) (y : List ℕ)
    (code : ℕ)
    (w : Client' g mode srm sent ab h l) (begun : l.client.begun ≡ 0) (room : 65535 ≤ length l.stores.packet) (hold : HoldsIn mode sent xs)
    (y' : Down y code)
    (mean : Means mode g xs code y'.headers l.server ab h)
    (v : Server g l.server) (a : l.server.engine.awaits ≡ waits.Taken) (t : l.told ≡ told.Reply (length y))
    (r : take (length y) l.server.stores.reply ≡ y) (up : l.up ≡ []) (dn : l.down ≡ []) where
  taken_step : reply_taken_step l.server.engine l.server.stores
      ≡ after 0 (wants l.server.engine l.server.engine.peer l.server.engine.operation l.server.stores)
  unfolding reply_taken_step
  taken_step =
      let e = l.server.engine in
      let s = l.server.stores in
      passes (box_of g) l.server v.serves kind.ReplyTaken
      (after 0 (pick (same_await e.awaits waits.Taken) (goes_on_of e.operation e s) (ends e e.peer end.OtherOperation s)))
      (ap (λ (w : Await). fits kind.ReplyTaken w) a)
      ∙ ap (λ (w : Await). after 0 (pick (same_await w waits.Taken) (goes_on_of e.operation e s) (ends e e.peer end.OtherOperation s))) a
      ∙ ap (after 0) (means-goes mode g xs code y'.headers l.server ab h mean)

  -- the server afterwards, and what is heard
  abbrev taken_state : State
  taken_state =
      let e = l.server.engine in
      record {
        engine = engine_with e.settings e.peer e.operation waits.Bytes 0 e.length e.target;
        stores = l.server.stores;
        tables = l.server.tables;
      }

  abbrev taken_heard : Heard
  taken_heard = record { records = h.records; answer = h.answer; last = some (sent_code code); given = h.given; final = h.final }

  gathers-taken : (granted : Bool) → Gathers g granted l.server xs → Gathers g granted taken_state xs
  unfolding engine_with
  gathers-taken granted (none_yet e o i k) = none_yet e o i k
  gathers-taken granted (gathered k e ag pass) = gathered k e ag pass

  means-taken : (m : Mode) → Means m g xs code y'.headers l.server ab h → Means m g xs code y'.headers taken_state ab taken_heard
  unfolding engine_with
  means-taken sending mean = mean
  means-taken reads mean = mean
  means-taken aborts mean = mean
  means-taken aborted mean = record { idle = mean.idle; final = mean.final; records = mean.records; answer = mean.answer }
  means-taken (awaits last initial) (goes_on f c granted q ga hr ha) = goes_on f c granted q (gathers-taken granted ga) hr ha
  means-taken (awaits last initial) (refuses w i hr ha why) = refuses w i hr ha why
  means-taken (awaits last initial) (hostAnswers f i hr ok n gave) = hostAnswers f i hr ok n gave

  sent-down : Joint g ab taken_heard (link_with l.client l.stores l.said taken_state told.WantsBytes l.up y)
  unfolding engine_with
  sent-down =
      coming mode srm sent xs y code w hold y' (means-taken mode mean)
      (server_on g ab h l begun dn v l.server.engine refl refl l.server.stores l.server.engine.operation waits.Bytes v.serves.base
      v.serves.counts)
      refl refl refl up
      (subst (λ (n : ℕ). Half y l.stores.packet y n) (sym begun) (none_come y l.stores.packet y'.whole room))
      refl

  pub send_down : Joint g ab (heard_after h l sendDown) (move l sendDown)
  unfolding move engine_with
  send_down =
      let n = length y in
      let q = l.server.stores.reply in
      let or_none_lem : or_else h.answer none ≡ h.answer = keeps-answer h.answer in
      subst (λ (o : Outcome). Joint g ab
      (record {
        records = h.records ++ records (performed_by l.server (sends_down o));
        answer = or_else h.answer (answers (performed_by l.server (sends_down o)));
        last = first_or h.last (reply_bytes o q);
        given = h.given ++ [];
        final = h.final || false;
      })
      (call_after (sends_down o) l (l.down ++ reply_bytes o q))) (sym t)
      (subst (λ (m : Stepped). Joint g ab
      (record {
        records = h.records ++ (handed m.took.outcome m.stores ++ []);
        answer = or_else h.answer none;
        last = first_or h.last (take n q);
        given = h.given ++ [];
        final = h.final || false;
      })
      (server_did l (keeps l.server m) (drop m.took.taken l.up) (l.down ++ take n q))) (sym taken_step)
      (subst₂ (λ (x : List ℕ) (d : List ℕ). Joint g ab
      (record {
        records = h.records ++ [];
        answer = or_else h.answer none;
        last = first_or h.last x;
        given = h.given ++ [];
        final = h.final || false;
      })
      (link_with l.client l.stores l.said taken_state told.WantsBytes l.up (d ++ x))) (sym r) (sym dn)
      (subst (λ (x : Heard). Joint g ab x (link_with l.client l.stores l.said taken_state told.WantsBytes l.up y))
      (λ i. record {
        records = sym (append-nil h.records) i;
        answer = sym or_none_lem i;
        last = sym (first_of h.last (sent_code code) y y'.first) i;
        given = sym (append-nil h.given) i;
        final = sym (or_false h.final) i;
      })
      sent-down)))
    where
      keeps-answer : (a : Option Answer) → or_else a none ≡ a
      keeps-answer none = refl
      keeps-answer (some a) = refl

-- ---- the host answers

pub canonical-reads : (hs : List ℕ) (r : Option (List Header)) → read_headers hs 0 ≡ r → not (canonical_as hs r) ≡ false
    → (x : List Header) × (read_headers hs 0 ≡ some x)
canonical-reads hs none e c = absurd (true≢false c)
canonical-reads hs (some x) e c = (x, e)

-- an answer that a host may give
pub record Fair (code : ℕ) (hs : List ℕ) : Type 0 where
  pub is_code_lem : is_code code ≡ true
  pub headers : List Header
  pub reads : read_headers hs 0 ≡ some headers

pub fair : (code : ℕ) (hs : List ℕ) → bad_reply code hs ≡ false → Fair code hs
unfolding bad_reply bad_headers canonical
fair code hs e =
    let b = or_right (not (is_code code)) (ltb 65535 (length hs) || not (canonical_as hs (read_headers hs 0))) e in
    let r = canonical-reads hs (read_headers hs 0) refl (or_right (ltb 65535 (length hs)) (not (canonical_as hs (read_headers hs 0))) b) in
    record {
      is_code_lem = not-false (is_code code) (or_left (not (is_code code)) (ltb 65535 (length hs) || not (canonical_as hs (read_headers hs 0))) e);
      headers = r.0;
      reads = r.1;
    }
  where
    not-false : (t : Bool) → not t ≡ false → t ≡ true
    not-false true e = refl
    not-false false e = absurd (true≢false e)

pub and_false : (t : Bool) → (t && false) ≡ false
and_false true = refl
and_false false = refl

pub and_true : (t : Bool) → t ≡ (t && true)
and_true true = refl
and_true false = refl

module _ (g : Deal) (ab : Bool) (h : Heard) (l : Link) (srm initial : Bool) (sent' : List (List ℕ)) (xs : List (List Header))
    (cl : Client' g (awaits true initial) srm sent' ab h l) (begun : l.client.begun ≡ 0) (hold : Holding sent' xs) (gave : Gave g false h.given)
    (v : Server g l.server) (a : l.server.engine.awaits ≡ waits.Reply)
    (up : l.up ≡ []) (dn : l.down ≡ []) (hr : h.records ≡ carried_all xs ∷ []) (ha : h.answer ≡ none) (code : ℕ) (hs : List ℕ) (oct : Octets hs)
    (plain : eqb code 0x10 ≡ false) where
  abbrev answer : Answer
  answer = record { code = code; headers = hs }

  -- what is heard of it
  abbrev heard_reply : Heard
  heard_reply = record { records = h.records; answer = some answer; last = h.last; given = h.given; final = h.final }

  abbrev step_heard : Called → Heard
  step_heard m =
      record {
        records = h.records ++ (handed m.took.outcome m.stores ++ []);
        answer = or_else h.answer (answer_by (reply_given_of code hs) (went m.took.outcome) none);
        last = h.last;
        given = h.given ++ [];
        final = h.final || false;
      }

  did-answer : (y : List ℕ) (k : ℕ) → Down y k → is_success k ≡ is_accepted (box_of g) (some answer) → eqb k 0x10 ≡ false
      → Joint g ab heard_reply (did_link l (replies l.server.engine l.server.engine.peer Nothing waits.Taken y l.server.stores) [])
  unfolding engine_with
  did-answer y k y' ok f =
      let e = l.server.engine in
      let s = l.server.stores in
      replied (awaits true initial) srm sent' xs y k cl begun hold y' (hostAnswers refl refl hr ok f gave)
      (server_on g ab h l begun dn v e refl refl (with_reply s (front y s.reply)) Nothing waits.Taken
      (base_reply e s y v.serves.base y'.whole.most) refl)
      refl refl refl (reply-front y s.reply) refl dn

  sends_by : Fair code hs → (t u : Bool) → ltb 65535 (3 + 0 + length hs) ≡ t
      → ltb l.server.engine.peer.remote_max_packet_length (3 + 0 + length hs) ≡ u
      → Joint g ab heard_reply (did_link l (sends l.server.engine l.server.engine.peer code hs l.server.stores) [])
      × (went (sends l.server.engine l.server.engine.peer code hs l.server.stores).outcome ≡ true)
      × (handed (sends l.server.engine l.server.engine.peer code hs l.server.stores).outcome
      (sends l.server.engine l.server.engine.peer code hs l.server.stores).stores ≡ [])
  unfolding sends send_bytes engine_with is_code codes is_success
  sends_by w true u e f =
      let k = ltb-true 65535 (3 + 0 + length hs) e in
      let i : leb (3 + length hs) (box_of g) ≡ false = lt-leb (3 + length hs) (box_of g)
      (omega (arith, k, v.serves.remote, v.serves.base.peer.most)) in
      rw e (
        ended (awaits true initial) srm sent' xs end.ReplyTooLarge cl begun hold
            (record { settings = v.same.settings; peer = v.same.peer; tables = v.same.tables }) refl refl
            reply_too_large dn (record-left refl hr gave)
            (ap (λ (t : Bool). is_success code && t) i ∙ and_false (is_success code)),
        refl,
        refl,
      )
  sends_by w false true e f =
      let k = ltb-true l.server.engine.peer.remote_max_packet_length (3 + 0 + length hs) f in
      let i : leb (3 + length hs) (box_of g) ≡ false = lt-leb (3 + length hs) (box_of g) (omega (arith, k, v.serves.remote)) in
      rw (e, f) (
        did-answer (packet_bytes (sent_code 0x50) [] []) 0x50 (code-down 0x50 refl)
            (sym (ap (λ (t : Bool). is_success code && t) i ∙ and_false (is_success code))) refl,
        refl,
        refl,
      )
  sends_by w false false e f =
      let k = ltb-false 65535 (3 + 0 + length hs) e in
      let m = ltb-false l.server.engine.peer.remote_max_packet_length (3 + 0 + length hs) f in
      let i : leb (3 + length hs) (box_of g) ≡ true = le-leb (3 + length hs) (box_of g) (omega (arith, m, v.serves.remote)) in
      rw (e, f) (
        did-answer (packet_bytes (sent_code code) [] hs) code (reply-down code hs w.headers w.is_code_lem (omega (arith, k)) oct w.reads)
            (and_true (is_success code) ∙ ap (λ (t : Bool). is_success code && t) (sym i)) plain,
        refl,
        refl,
      )

  -- the step, if the answer is one that a host may give
  answer-step : step_of l.server (reply_given_of code hs)
      ≡ pick (bad_reply code hs) (called (refuse refusal.BadAnswer l.server.engine l.server.stores) l.server.tables)
      (called (after 0 (sends l.server.engine l.server.engine.peer code hs l.server.stores)) l.server.tables)
  unfolding reply_given_step reply_answer
  answer-step =
      let e = l.server.engine in
      let s = l.server.stores in
      let t = l.server.tables in
      passes-called (box_of g) l.server v.serves kind.ReplyGiven (reply_checked e code hs s t) (ap (λ (w : Await). fits kind.ReplyGiven w) a)
      ∙ ap (λ (w : Await). let x = pick (same_await w waits.Connect) (connect_answer e code hs s t)
      (pick (same_await w waits.Disconnect) (sends_linked e (disconnected_peer e.peer t (first header_id.connection_id (last_headers e s))) code hs s)
      (sends_linked e (linked e.peer t) code hs s)) in
      pick (bad_reply code hs) (called (refuse refusal.BadAnswer e s) t) (called (after 0 x.done) x.tables)) a

  pub reply-given : Joint g ab h l → Joint g ab (heard_after h l (host (reply_given_of code hs))) (move l (host (reply_given_of code hs)))
  unfolding move
  reply-given now =
      subst (λ (m : Called). Joint g ab (step_heard m) (server_did l m (drop m.took.taken l.up) l.down)) (sym answer-step)
      (by (bad_reply code hs) refl)
    where
      d : Done
      d = sends l.server.engine l.server.engine.peer code hs l.server.stores

      by : (t : Bool) → bad_reply code hs ≡ t
          → let m = pick t (called (refuse refusal.BadAnswer l.server.engine l.server.stores) l.server.tables)
          (called (after 0 d) l.server.tables) in
          Joint g ab (step_heard m) (server_did l m (drop m.took.taken l.up) l.down)
      by true e = subst (λ (x : Heard). Joint g ab x l) (sym (silent h)) now
      by false e =
          let w = sends_by (fair code hs e) (ltb 65535 (3 + 0 + length hs))
          (ltb l.server.engine.peer.remote_max_packet_length (3 + 0 + length hs)) refl refl in
          subst₂ (λ (x : Heard) (q : List ℕ). Joint g ab x (did_link l d q))
          (λ i. record {
            records = (sym (append-nil h.records) ∙ ap (λ (r : List Record). h.records ++ (r ++ [])) (sym w.2)) i;
            answer = (ap (λ (t : Bool). or_else none (answer_by (reply_given_of code hs) t none)) (sym w.1)
                ∙ ap (λ (o : Option Answer). or_else o (answer_by (reply_given_of code hs) (went d.outcome) none)) (sym ha)) i;
            last = h.last;
            given = sym (append-nil h.given) i;
            final = sym (or_false h.final) i;
          })
          (sym up) w.0

-- ---- the host acknowledges the Abort

module _ (g : Deal) (ab : Bool) (h : Heard) (l : Link) (srm : Bool) (sent' : List (List ℕ)) (w : Client' g aborted srm sent' ab h l)
    (begun : l.client.begun ≡ 0)
    (v : Server g l.server) (a : l.server.engine.awaits ≡ waits.Acknowledgement) (up : l.up ≡ []) (dn : l.down ≡ []) (hr : h.records ≡ [])
    (ha : h.answer ≡ none) where
  abbrev acknowledged : Done
  acknowledged = replies_code l.server.engine l.server.engine.peer Nothing 0x20 l.server.stores

  acknowledge_step : step_of l.server abort_acknowledged_of ≡ keeps l.server (after 0 acknowledged)
  unfolding abort_acknowledged_step
  acknowledge_step =
      ap (keeps l.server) (passes (box_of g) l.server v.serves kind.AbortAcknowledged (after 0 acknowledged)
      (ap (λ (x : Await). fits kind.AbortAcknowledged x) a))

  pub acknowledge : Joint g ab (heard_after h l (host abort_acknowledged_of)) (move l (host abort_acknowledged_of))
  unfolding move engine_with is_code codes
  acknowledge =
      let e = l.server.engine in
      let s = l.server.stores in
      let y = packet_bytes (sent_code 0x20) [] [] in
      let y' = code-down 0x20 refl in
      subst (λ (m : Called). Joint g ab
      (record {
        records = h.records ++ (handed m.took.outcome m.stores ++ []);
        answer = or_else h.answer none;
        last = h.last;
        given = h.given ++ [];
        final = h.final || false;
      })
      (server_did l m (drop m.took.taken l.up) l.down)) (sym acknowledge_step)
      (subst₂ (λ (x : Heard) (q : List ℕ). Joint g ab x (did_link l acknowledged q)) (sym (silent h)) (sym up)
      (replied aborted srm sent' [] y 0x20 w begun tt y' (record { idle = refl; final = refl; records = hr; answer = ha })
      (server_on g ab h l begun dn v e refl refl (with_reply s (front y s.reply)) Nothing waits.Taken
      (base_reply e s y v.serves.base y'.whole.most) refl)
      refl refl refl (reply-front y s.reply) refl dn))
