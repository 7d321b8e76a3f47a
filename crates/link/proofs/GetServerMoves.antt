-- The moves of the server's side in a Get, outside the streams of Single Response Mode (SRM): bytes of a packet are offered, the host answers with a reply or an
-- object, gives body bytes or acknowledges an Abort, and a reply goes onto the stream. Assumes nothing.
use mathlib.Core.Path.{◌≡◌, refl, sym, ap, ap₂, subst, subst₂, ◌∙◌}
use mathlib.Core.List.{List, [], ◌∷◌, ◌++◌, append-nil}
use mathlib.Core.Bool.{Bool, true, false, ◌&&◌, ◌||◌, not, true≢false, false≢true}
use mathlib.Core.Option.{Option, none, some}
use mathlib.Core.Logic.{◌⊎◌, inl, inr}
use Prim.Native.Nat.{ℕ, zero, suc, ◌+◌, ◌-◌, ◌≤◌, ◌<◌}
use native.Mathlib.Omega.{arith}
use lib.ListN.{length, take, drop}
use lib.Seq.{drop-length}
use borrow.Author.Tests.{le-leb}
use Rattle.std.specs.Prelude.{None}
use Rattle.base.specs.Pick.{pick}
use Rattle.packet.specs.Codes.{codes, is_code, is_success, sent_code}
use Rattle.packet.specs.FirstByte.{same_opcode}
use Rattle.packet.specs.HeaderIds as header_id
use Rattle.packet.specs.Header.{Header, encoding_of, bytes_of, all_bytes, first}
use Rattle.packet.specs.Modes as modes
use Rattle.packet.proofs.HeaderWrites.{read-written}
use Rattle.text.specs.Unicode.{Octets}
use Rattle.client_model.specs.Leading.{leading_headers}
use Rattle.outgoing.specs.Queue.{must_lead, insert_early}
use Rattle.packet.specs.Packet.{Request as Packet, packet_bytes, request_of}
use Rattle.packet.specs.declared.opcode.Opcode.{Opcode}
use Rattle.packet.specs.declared.opcode.Opcode.TheVariants as op
use Rattle.journal.specs.Journal.{is_enable}
use Rattle.journal.specs.Record.{Record, bare, joined}
use Rattle.journal.specs.Calls.{bytes_offered_of}
use Rattle.journal.proofs.Laws.{joined-bare}
use Rattle.incoming.specs.Frame.{Frames, framed}
use Rattle.incoming.specs.Gather.{Gathering, gathering as gatheringOf}
use Rattle.incoming.specs.Survey.{survey_of, present}
use Rattle.incoming.specs.declared.survey.Survey.{Survey}
use Rattle.incoming.specs.declared.gather.Gathered.{Gathered}
use Rattle.incoming.specs.declared.gather.Keep.TheVariants as keep
use Rattle.incoming.proofs.Gathers.{KeptAgrees, kept-begins, gather_lengths}
use Rattle.incoming.proofs.Queued.{IsWhole, Half, Came, goes as stillGoes, comes, queued, none_come}
use Rattle.outgoing.specs.Object.{Made, next_packet}
use Rattle.outgoing.specs.Packets.{Packets}
use Rattle.outgoing.specs.declared.object.Next.{Next}
use Rattle.outgoing.specs.declared.object.Next.TheVariants as next
use Rattle.journal.specs.Ids.{member}
use Rattle.connection.specs.Peer.{ids_of}
use Rattle.connection.specs.Reply.{front}
use Rattle.connection.specs.declared.peer.Peer.{Peer}
use Rattle.server.specs.declared.Settings.{Settings as ServerSettings}
use Rattle.server.specs.declared.Operation.{Operation}
use Rattle.server.specs.declared.Operation.TheVariants.{Nothing, Trailing, Putting, Getting, Sending, Gathering as GatheringOp, Connecting, Draining}
use Rattle.server.specs.declared.Await.{Await}
use Rattle.server.specs.declared.Await.TheVariants as waits
use Rattle.server.specs.declared.CallKind.TheVariants as kind
use Rattle.server.specs.declared.End.TheVariants as end
use Rattle.server.specs.declared.Engine.{Engine}
use Rattle.server.specs.declared.HostRequest.TheVariants as hostRequest
use Rattle.server.specs.declared.Outcome.{Outcome}
use Rattle.server.specs.declared.Outcome.TheVariants as told
use Rattle.model.specs.Step.{Stores, with_reply, with_gathered, engine_with, Done, wants, asks, ends, replies, replies_code, continues, continue_bytes, limit_of, Stepped, Called, after}
use Rattle.model.specs.Operation.{nothing_gathered, get_packet, gathers}
use Rattle.model.specs.Object.{sends_made, sends_packet, sends_next, goes_on_of}
use Rattle.model.specs.Dispatch.{known_in, rejection, confirms, dispatch, trails, trailed, inside, busy, read_as, packet_target, arrived, packet_done}
use Rattle.model.specs.Guard.{sound_operation, fits, same_await}
use Rattle.model.specs.Calls.{with_packet, offers, bytes_offered_step, reply_taken_step}
use Rattle.model.specs.Runs.{State, step_of, keeps}
use Rattle.model.proofs.Fit.{Room, Base}
use Rattle.model.proofs.ServerPut.{Refuses, server_abort}
use Rattle.model.proofs.ServerGet.{GetDid, full, asks-host, goes_on as getGoes, silent as getSilent, server_get, Asked, asked-none, next_get, get_read, server-object}
use Rattle.client_model.proofs.Conveyed.{Holding}
use Rattle.client_model.proofs.Leads.{lead_shaped}
use Rattle.client_model.proofs.Only.{no_parameter}
use Rattle.client_model.proofs.Putting.{is_none, counts-sound, holding-more}
use Rattle.client_model.proofs.Getting.{wants as asks_srm, Fetch, all_of, wish, Up, Holds, kept_all, kept_more, ends-kept, ends-first, more-first, kept-within, get_begun, has_id, id_sent, first_id, next_up, abort_up}
use Rattle.link.specs.Link.{Link, link_with, sendDown, offerUp, server_did, reply_bytes, sends_down, call_after, performed_by, move}
use Rattle.link.specs.Told.{asked_by, Answer, is_accepted, first_or}
use Rattle.link.proofs.Moves.{or_else, or_false}
use Rattle.link.proofs.ServerMoves.{passes, passes-tables, did_link, serves_on, reply-front, base_reply, idle_goes, first_of, client-packet, and_false}
use Rattle.link.proofs.GetHeard.{GetHeard, get_heard, or_joined, heard_calls, get_heard_after, silent, or_none_lem, or_joined-none}
use Rattle.link.proofs.GetObject.{Down, reply-down, lead_off, code-down, Thing, thing_headers, Sends, Makes', next-made, sent_of, made-down, all-sent, some-sent}
use Rattle.link.proofs.GetJoint.{Origin, box_of, is_admitted, Stays, UnderWay, Gathers, none_yet, gathered, Early, Story, Once, Stage, requesting, receiving, aborting, Answered, Due, is_waiting, is_requesting, is_on, is_first, on_after, Carries, request, asks as nextAsks, stops, Means, goes_on, refuses, answers as hostAnswers, more, whole, fails, stopped, GetJoint, under_way, at_host, reading, acknowledging, replied, coming, ended}

-- ---- what is heard of a call

-- that tells nothing of an answer
abbrev pub heard_did : GetHeard → Done → GetHeard
heard_did h d =
    get_heard (h.asked ++ (asked_by d.outcome d.stores ++ [])) (or_else h.answer none) (or_joined h.object bare none) h.last
    (joined h.parts bare) (h.aborted || false)

-- ---- the server's state

-- what the engine `e` keeps of the session
pub record Acts (o : Origin) (t : List ℕ) (e : Engine) : Type 0 where
  pub settings : e.settings ≡ o.settings
  pub peer : e.peer ≡ o.peer
  pub tables : t ≡ o.tables
  pub long : 320 ≤ length t
  pub srm : e.peer.srm_enabled ≡ false
  pub remote : e.peer.remote_max_packet_length ≡ box_of o

pub acts : (o : Origin) (s : State) → Stays o s → Acts o s.tables s.engine
acts o s v =
    record { settings = v.settings; peer = v.peer; tables = v.tables; long = v.serves.tables; srm = v.serves.srm; remote = v.serves.remote }

pub stays_on : (o : Origin) (t : List ℕ) (e : Engine) (z : Stores) (p : Operation) (a : Await) → Acts o t e → Base e z
    → sound_operation (limit_of e) p ≡ true
    → Stays o (record { engine = engine_with e.settings e.peer p a 0 e.length e.target; stores = z; tables = t })
unfolding engine_with
stays_on o t e z p a k b w =
    record { serves = serves_on (box_of o) e z t p a b k.long k.srm k.remote w; settings = k.settings; peer = k.peer; tables = k.tables }

idle_sound : (n : ℕ) (p : Operation) → busy p ≡ false → sound_operation n p ≡ true
idle_sound n Nothing i = refl
idle_sound n Trailing i = refl
idle_sound n (Putting g srm) i = absurd (true≢false i)
idle_sound n (Getting g srm confirm wait) i = absurd (true≢false i)
idle_sound n (Sending o c srm wait) i = absurd (true≢false i)
idle_sound n (GatheringOp o g) i = absurd (true≢false i)
idle_sound n (Connecting c f m) i = absurd (true≢false i)
idle_sound n (Draining code) i = absurd (true≢false i)

-- the stores with a reply that is long enough
pub base_made : (e : Engine) (z : Stores) (y : List ℕ) → Base e z → 65535 ≤ length y → Base e (with_reply z y)
base_made e z y b n =
    record { room = record { packet = b.room.packet; headers = b.room.headers; reply = n; body = b.room.body }; peer = b.peer; last = b.last }

-- ---- Single Response Mode

-- a Continue, which grants it or not
grant-down : (t : Bool) → (x : List Header) × Down (continue_bytes t) 0x10 x × (is_enable (first header_id.single_response_mode x) ≡ t)
unfolding is_code codes leading_headers insert_early must_lead all_bytes bytes_of encoding_of first
grant-down false = ([], code-down 0x10 refl, refl)
grant-down true =
    let h : Header = record { id = header_id.single_response_mode; value = modes.enable ∷ [] } in (
      h ∷ [],
      reply-down 0x10 (0x97 ∷ 0x01 ∷ []) (h ∷ []) refl (omega arith) few (read-written (h ∷ []) (0x97 ∷ 0x01 ∷ []) 0 (lead_shaped None true) refl),
      refl,
    )
  where
    few : Octets (0x97 ∷ 0x01 ∷ [])
    few zero = omega arith
    few (suc zero) = omega arith
    few (suc (suc k)) = omega arith

and_none : (w i : Bool) → (w && (i && false)) ≡ false
and_none true true = refl
and_none true false = refl
and_none false i = refl

-- the client takes what is granted
granted_as : (w i c : Bool) → (c ≡ true → (w && i) ≡ true) → (w && (i && c)) ≡ c
granted_as true true c f = refl
granted_as true false true f = f refl
granted_as true false false f = refl
granted_as false i true f = f refl
granted_as false i false f = refl

-- no part of an object grants it, if nothing leads
pub off_after : (j : Fetch) (st : Stage) (x : List Header) (lead begins : Bool) → is_on st ≡ false → lead ≡ false
    → is_enable (first header_id.single_response_mode x) ≡ (begins && lead) → on_after j st x ≡ false
off_after j st x lead begins a b e =
    let q : is_enable (first header_id.single_response_mode x) ≡ false = e ∙ ap (λ (t : Bool). begins && t) b ∙ and_false begins in
    ap (λ (t : Bool). t || (asks_srm j && (is_first st && is_enable (first header_id.single_response_mode x)))) a
    ∙ ap (λ (t : Bool). asks_srm j && (is_first st && t)) q ∙ and_none (asks_srm j) (is_first st)

-- without its parameters nothing waits
pub wait-none : (x : List Header) → first header_id.single_response_mode_parameters x ≡ none → (survey_of (some x)).wait ≡ false
unfolding survey_of
wait-none x e = ap (λ (v : Option (List ℕ)). Rattle.incoming.specs.Survey.tests Rattle.packet.specs.Modes.wait v) e

-- ---- what the server does, as moves of the link

-- all that stays while the server takes a packet or an answer: `e` is the engine with it
module _ (j : Fetch) (o : Origin) (h : GetHeard) (l : Link) (st : Stage) (flag : Bool) (sent : List (List ℕ))
    (due : Due st flag j sent h l.client l.stores l.said) (begun : l.client.begun ≡ 0) (dn : l.down ≡ []) (e : Engine)
    (k : Acts o l.server.tables e) where
  -- a reply
  pub did-reply : (z : Stores) (p : Operation) (y : List ℕ) (code : ℕ) (x : List Header) → Base e z → sound_operation (limit_of e) p ≡ true
      → Down y code x
      → Means j o st sent code x (did_link l (replies e e.peer p waits.Taken y z) []).server h
      → GetJoint j o h (did_link l (replies e e.peer p waits.Taken y z) [])
  unfolding engine_with
  did-reply z p y code x b w y' mean =
      replied st flag sent y code x (length y) due begun y' mean
      (stays_on o l.server.tables e (with_reply z (front y z.reply)) p waits.Taken k (base_reply e z y b y'.whole.most)
      w)
      refl refl (reply-front y z.reply) refl dn

  -- a refusal
  did-refuse : (z : Stores) (p : Operation) (code : ℕ) → Base e z → busy p ≡ false → Refuses code → is_requesting st ≡ true
      → is_admitted o j.id ≡ false → Early h
      → GetJoint j o (heard_did h (replies_code e e.peer p code z)) (did_link l (replies_code e e.peer p code z) [])
  unfolding engine_with
  did-refuse z p code b i w q na ea =
      subst (λ (x : GetHeard). GetJoint j o x (did_link l (replies_code e e.peer p code z) [])) (sym (silent h))
      (did-reply z p (packet_bytes (sent_code code) [] []) code [] b (idle_sound (limit_of e) p i) (code-down code w.is_code_lem) (refuses q na w i ea))

  -- a Continue
  did-continue : (initial confirm : Bool) (xs : List (List Header)) → Holding sent xs → (s : Stores) (g : Gathering) → Base e (with_gathered s g)
      → st ≡ requesting false initial false → (confirm ≡ true → (asks_srm j && initial) ≡ true)
      → KeptAgrees (limit_of e) g (kept_all xs) → Asked g (kept_all xs) → Early h
      → GetJoint j o (heard_did h (continues e (Getting g.got confirm false false) confirm (with_gathered s g)))
      (did_link l (continues e (Getting g.got confirm false false) confirm (with_gathered s g)) [])
  unfolding engine_with
  did-continue initial confirm xs hold s g b q may w a ea =
      let y = grant-down confirm in
      let k : on_after j st y.0 ≡ confirm =
      ap (λ (z : Stage). on_after j z y.0) q ∙ ap (λ (t : Bool). asks_srm j && (initial && t)) y.2
      ∙ granted_as (asks_srm j) initial confirm may in
      subst (λ (x : GetHeard). GetJoint j o x (did_link l (continues e (Getting g.got confirm false false) confirm (with_gathered s g)) []))
      (sym (silent h))
      (did-reply (with_gathered s g) (Getting g.got confirm false false) (continue_bytes confirm) 0x10 y.0 b
      (simp (le-leb _ _ w.kept-room, le-leb _ _ w.body-within))
      y.1 (goes_on initial confirm xs q refl k hold (gathered g.got refl w a) ea))

  -- the host is asked
  pub did_ask : (on initial confirm : Bool) (xs : List (List Header)) (s : Stores) (g : Gathering) → Base e (with_gathered s g)
      → st ≡ requesting on initial true → (confirm ≡ true → (asks_srm j && initial) ≡ true)
      → KeptAgrees (limit_of e) g (kept_all xs) → Asked g (kept_all xs)
      → kept_all xs ≡ wish j → Early h
      → let d = asks e e.peer (Getting g.got on confirm false) waits.Get (hostRequest.Get g.got.kept) (with_gathered s g) in GetJoint j o
      (heard_did h d) (did_link l d [])
  unfolding engine_with
  did_ask on initial confirm xs s g b q may w a i ea =
      let d = asks e e.peer (Getting g.got on confirm false) waits.Get (hostRequest.Get g.got.kept) (with_gathered s g) in
      let h' = get_heard (wish j ∷ []) none none h.last bare h.aborted in
      let eq : heard_did h d ≡ h' =
      (λ n. get_heard
      ((ap (λ (z : List (List ℕ)). z ++ (take g.got.kept g.headers ∷ [])) ea.asked ∙ ap (λ (z : List ℕ). z ∷ []) (sym a.headers ∙ i)) n)
      (ap (λ (z : Option Answer). or_else z none) ea.answer n)
      (ap (λ (z : Option Record). or_joined z bare none) ea.object n)
      h.last
      ((joined-bare h.parts ∙ ea.parts) n)
      (or_false h.aborted n)) in
      subst (λ (x : GetHeard). GetJoint j o x (did_link l d [])) (sym eq)
      (at_host flag on initial confirm sent g.got (hostRequest.Get g.got.kept) (due_ask q h' refl) may begun
      (stays_on o l.server.tables e (with_gathered s g) (Getting g.got on confirm false) waits.Get k b
      (simp (le-leb _ _ w.kept-room, le-leb _ _ w.body-within)))
      refl refl refl refl dn (record { asked = refl; answer = refl; object = refl; parts = refl }))
    where
      due_ask : st ≡ requesting on initial true → (h' : GetHeard) → h'.aborted ≡ h.aborted
          → Due (requesting on initial true) flag j sent h' l.client l.stores l.said
      due_ask q h' i =
          let v = subst (λ (z : Stage). Due z flag j sent h l.client l.stores l.said) q due in
          record { stands = v.stands; answered = v.answered; awaits = v.awaits; said = v.said; aborted = i ∙ v.aborted; only = tt }

  -- the server ends
  pub did-end : (z : Stores) → 65535 < length (wish j) → Early h
      → GetJoint j o (heard_did h (ends e e.peer end.HeadersTooLarge z)) (did_link l (ends e e.peer end.HeadersTooLarge z) [])
  unfolding engine_with
  did-end z lg ea =
      subst (λ (x : GetHeard). GetJoint j o x (did_link l (ends e e.peer end.HeadersTooLarge z) [])) (sym (silent h))
      (ended st flag sent end.HeadersTooLarge due begun refl refl (inl refl) dn (inr (ea.asked, lg)) ea.object
      (ap (is_accepted (box_of o)) ea.answer))

  -- a packet of the object, or what it needs first
  module _ (t : Thing (box_of o)) (out : List (List ℕ)) (d : List ℕ) (zs : List (List Header)) (m : Made) (f : Option (List ℕ)
      → Packets) (w : Makes' (box_of o) t out d m f)
      (held : Holding out zs) (story : Story j (box_of o) t d zs h) (wt : is_waiting st ≡ true) (z : Stores) (b : Base e z)
      (hd : z.headers ≡ thing_headers (box_of o) t) (off : t.on ≡ false) (low : is_on st ≡ false) where
    sending-sound : sound_operation (limit_of e) (Sending m.packet.outgoing m.packet.chunk false false) ≡ true
    sending-sound = counts-sound m.packet.outgoing m.packet.chunk w.counts

    made_by : (n : Next) → m.packet.next ≡ n → GetJoint j o h (did_link l (sends_made e false false n m z) [])
    unfolding engine_with is_code codes
    made_by (next.Send n true) q =
        let v = made-down (box_of o) t out d zs held m f w n true q in
        let y = sent_of (box_of o) t out d zs held m f w n in
        replied st flag sent y 0x20 v.0 n due begun v.1
        (whole t (out ++ (y ∷ [])) d zs wt refl refl (all-sent (box_of o) t out d zs held m f w n q) v.2 story)
        (stays_on o l.server.tables e (with_reply z m.reply) Nothing waits.Taken k
        (base_made e z m.reply b w.making.long) refl)
        refl refl refl refl dn
    made_by (next.Send n false) q =
        let v = made-down (box_of o) t out d zs held m f w n false q in
        let y = sent_of (box_of o) t out d zs held m f w n in
        let p = Sending m.packet.outgoing m.packet.chunk false false in
        let s : State = record {
          engine = engine_with e.settings e.peer p waits.Taken 0 e.length e.target;
          stores = with_reply z m.reply;
          tables = l.server.tables;
        } in
        replied st flag sent y 0x10 v.0 n due begun v.1
        (more t (out ++ (y ∷ [])) d zs wt off
        (off_after j st v.0 t.lead (Rattle.client_model.proofs.Putting.is_none out) low (lead_off (box_of o) t off) v.3.asks) refl
        (some-sent (box_of o) t out d zs held m f w n q s
        (ap (λ (b : Bool). Sending m.packet.outgoing m.packet.chunk b false) (sym off)) hd) v.2 story)
        (stays_on o l.server.tables e (with_reply z m.reply) p waits.Taken k (base_made e z m.reply b w.making.long)
        sending-sound)
        refl refl refl refl dn
    made_by next.Read q =
        let p = Sending m.packet.outgoing m.packet.chunk false false in
        reading st flag sent t out d zs (hostRequest.Read m.packet.chunk.room) due wt off low begun
        (stays_on o l.server.tables e (with_reply z m.reply) p waits.Body k (base_made e z m.reply b w.making.long)
        sending-sound)
        refl
        (record {
          made = m;
          rest = f;
          making = w.making;
          so_far = w.so_far;
          is_next = q;
          counts = w.counts;
          operation = ap (λ (b : Bool). Sending m.packet.outgoing m.packet.chunk b false) (sym off);
          headers = hd;
          reply = refl;
        })
        refl refl dn held story
    made_by next.TooLarge q =
        did-reply (with_reply z m.reply) Nothing (packet_bytes (sent_code 0x50) [] []) 0x50 [] (base_made e z m.reply b w.making.long) refl
        (code-down 0x50 refl)
        (fails t d zs wt refl refl story)

    pub did_made : GetJoint j o h (did_link l (sends_packet e false false m z) [])
    did_made = made_by m.packet.next refl

-- ---- the first packet of a request

-- why it is turned away: a password is due, or its id is not open
abbrev Turned : Engine → Survey → Bool → Type 0
Turned e v known =
    ((e.settings.authentication && (not e.peer.authenticated && not (same_opcode op.Get op.Disconnect))) ≡ true) ⊎
    ((v.has_id && not known) ≡ true)

-- it is turned away, and nothing is gathered, or it is gathered as the first
data Begins (e : Engine) (s : Stores) (r : Packet) (v : Survey) (known : Bool) (d : Done) : Type 0 where
  turned : (code : ℕ) → Refuses code → Turned e v known → d ≡ replies_code e e.peer Nothing code s → Begins e s r v known d
  begins : d ≡ get_packet e r v e.peer.srm_enabled (confirms e v) nothing_gathered s → Begins e s r v known d

module _ (e : Engine) (s : Stores) (r : Packet) (v : Survey) (known : Bool) (p : r.opcode ≡ op.Get) (q : e.peer.srm_enabled ≡ false) where
  admitted-begins : (t u : Bool) → e.settings.authentication && (not e.peer.authenticated && not (same_opcode op.Get op.Disconnect)) ≡ t
      → (v.has_id && not known) ≡ u → Begins e s r v known (dispatch e r v known s)
  unfolding dispatch rejection same_opcode is_code codes is_success
  admitted-begins true u a b = turned 0x41 (record { is_code_lem = refl; fails = refl; final = refl }) (inl a) (rw (p, a, q))
  admitted-begins false true a b = turned 0x53 (record { is_code_lem = refl; fails = refl; final = refl }) (inr b) (rw (p, a, b, q))
  admitted-begins false false a b = begins (rw (p, a, b))

  -- a Get does not trail a Put
  none-trails : trails r ≡ false
  unfolding trails same_opcode
  none-trails = ap (λ (x : Opcode). same_opcode x op.Put && not (present (first header_id.name r.headers))) p

  -- nothing is open, or what trails a Put is refused
  first_get_lem : (x : Operation) → busy x ≡ false → Begins e s r v known (inside x e r v known s)
  first_get_lem Nothing b = admitted-begins _ _ refl refl
  first_get_lem Trailing b =
      subst (λ (t : Bool). Begins e s r v known (pick t (trailed e r s) (dispatch e r v known s))) (sym none-trails) (admitted-begins _ _ refl refl)
  first_get_lem (Putting g srm) b = absurd (true≢false b)
  first_get_lem (Getting g srm confirm wait) b = absurd (true≢false b)
  first_get_lem (Sending o c srm wait) b = absurd (true≢false b)
  first_get_lem (GatheringOp o g) b = absurd (true≢false b)
  first_get_lem (Connecting c f n) b = absurd (true≢false b)
  first_get_lem (Draining code) b = absurd (true≢false b)

-- what is granted was asked for
confirms-asked : (e : Engine) (x : List Header) (start w : Bool) → is_enable (first header_id.single_response_mode x) ≡ (start && w)
    → confirms e (survey_of (some x)) ≡ true → (w && start) ≡ true
unfolding survey_of
confirms-asked e x start w q = go e.peer.srm_enabled e.settings.srm_supported (is_enable (first header_id.single_response_mode x)) start w q
  where
    go : (t u b start w : Bool) → b ≡ (start && w) → (not t && (u && b)) ≡ true → (w && start) ≡ true
    go t u b true true q i = refl
    go true u b true false q i = absurd (false≢true i)
    go false true b true false q i = absurd (false≢true (sym q ∙ i))
    go false false b true false q i = absurd (false≢true i)
    go true u b false w q i = absurd (false≢true i)
    go false true b false w q i = absurd (false≢true (sym q ∙ i))
    go false false b false w q i = absurd (false≢true i)

-- no packets hold no lists of headers
pub none-held : (ps : List (List ℕ)) (ys : List (List Header)) → ys ≡ [] → Holding ps ys → ps ≡ []
none-held [] ys e h = refl
none-held (p ∷ ps) [] e h = absurd h
none-held (p ∷ ps) (y ∷ ys) e h = let z : ◌≡◌ {A = ℕ} 0 1 = cc in absurd (omega arith)

-- ---- a packet is whole

-- the stores keep what is gathered
pub gathered_room : (e : Engine) (s : Stores) (hs : List Header) (g : Gathered) (c : List ℕ) → Room (limit_of e) s
    → KeptAgrees (limit_of e) (gatheringOf g s.headers s.body) c → Room (limit_of e) (with_gathered s (gathers e keep.Get hs g s))
gathered_room e s hs g c h w =
    let l = gather_lengths keep.Get (limit_of e) hs (gatheringOf g s.headers s.body) w.kept-room w.body-within w.room w.body-room in
    record { packet = h.packet; headers = rw l.0 h.headers; reply = h.reply; body = rw l.1 h.body }

module _ (j : Fetch) (o : Origin) (h : GetHeard) (l : Link) (st : Stage) (flag : Bool) (sent : List (List ℕ)) (q : List ℕ)
    (due : Due st flag j sent h l.client l.stores l.said) (begun : l.client.begun ≡ 0) (v : UnderWay o q l.server l.told l.up)
    (c : Carries j o st sent q l.server h) (dn : l.down ≡ []) where
  abbrev E : Engine
  E = l.server.engine

  -- the engine with a packet of some opcode and headers, and the stores
  abbrev packet : Opcode → Bool → List Header → Packet
  packet p last x = record { opcode = p; final = last; bytes = q; headers = x }

  abbrev took_engine : Opcode → Bool → List Header → Engine
  took_engine p last x = arrived E (length q) (packet_target (some (packet p last x)) E l.server.tables)

  abbrev took_stores : List ℕ → Stores
  took_stores s = with_packet l.server.stores s

  took_base : (p : Opcode) (last : Bool) (x : List Header) (s : List ℕ) → IsWhole q → length s ≡ length l.server.stores.packet
      → Base (took_engine p last x) (took_stores s)
  unfolding engine_with
  took_base p last x s w i =
      let b = v.stays.serves.base in
      record {
        room = record { packet = rw i b.room.packet; headers = b.room.headers; reply = b.room.reply; body = b.room.body };
        peer = b.peer;
        last = w.most;
      }

  took-acts : (p : Opcode) (last : Bool) (x : List Header) → Acts o l.server.tables (took_engine p last x)
  unfolding engine_with
  took-acts p last x =
      let a = acts o l.server v.stays in
      record { settings = a.settings; peer = a.peer; tables = a.tables; long = a.long; srm = a.srm; remote = a.remote }

  abbrev Did : Done → Type 0
  Did d = GetJoint j o (heard_did h d) (did_link l d [])

  -- ---- a packet of the request

  module _ (prior : List (List ℕ)) (ys : List (List Header)) (p : List ℕ) (x : List Header) (initial last : Bool)
      (se : st ≡ requesting false initial last) (be : initial ≡ is_none prior) (te : sent ≡ prior ++ (p ∷ []))
      (hold : Holding prior ys) (u : Up q op.Get last x) (hs : Holds (is_none prior && asks_srm j) p x) (ea : Early h) (s : List ℕ)
      (le : length s ≡ length l.server.stores.packet) where
    abbrev G : Engine
    G = took_engine op.Get last x

    abbrev xs : List (List Header)
    xs = ys ++ (x ∷ [])

    held : Holding sent xs
    held = subst (λ (a : List (List ℕ)). Holding a xs) (sym te) (holding-more prior ys p x hold hs.bytes hs.shaped)

    -- the packets that went are the first of all
    sent-first : (rest : List (List ℕ)) × ((all_of j).sent ≡ sent ++ rest)
    sent-first = by last (subst (λ (t : Stage). Answered t j sent l.client l.stores) se due.answered)
      where
        by : (t : Bool) → Answered (requesting false initial t) j sent l.client l.stores → (rest : List (List ℕ)) × ((all_of j).sent ≡ sent ++ rest)
        by true a = ends-first j false initial sent l.client a
        by false a = more-first j sent l.stores a.rest

    -- the first is refused only if it is not admitted
    not-admitted : prior ≡ [] → Turned G (survey_of (some x)) (known_in G l.server.tables (survey_of (some x))) → is_admitted o j.id ≡ false
    unfolding engine_with same_opcode
    not-admitted e (inl a) =
        let k = v.stays in
        ap (λ (t : Bool). not t && not (has_id j.id && not (member (id_sent j.id) (ids_of o.peer o.tables))))
        (ap₂ (λ (y : ServerSettings) (z : Peer). y.authentication && not z.authenticated) (sym k.settings) (sym k.peer) ∙ and_one
        E.settings.authentication (not E.peer.authenticated) a)
      where
        and_one : (t u : Bool) → (t && (u && true)) ≡ true → (t && u) ≡ true
        and_one true true q = refl
        and_one true false q = q
        and_one false u q = q
    not-admitted e (inr a) =
        let k = v.stays in
        let f = first_id j.id (asks_srm j) p x (get_begun j p sent-first.0
        (sent-first.1 ∙ ap (λ (y : List (List ℕ)). y ++ sent-first.0) (te ∙ ap (λ (y : List (List ℕ)). y ++ (p ∷ [])) e))) hs.bytes hs.shaped
        in
        let t : (has_id j.id && not (has_id j.id && member (id_sent j.id) (ids_of o.peer o.tables))) ≡ true =
        ap₂ (λ (y : Bool) (n : ℕ). y && not (y && member n (ids_of o.peer o.tables))) (sym f.0) (sym f.1)
        ∙ ap₂ (λ (y : Peer) (z : List ℕ). (survey_of (some x)).has_id && not
        ((survey_of (some x)).has_id && member (survey_of (some x)).id (ids_of y z))) (sym k.peer) (sym k.tables) ∙ a in
        ap (λ (y : Bool). not (o.settings.authentication && not o.peer.authenticated) && not y)
        (and_both (has_id j.id) (member (id_sent j.id) (ids_of o.peer o.tables)) t)
        ∙ and_false (not (o.settings.authentication && not o.peer.authenticated))
      where
        and_both : (t u : Bool) → (t && not (t && u)) ≡ true → (t && not u) ≡ true
        and_both true u q = q
        and_both false u q = q

    waits-not : (survey_of (some x)).wait ≡ false
    waits-not = wait-none x hs.plain.bare

    get_joint : (confirm : Bool) → (confirm ≡ true → (asks_srm j && initial) ≡ true) → (g : Gathered)
        → KeptAgrees (limit_of E) (gatheringOf g l.server.stores.headers l.server.stores.body) (kept_all ys)
        → Asked (gatheringOf g l.server.stores.headers l.server.stores.body) (kept_all ys)
        → (d : Done) → d ≡ get_packet G (packet op.Get last x) (survey_of (some x)) false confirm g (took_stores s) → Did d
    unfolding engine_with
    get_joint confirm may g w a d eq =
        subst Did (sym eq)
        (by (get_packet G (packet op.Get last x) (survey_of (some x)) false confirm g (took_stores s))
        (subst (λ (k : List ℕ). GetDid G (took_stores s) (packet op.Get last x) (survey_of (some x)) false confirm k z
        (get_packet G (packet op.Get last x) (survey_of (some x)) false confirm g (took_stores s)))
        (kept_more ys x)
        (server_get G (took_stores s) (packet op.Get last x) (survey_of (some x)) false confirm g (kept_all ys) w a)))
      where
        z : Gathering
        z = gathers G keep.Get x g (took_stores s)

        b : Base G (with_gathered (took_stores s) z)
        b =
            record {
              room = gathered_room G (took_stores s) x g (kept_all ys) (took_base op.Get last x s u.whole le).room w;
              peer = v.stays.serves.base.peer;
              last = u.whole.most;
            }

        -- once it is final, all was carried
        asked-all : last ≡ true → kept_all xs ≡ wish j
        asked-all f =
            let n = subst (λ (t : Stage). Answered t j sent l.client l.stores) (se ∙ ap (requesting false initial) f) due.answered in
            ends-kept j false initial sent l.client xs n held

        by : (d : Done) → GetDid G (took_stores s) (packet op.Get last x) (survey_of (some x)) false confirm (kept_all xs) z d → Did d
        by d (full n i) =
            subst Did (sym i)
            (did-end j o h l st flag sent due begun dn G (took-acts op.Get last x) (with_gathered (took_stores s) z)
            (omega (arith, n, kept-within j sent sent-first.0 xs sent-first.1 held)) ea)
        by d (asks-host f w a i) =
            subst Did (sym (i ∙ ap (λ (t : Bool). asks G G.peer (Getting z.got false confirm t) waits.Get (hostRequest.Get z.got.kept)
            (with_gathered (took_stores s) z)) waits-not))
            (did_ask j o h l st flag sent due begun dn G (took-acts op.Get last x) false initial confirm xs (took_stores s) z b
            (se ∙ ap (requesting false initial) f) may w a (asked-all f) ea)
        by d (getGoes f i w a n) =
            subst Did (sym (n ∙ ap (λ (t : Bool). continues G (Getting z.got confirm false t) confirm (with_gathered (took_stores s) z)) waits-not))
            (did-continue j o h l st flag sent due begun dn G (took-acts op.Get last x) initial confirm xs held (took_stores s) z b
            (se ∙ ap (requesting false initial) f) may w a ea)
        by d (getSilent f i w a n) = absurd (false≢true i)

    begins_joint : ys ≡ [] → (d : Done)
        → Begins G (took_stores s) (packet op.Get last x) (survey_of (some x)) (known_in G l.server.tables (survey_of (some x))) d → Did d
    unfolding engine_with
    begins_joint i d (turned code w why eq) =
        subst Did (sym eq)
        (did-refuse j o h l st flag sent due begun dn G (took-acts op.Get last x) (took_stores s) Nothing code
        (took_base op.Get last x s u.whole le) refl w (ap is_requesting se) (not-admitted (none-held prior ys i hold) why) ea)
    begins_joint i d (begins eq) =
        let room = v.stays.serves.base.room in
        get_joint (confirms G (survey_of (some x)))
        (λ c. ap (λ (t : Bool). asks_srm j && t) be
        ∙ confirms-asked G x (is_none prior) (asks_srm j) hs.plain.asks c) nothing_gathered
        (subst (λ (zs : List (List Header)). KeptAgrees (limit_of E)
        (gatheringOf nothing_gathered l.server.stores.headers l.server.stores.body) (kept_all zs)) (sym i)
        (kept-begins (limit_of E) l.server.stores.headers l.server.stores.body room.headers room.body))
        (subst (λ (zs : List (List Header)). Asked (gatheringOf nothing_gathered l.server.stores.headers l.server.stores.body) (kept_all zs))
        (sym i)
        (asked-none l.server.stores.headers l.server.stores.body room.headers))
        d
        (eq ∙ ap (λ (t : Bool). get_packet G (packet op.Get last x) (survey_of (some x)) t (confirms G (survey_of (some x))) nothing_gathered
        (took_stores s)) v.stays.serves.srm)

    request_joint : Gathers false l.server ys → Did (read_as (some (packet op.Get last x)) G q (took_stores s) l.server.tables)
    unfolding engine_with
    request_joint g =
        let known = known_in G l.server.tables (survey_of (some x)) in
        let d = inside E.operation G (packet op.Get last x) (survey_of (some x)) known (took_stores s) in
        subst Did (sym (get_read G q (took_stores s) l.server.tables (packet op.Get last x) refl)) (by g)
      where
        by : Gathers false l.server ys → Did (inside E.operation G (packet op.Get last x) (survey_of (some x))
            (known_in G l.server.tables (survey_of (some x))) (took_stores s))
        by (none_yet i off n) =
            begins_joint i (inside E.operation G (packet op.Get last x) (survey_of (some x)) (known_in G l.server.tables (survey_of (some x)))
            (took_stores s))
            (first_get_lem G (took_stores s) (packet op.Get last x) (survey_of (some x)) (known_in G l.server.tables (survey_of (some x))) refl
            v.stays.serves.srm E.operation n)
        by (gathered g i w a) =
            get_joint false (λ c. absurd (false≢true c)) g w a (inside E.operation G (packet op.Get last x) (survey_of (some x)) (known_in G l.server.tables (survey_of (some x)))
            (took_stores s))
            (ap (λ (n : Operation). inside n G (packet op.Get last x) (survey_of (some x)) (known_in G l.server.tables (survey_of (some x)))
            (took_stores s)) i
            ∙ next_get G (took_stores s) (packet op.Get last x) (survey_of (some x)) (known_in G l.server.tables (survey_of (some x))) g false false
            false refl)

  -- ---- the packet that asks for the next part

  asks_joint : (t : Thing (box_of o)) (out : List (List ℕ)) (d : List ℕ) (zs : List (List Header)) → st ≡ receiving false → t.on ≡ false → IsWhole q
      → Sends (box_of o) t out d l.server → Holding out zs
      → Story j (box_of o) t d zs h → (s : List ℕ) → length s ≡ length l.server.stores.packet
      → Did (read_as (some (packet op.Get true [])) (took_engine op.Get true []) q (took_stores s) l.server.tables)
  unfolding engine_with sends_next
  asks_joint t out d zs se off w a held story s le =
      let G = took_engine op.Get true [] in
      let known = known_in G l.server.tables (survey_of (some [])) in
      let wn = wait-none [] (no_parameter [] tt) in
      let b = took_base op.Get true [] s w le in
      let m = next_packet (box_of o - 3) a.outgoing (thing_headers (box_of o) t) l.server.stores.reply in
      let eq : sends_next G a.outgoing t.on (survey_of (some [])).wait (took_stores s) ≡ sends_packet G false false m (took_stores s) =
      ap (λ (b : Bool). sends_next G a.outgoing b (survey_of (some [])).wait (took_stores s)) off
      ∙ ap (λ (b : Bool). sends_next G a.outgoing false b (took_stores s)) wn
      ∙ ap (λ (n : ℕ). sends_packet G false false (next_packet (n - 3) a.outgoing l.server.stores.headers l.server.stores.reply)
      (took_stores s)) v.stays.serves.remote
      ∙ ap (λ (n : List ℕ). sends_packet G false false (next_packet (box_of o - 3) a.outgoing n l.server.stores.reply) (took_stores s))
      a.headers in
      subst Did
      (sym (get_read G q (took_stores s) l.server.tables (packet op.Get true []) refl
      ∙ ap (λ (n : Operation). inside n G (packet op.Get true []) (survey_of (some [])) known (took_stores s)) a.operation
      ∙ server-object G (took_stores s) (packet op.Get true []) (survey_of (some [])) known a.outgoing a.chunk t.on false refl ∙ eq))
      (made-silent G m (took_stores s)
      (did_made j o h l st flag sent due begun dn G (took-acts op.Get true []) t out d zs m
      (λ b. Rattle.outgoing.proofs.Sender.packets_left (box_of o - 3) a.left b)
      (next-made (box_of o) t out d l.server l.server.stores.reply a v.stays.serves.base.room.reply) held story (ap is_waiting se)
      (took_stores s) b a.headers off (ap is_on se)))
    where
      made-silent : (G : Engine) (m : Made) (z : Stores) → GetJoint j o h (did_link l (sends_packet G false false m z) [])
          → Did (sends_packet G false false m z)
      made-silent G m z g = by m.packet.next g
        where
          by : (n : Next) → GetJoint j o h (did_link l (sends_made G false false n m z) []) → Did (sends_made G false false n m z)
          by (next.Send n true) g =
              subst (λ (x : GetHeard). GetJoint j o x (did_link l (sends_made G false false (next.Send n true) m z) [])) (sym (silent h)) g
          by (next.Send n false) g =
              subst (λ (x : GetHeard). GetJoint j o x (did_link l (sends_made G false false (next.Send n false) m z) [])) (sym (silent h)) g
          by next.Read g = subst (λ (x : GetHeard). GetJoint j o x (did_link l (sends_made G false false next.Read m z) [])) (sym (silent h)) g
          by next.TooLarge g = subst (λ (x : GetHeard). GetJoint j o x (did_link l (sends_made G false false next.TooLarge m z) [])) (sym (silent h)) g

  -- ---- the Abort

  stops_joint : st ≡ aborting → IsWhole q → Once j h → (x : List Header) (s : List ℕ) → length s ≡ length l.server.stores.packet
      → Did (read_as (some (packet op.Abort true x)) (took_engine op.Abort true x) q (took_stores s) l.server.tables)
  unfolding engine_with
  stops_joint se w on x s le =
      let G = took_engine op.Abort true x in
      let r = hostRequest.Abort G.length in
      let d = Rattle.model.specs.Step.asks G G.peer Nothing waits.Acknowledgement r (took_stores s) in
      let n = subst (λ (z : Stage). Due z flag j sent h l.client l.stores l.said) se due in
      subst Did (sym (server_abort G q (took_stores s) l.server.tables (packet op.Abort true x) refl))
      (subst (λ (y : GetHeard). GetJoint j o y (did_link l d [])) (sym (silent h))
      (acknowledging sent r (subst (λ (f : Bool). Due aborting f j sent h l.client l.stores l.said) n.only n) begun
      (stays_on o l.server.tables G (took_stores s) Nothing waits.Acknowledgement (took-acts op.Abort true x)
      (took_base op.Abort true x s w le) refl)
      refl refl refl dn on))

  -- ---- the packet as the engine reads it

  packet-done : (p : Opcode) (last : Bool) (x : List Header) (s : List ℕ) → request_of q ≡ some (packet p last x) → take (length q) s ≡ q
      → packet_done E (length q) (took_stores s) l.server.tables ≡ read_as (some (packet p last x)) (took_engine p last x) q (took_stores s)
      l.server.tables
  unfolding packet_done engine_with
  packet-done p last x s u i =
      let t = l.server.tables in
      ap (λ (y : List ℕ). read_as (request_of y) (arrived E (length q) (packet_target (request_of y) E t)) y (took_stores s) t) i
      ∙ ap (λ (n : Option Packet). read_as n (arrived E (length q) (packet_target n E t)) q (took_stores s) t) u

  whole_joint : (s : List ℕ) → take (length q) s ≡ q → length s ≡ length l.server.stores.packet → Carries j o st sent q l.server h
      → Did (packet_done E (length q) (took_stores s) l.server.tables)
  whole_joint s i le (request prior ys p x initial last se be te hold u hs g ea) =
      subst Did (sym (packet-done op.Get last x s u.reads i)) (request_joint prior ys p x initial last se be te hold u hs ea s le g)
  whole_joint s i le (nextAsks t out d zs se off e a held story) =
      subst Did (sym (packet-done op.Get true [] s (subst (λ (y : List ℕ). request_of y ≡ some
      (record { opcode = op.Get; final = true; bytes = y; headers = [] })) (sym e) next_up.reads) i))
      (asks_joint t out d zs se off (subst IsWhole (sym e) next_up.whole) a held story s le)
  whole_joint s i le (stops se e on) =
      let x = Rattle.client_model.specs.Leading.leading_headers j.id false in
      subst Did (sym (packet-done op.Abort true x s (subst (λ (y : List ℕ). request_of y ≡ some
      (record { opcode = op.Abort; final = true; bytes = y; headers = x })) (sym e) (abort_up j.id).reads) i))
      (stops_joint se (subst IsWhole (sym e) (abort_up j.id).whole) on x s le)

  -- ---- bytes of it are offered

  server-step : (i : List ℕ) → step_of l.server (bytes_offered_of i)
      ≡ keeps l.server (offers E (framed l.server.stores.packet E.begun 0 i) l.server.stores l.server.tables)
  unfolding bytes_offered_step
  server-step i =
      ap (keeps l.server) (passes-tables (box_of o) l.server v.stays.serves kind.FromPeer
      (offers E (framed l.server.stores.packet E.begun 0 i) l.server.stores l.server.tables)
      (ap (λ (w : Await). fits kind.FromPeer w) v.awaits))

  -- what is heard of a call of bytes
  abbrev heard_call : Called → GetHeard
  heard_call m =
      get_heard (h.asked ++ (asked_by m.took.outcome m.stores ++ [])) (or_else h.answer none) (or_joined h.object bare none) h.last
      (joined h.parts bare) (h.aborted || false)

  came : (n : ℕ) (f : Frames) → Came q l.server.stores.packet l.up E.begun 0 n f
      → let m = keeps l.server (offers E f l.server.stores l.server.tables) in
      GetJoint j o (heard_call m) (server_did l m (drop m.took.taken l.up) l.down)
  unfolding engine_with
  came n f (stillGoes s lt e w le) =
      let z : 0 + n ≡ n = omega arith in
      let b = v.stays.serves.base in
      let y : State = record {
        engine = engine_with E.settings E.peer E.operation E.awaits (E.begun + n) E.length E.target;
        stores =
            took_stores s;
        tables = l.server.tables;
      } in
      subst (λ (x : Frames). let m = keeps l.server (offers E x l.server.stores l.server.tables) in
      GetJoint j o (heard_call m) (server_did l m (drop m.took.taken l.up) l.down)) (sym e)
      (subst₂ (λ (x : GetHeard) (m : ℕ). GetJoint j o x (link_with l.client l.stores l.said y told.WantsBytes (drop m l.up) l.down))
      (sym (silent h)) (sym z)
      (under_way st flag sent q due begun
      (record {
        stays =
            record {
              serves =
                  record {
                    base =
                        record {
                          room = record {
                            packet = rw le b.room.packet;
                            headers = b.room.headers;
                            reply = b.room.reply;
                            body = b.room.body;
                          };
                          peer = b.peer;
                          last = b.last;
                        };
                    begun = omega (arith, w.count, w.more, w.whole.most);
                    counts = v.stays.serves.counts;
                    tables = v.stays.serves.tables;
                    srm = v.stays.serves.srm;
                    remote = v.stays.serves.remote;
                  };
              settings = v.stays.settings;
              peer = v.stays.peer;
              tables = v.stays.tables;
            };
        awaits = v.awaits;
        told = refl;
        half = w;
      })
      (carries_as (E.begun + n) s c) dn))
    where
      later : ℕ → List ℕ → State
      later n s =
          record {
            engine =
                engine_with E.settings E.peer E.operation E.awaits n E.length E.target;
            stores =
                took_stores s;
            tables = l.server.tables;
          }

      gathers_as : (n : ℕ) (s : List ℕ) (ys : List (List Header)) → Gathers false l.server ys → Gathers false (later n s) ys
      gathers_as n s ys (none_yet e off i) = none_yet e off i
      gathers_as n s ys (gathered g e w a) = gathered g e w a

      carries_as : (n : ℕ) (s : List ℕ) → Carries j o st sent q l.server h → Carries j o st sent q (later n s) h
      carries_as n s (request prior ys p x initial last se be te hold u hs g ea) =
          request prior ys p x initial last se be te hold u hs (gathers_as n s ys g) ea
      carries_as n s (nextAsks t out d zs se off e a held story) =
          nextAsks t out d zs se off e
          (record {
            outgoing = a.outgoing;
            chunk = a.chunk;
            left = a.left;
            at = a.at;
            so_far = a.so_far;
            counts = a.counts;
            operation = a.operation;
            headers = a.headers;
          })
          held story
      carries_as n s (stops se e on) = stops se e on
  came n f (comes s ge e w le) =
      let t : 0 + length l.up ≡ length l.up = omega arith in
      let z : drop (0 + length l.up) l.up ≡ [] = ap (λ (m : ℕ). drop m l.up) t ∙ drop-length l.up in
      subst (λ (x : Frames). let m = keeps l.server (offers E x l.server.stores l.server.tables) in
      GetJoint j o (heard_call m) (server_did l m (drop m.took.taken l.up) l.down)) (sym e)
      (subst (λ (up : List ℕ). GetJoint j o (heard_did h (packet_done E (length q) (took_stores s) l.server.tables))
      (did_link l (packet_done E (length q) (took_stores s) l.server.tables) up)) (sym z)
      (whole_joint s w le c))

  pub offer_up : (n : ℕ) → GetJoint j o (get_heard_after h l (offerUp n)) (move l (offerUp n))
  unfolding move
  offer_up n =
      let i = take n l.up in
      let e : take n (l.up ++ []) ≡ i = ap (take n) (append-nil l.up) in
      subst (λ (m : Called). GetJoint j o (heard_call m) (server_did l m (drop m.took.taken l.up) l.down)) (sym (server-step i))
      (came n (framed l.server.stores.packet E.begun 0 i)
      (subst (λ (y : List ℕ). Came q l.server.stores.packet l.up E.begun 0 n (framed l.server.stores.packet E.begun 0 y)) e
      (queued l.up q l.server.stores.packet [] E.begun 0 n v.half)))

-- ---- a reply goes onto the stream

means-goes : (j : Fetch) (o : Origin) (st : Stage) (sent : List (List ℕ)) (code : ℕ) (x : List Header) (s : State) (h : GetHeard)
    → Means j o st sent code x s h
    → goes_on_of s.engine.operation s.engine s.stores ≡ wants s.engine s.engine.peer s.engine.operation s.stores
means-goes j o st sent code x s h (goes_on initial granted _ e c ge hd (none_yet n off i) ea) = idle_goes s.engine.operation s.engine s.stores i
means-goes j o st sent code x s h (goes_on initial granted _ e c ge hd (gathered g n w a) ea) = ap (λ (p : Operation). goes_on_of p s.engine s.stores) n
means-goes j o st sent code x s h (refuses q na w i ea) = idle_goes s.engine.operation s.engine s.stores i
means-goes j o st sent code x s h (hostAnswers on initial q nc i asked ob pa ok ca) = idle_goes s.engine.operation s.engine s.stores i
means-goes j o st sent code x s h (more t out d zs q off after c a _ w) =
    ap (λ (p : Operation). goes_on_of p s.engine s.stores) (a.operation ∙ ap (λ (b : Bool). Sending a.outgoing a.chunk b false) off)
means-goes j o st sent code x s h (whole t out d zs q c i e _ w) = idle_goes s.engine.operation s.engine s.stores i
means-goes j o st sent code x s h (fails t d zs q c i w) = idle_goes s.engine.operation s.engine s.stores i
means-goes j o st sent code x s h (stopped q c i on) = idle_goes s.engine.operation s.engine s.stores i

module _ (j : Fetch) (o : Origin) (h : GetHeard) (l : Link) (st : Stage) (flag : Bool) (sent : List (List ℕ)) (y : List ℕ) (code : ℕ)
    (x : List Header) (n : ℕ)
    (due : Due st flag j sent h l.client l.stores l.said) (begun : l.client.begun ≡ 0) (y' : Down y code x)
    (mean : Means j o st sent code x l.server h)
    (v : Stays o l.server) (a : l.server.engine.awaits ≡ waits.Taken) (t : l.told ≡ told.Reply n)
    (r : take n l.server.stores.reply ≡ y) (up : l.up ≡ []) (dn : l.down ≡ []) where
  taken_step : reply_taken_step l.server.engine l.server.stores
      ≡ after 0 (wants l.server.engine l.server.engine.peer l.server.engine.operation l.server.stores)
  unfolding reply_taken_step
  taken_step =
      let e = l.server.engine in
      let s = l.server.stores in
      passes (box_of o) l.server v.serves kind.ReplyTaken
      (after 0 (pick (same_await e.awaits waits.Taken) (goes_on_of e.operation e s) (ends e e.peer end.OtherOperation s)))
      (ap (λ (w : Await). fits kind.ReplyTaken w) a)
      ∙ ap (λ (w : Await). after 0 (pick (same_await w waits.Taken) (goes_on_of e.operation e s) (ends e e.peer end.OtherOperation s))) a
      ∙ ap (after 0) (means-goes j o st sent code x l.server h mean)

  -- the server afterwards, and what is heard
  abbrev taken_state : State
  taken_state =
      let e = l.server.engine in
      record {
        engine =
            engine_with e.settings e.peer e.operation waits.Bytes 0 e.length e.target;
        stores =
            l.server.stores;
        tables = l.server.tables;
      }

  abbrev taken_heard : GetHeard
  taken_heard = get_heard h.asked h.answer h.object (some (sent_code code)) h.parts h.aborted

  early-taken : Early h → Early taken_heard
  early-taken ea = record { asked = ea.asked; answer = ea.answer; object = ea.object; parts = ea.parts }

  story_taken : (th : Thing (box_of o)) (d : List ℕ) (zs : List (List Header)) → Story j (box_of o) th d zs h → Story j (box_of o) th d zs taken_heard
  story_taken th d zs w = record { asked = w.asked; answer = w.answer; object = w.object; parts = w.parts }

  gathers-taken : (on : Bool) (xs : List (List Header)) → Gathers on l.server xs → Gathers on taken_state xs
  unfolding engine_with
  gathers-taken on _ (none_yet e off i) = none_yet e off i
  gathers-taken on _ (gathered g e w a) = gathered g e w a

  means-taken : Means j o st sent code x l.server h → Means j o st sent code x taken_state taken_heard
  unfolding engine_with
  means-taken (goes_on initial granted xs e c ge hd g ea) = goes_on initial granted xs e c ge hd (gathers-taken granted xs g) (early-taken ea)
  means-taken (refuses q na w i ea) = refuses q na w i (early-taken ea)
  means-taken (hostAnswers on initial q nc i asked ob pa ok ca) = hostAnswers on initial q nc i asked ob pa ok ca
  means-taken (more th out d zs q off after c a held w) =
      more th out d zs q off after c
      (record {
        outgoing = a.outgoing;
        chunk = a.chunk;
        left = a.left;
        at = a.at;
        so_far = a.so_far;
        counts = a.counts;
        operation = a.operation;
        headers = a.headers;
      })
      held (story_taken th d zs w)
  means-taken (whole th out d zs q c i e held w) = whole th out d zs q c i e held (story_taken th d zs w)
  means-taken (fails th d zs q c i w) = fails th d zs q c i (story_taken th d zs w)
  means-taken (stopped q c i on) = stopped q c i on

  sent-down : GetJoint j o taken_heard (link_with l.client l.stores l.said taken_state told.WantsBytes l.up y)
  unfolding engine_with
  sent-down =
      coming st flag sent y code x
      (record { stands = due.stands; answered = due.answered; awaits = due.awaits; said = due.said; aborted = due.aborted; only = due.only }) y'
      (means-taken mean)
      (record {
        stays = stays_on o l.server.tables l.server.engine l.server.stores l.server.engine.operation waits.Bytes
            (acts o l.server v) v.serves.base v.serves.counts;
        awaits = refl;
        told = refl;
        none-begun = refl;
        up = up;
      })
      (subst (λ (n : ℕ). Half y l.stores.packet y n) (sym begun)
      (none_come y l.stores.packet y'.whole (client-packet l.stores due.stands.room)))
      refl

  pub send_down : GetJoint j o (get_heard_after h l sendDown) (move l sendDown)
  unfolding move engine_with
  send_down =
      let q = l.server.stores.reply in
      subst (λ (u : Outcome). GetJoint j o (heard_calls h (performed_by l.server (sends_down u)) (first_or h.last (reply_bytes u q)) bare false)
      (call_after (sends_down u) l (l.down ++ reply_bytes u q))) (sym t)
      (subst (λ (m : Stepped). GetJoint j o
      (get_heard (h.asked ++ (asked_by m.took.outcome m.stores ++ [])) (or_else h.answer none) (or_joined h.object bare none)
      (first_or h.last (take n q)) (joined h.parts bare) (h.aborted || false))
      (server_did l (keeps l.server m) (drop m.took.taken l.up) (l.down ++ take n q))) (sym taken_step)
      (subst₂ (λ (z : List ℕ) (d : List ℕ). GetJoint j o
      (get_heard (h.asked ++ []) (or_else h.answer none) (or_joined h.object bare none) (first_or h.last z) (joined h.parts bare)
      (h.aborted || false))
      (link_with l.client l.stores l.said taken_state told.WantsBytes l.up (d ++ z))) (sym r) (sym dn)
      (subst (λ (z : GetHeard). GetJoint j o z (link_with l.client l.stores l.said taken_state told.WantsBytes l.up y))
      (λ i. get_heard (sym (append-nil h.asked) i) (sym (or_none_lem h.answer) i) (sym (or_joined-none h.object) i)
      (sym (first_of h.last (sent_code code) y y'.first) i)
      (sym (joined-bare h.parts) i) (sym (or_false h.aborted) i))
      sent-down)))
