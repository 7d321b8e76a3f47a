-- The host's answers in a Get without Single Response Mode: a reply, an object, bytes of its body, that they cannot be read, and that it has
-- heard of an Abort. Assumes nothing.
use mathlib.Core.Path.{◌≡◌, refl, sym, ap, subst, subst₂, ◌∙◌}
use mathlib.Core.List.{List, [], ◌∷◌, ◌++◌, append-nil}
use mathlib.Core.Bool.{Bool, true, false, ◌&&◌, ◌||◌, not, true≢false, false≢true}
use mathlib.Core.Option.{Option, none, some}
use mathlib.Core.Logic.{inl, inr}
use Prim.Native.Nat.{ℕ, ◌+◌, ◌-◌, ◌≤◌}
use native.Mathlib.Omega.{arith}
use lib.ListN.{length, drop}
use lib.Dec.{ltb, leb, eqb}
use borrow.Author.Tests.{ltb-true, ltb-false, le-leb, lt-leb}
use Rattle.base.specs.Pick.{pick}
use Rattle.text.specs.Unicode.{Octets}
use Rattle.packet.specs.Canonical.{canonical_as, canonical}
use Rattle.packet.specs.Codes.{codes, is_code, is_success, sent_code}
use Rattle.packet.specs.HeaderIds as header_id
use Rattle.packet.specs.Header.{Header, read_headers, first}
use Rattle.packet.specs.Packet.{packet_bytes}
use Rattle.packet.proofs.HeaderBytes.{header-bytes}
use Rattle.journal.specs.Journal.{list_of}
use Rattle.journal.specs.Record.{Record, bare, joined, carried_by}
use Rattle.journal.specs.Calls.{reply_given_of, object_given_of, body_given_of, body_failed_of, abort_acknowledged_of}
use Rattle.journal.proofs.Laws.{joined-bare}
use Rattle.incoming.specs.declared.gather.Gathered.{Gathered}
use Rattle.outgoing.specs.Claims.{body_bytes_of}
use Rattle.outgoing.specs.Object.{Made, next_packet, body_given_of as chunk_given}
use Rattle.connection.specs.Peer.{linked, disconnected_peer}
use Rattle.connection.specs.Reply.{send_bytes, front}
use Rattle.server.specs.declared.Operation.{Operation}
use Rattle.server.specs.declared.Operation.TheVariants.{Nothing, Getting, Sending}
use Rattle.server.specs.declared.Await.{Await}
use Rattle.server.specs.declared.Await.TheVariants as waits
use Rattle.server.specs.declared.CallKind.TheVariants as kind
use Rattle.server.specs.declared.End.TheVariants as end
use Rattle.server.specs.declared.Refusal.TheVariants as refusal
use Rattle.model.specs.Step.{Stores, with_headers, with_reply, engine_with, Done, replies, replies_code, sends, limit_of, Stepped, Called, called, after}
use Rattle.model.specs.Object.{sends_packet, sends_next, object_of}
use Rattle.model.specs.Guard.{fits, same_await, refuse, bad_headers, bad_reply, checked}
use Rattle.model.specs.Connect.{connect_answer}
use Rattle.model.specs.Request.{last_headers}
use Rattle.model.specs.Calls.{sends_linked, reply_answer, reply_checked, reply_given_step, object_for, object_given_step, body_for, body_given_step, body_failed_step, abort_acknowledged_step}
use Rattle.model.specs.Runs.{step_of, keeps}
use Rattle.model.proofs.Fit.{or_left, or_right, Base, room-headers}
use Rattle.client_model.specs.Guard.{any_of}
use Rattle.client_model.proofs.Conveyed.{Holding}
use Rattle.client_model.proofs.Getting.{Fetch, wants}
use Rattle.link.specs.Link.{Link, host, server_did, move}
use Rattle.link.specs.Told.{asked_by, went, Answer, answer_by, is_accepted}
use Rattle.link.specs.Claims.{is_plain}
use Rattle.link.proofs.Moves.{or_else, or_false}
use Rattle.link.proofs.ServerMoves.{passes, passes-called, did_link, reply-front, base_reply, Fair, fair, and_false, and_true, canonical-reads}
use Rattle.link.proofs.GetHeard.{GetHeard, get_heard, or_joined, heard_calls, get_heard_after, silent, or_none_lem, or_joined-none}
use Rattle.link.proofs.GetObject.{Down, reply-down, code-down, is_body_or_srm, plain_carried, Thing, thing_record, Reads, first_made, has_body, given_made}
use Rattle.link.proofs.GetJoint.{Origin, box_of, Stays, AskedOnce, Story, Once, Stage, requesting, aborting, Due, is_waiting, answers as hostAnswers, fails, stopped, GetJoint, ended, is_on, Turning, Taker, awaiting-next, AllDown, Granting, breaks, last-waits, pouring}
use Rattle.link.proofs.Queues.{Queue}
use Rattle.link.proofs.GetPours.{did_pour, made_untold, taker_as}
use Rattle.link.proofs.GetServerMoves.{acts, stays_on, did-reply, did_made}

-- ---- headers of a host

not-true : (t : Bool) → not t ≡ true → t ≡ false
not-true true e = absurd (false≢true e)
not-true false e = refl

plain_list : (hs : List ℕ) (l : List Header) → read_headers hs 0 ≡ some l → is_plain hs ≡ true → any_of is_body_or_srm l ≡ false
plain_list hs l e p =
    ap (λ (o : Option (List Header)). any_of is_body_or_srm (list_of o)) (sym e) ∙ not-true (any_of is_body_or_srm (list_of (read_headers hs 0))) p

-- what they carry is they themselves
plain-bytes : (hs : List ℕ) (l : List Header) → Octets hs → read_headers hs 0 ≡ some l → is_plain hs ≡ true
    → carried_by l ≡ record { headers = hs; body = none }
plain-bytes hs l oct e p =
    plain_carried l (plain_list hs l e p) ∙ ap (λ (x : List ℕ). record { headers = x; body = none }) (header-bytes hs 0 l oct e)

-- ---- a reply

module _ (j : Fetch) (o : Origin) (h : GetHeard) (l : Link) (flag srm initial : Bool) (sent : List (List ℕ))
    (due : Due (requesting srm initial true) flag j sent h l.client l.stores l.said)
    (begun : l.client.begun ≡ 0) (v : Stays o l.server) (a : l.server.engine.awaits ≡ waits.Get) (up : l.up ≡ []) (dn : l.down ≡ [])
    (on : AskedOnce j h)
    (code : ℕ) (hs : List ℕ) (oct : Octets hs) (plain : is_plain hs ≡ true) (nc : eqb code 0x10 ≡ false) where
  abbrev answer : Answer
  answer = record { code = code; headers = hs }

  -- what is heard of it
  abbrev heard_reply : GetHeard
  heard_reply = get_heard h.asked (some answer) h.object h.last h.parts h.aborted

  abbrev step_heard : Called → GetHeard
  step_heard m =
      get_heard (h.asked ++ (asked_by m.took.outcome m.stores ++ []))
      (or_else h.answer (answer_by (reply_given_of code hs) (went m.took.outcome) none))
      (or_joined h.object bare none) h.last (joined h.parts bare) (h.aborted || false)

  due_as : Due (requesting srm initial true) flag j sent heard_reply l.client l.stores l.said
  due_as = record { stands = due.stands; answered = due.answered; awaits = due.awaits; said = due.said; aborted = due.aborted; only = due.only }

  did-answer : (y : List ℕ) (k : ℕ) (x : List Header) → Down y k x → is_success k ≡ is_accepted (box_of o) (some answer) → eqb k 0x10 ≡ false
      → (is_success k ≡ true → carried_by x ≡ record { headers = hs; body = none })
      → GetJoint j o heard_reply (did_link l (replies l.server.engine l.server.engine.peer Nothing waits.Taken y l.server.stores) [])
  unfolding engine_with
  did-answer y k x y' ok f ca =
      did-reply j o heard_reply l (requesting srm initial true) flag sent due_as begun dn l.server.engine (acts o l.server v) l.server.stores Nothing y
      k x v.serves.base refl y'
      (hostAnswers srm initial refl f refl on.asked on.object on.parts ok ca)

  sends_by : Fair code hs → (t u : Bool) → ltb 65535 (3 + 0 + length hs) ≡ t
      → ltb l.server.engine.peer.remote_max_packet_length (3 + 0 + length hs) ≡ u
      → GetJoint j o heard_reply (did_link l (sends l.server.engine l.server.engine.peer code hs l.server.stores) [])
      × (went (sends l.server.engine l.server.engine.peer code hs l.server.stores).outcome ≡ true)
      × (asked_by (sends l.server.engine l.server.engine.peer code hs l.server.stores).outcome
      (sends l.server.engine l.server.engine.peer code hs l.server.stores).stores ≡ [])
  unfolding sends send_bytes engine_with is_code codes is_success
  sends_by w true u e f =
      let k = ltb-true 65535 (3 + 0 + length hs) e in
      let i : leb (3 + length hs) (box_of o) ≡ false = lt-leb (3 + length hs) (box_of o)
      (omega (arith, k, v.serves.remote, v.serves.base.peer.most)) in
      rw e (
        ended (requesting srm initial true) flag sent end.ReplyTooLarge due_as begun refl refl (inr refl) dn (inl on.asked) on.object
            (ap (λ (t : Bool). is_success code && t) i ∙ and_false (is_success code)),
        refl,
        refl,
      )
  sends_by w false true e f =
      let k = ltb-true l.server.engine.peer.remote_max_packet_length (3 + 0 + length hs) f in
      let i : leb (3 + length hs) (box_of o) ≡ false = lt-leb (3 + length hs) (box_of o) (omega (arith, k, v.serves.remote)) in
      rw (e, f) (
        did-answer (packet_bytes (sent_code 0x50) [] []) 0x50 [] (code-down 0x50 refl)
            (sym (ap (λ (t : Bool). is_success code && t) i ∙ and_false (is_success code))) refl
            (λ q. absurd (false≢true q)),
        refl,
        refl,
      )
  sends_by w false false e f =
      let k = ltb-false 65535 (3 + 0 + length hs) e in
      let m = ltb-false l.server.engine.peer.remote_max_packet_length (3 + 0 + length hs) f in
      let i : leb (3 + length hs) (box_of o) ≡ true = le-leb (3 + length hs) (box_of o) (omega (arith, m, v.serves.remote)) in
      rw (e, f) (
        did-answer (packet_bytes (sent_code code) [] hs) code w.headers
            (reply-down code hs w.headers w.is_code_lem (omega (arith, k)) oct w.reads)
            (and_true (is_success code) ∙ ap (λ (t : Bool). is_success code && t) (sym i)) nc (λ q. plain-bytes hs w.headers oct w.reads plain),
        refl,
        refl,
      )

  -- the step, if the answer is one that a host may give
  answer-step : step_of l.server (reply_given_of code hs)
      ≡ pick (bad_reply code hs) (called (refuse refusal.BadAnswer l.server.engine l.server.stores) l.server.tables)
      (called (after 0 (sends l.server.engine l.server.engine.peer code hs l.server.stores)) l.server.tables)
  unfolding reply_given_step reply_answer
  answer-step =
      let e = l.server.engine in
      let s = l.server.stores in
      let t = l.server.tables in
      passes-called (box_of o) l.server v.serves kind.ReplyGiven (reply_checked e code hs s t) (ap (λ (w : Await). fits kind.ReplyGiven w) a)
      ∙ ap (λ (w : Await). let x = pick (same_await w waits.Connect) (connect_answer e code hs s t)
      (pick (same_await w waits.Disconnect) (sends_linked e (disconnected_peer e.peer t (first header_id.connection_id (last_headers e s))) code hs s)
      (sends_linked e (linked e.peer t) code hs s)) in
      pick (bad_reply code hs) (called (refuse refusal.BadAnswer e s) t) (called (after 0 x.done) x.tables)) a

  pub reply-given : GetJoint j o h l → GetJoint j o (get_heard_after h l (host (reply_given_of code hs))) (move l (host (reply_given_of code hs)))
  unfolding move
  reply-given now =
      subst (λ (m : Called). GetJoint j o (step_heard m) (server_did l m (drop m.took.taken l.up) l.down)) (sym answer-step)
      (by (bad_reply code hs) refl)
    where
      d : Done
      d = sends l.server.engine l.server.engine.peer code hs l.server.stores

      by : (t : Bool) → bad_reply code hs ≡ t
          → let m = pick t (called (refuse refusal.BadAnswer l.server.engine l.server.stores) l.server.tables)
          (called (after 0 d) l.server.tables) in
          GetJoint j o (step_heard m) (server_did l m (drop m.took.taken l.up) l.down)
      by true e = subst (λ (x : GetHeard). GetJoint j o x l) (sym (silent h)) now
      by false e =
          let w = sends_by (fair code hs e) (ltb 65535 (3 + 0 + length hs))
          (ltb l.server.engine.peer.remote_max_packet_length (3 + 0 + length hs)) refl refl in
          subst₂ (λ (x : GetHeard) (q : List ℕ). GetJoint j o x (did_link l d q))
          (λ i. get_heard
          ((sym (append-nil h.asked) ∙ ap (λ (r : List (List ℕ)). h.asked ++ (r ++ [])) (sym w.2)) i)
          ((ap (λ (t : Bool). or_else none (answer_by (reply_given_of code hs) t none)) (sym w.1)
          ∙ ap (λ (b : Option Answer). or_else b (answer_by (reply_given_of code hs) (went d.outcome) none)) (sym on.answer)) i)
          (sym (or_joined-none h.object) i)
          h.last
          (sym (joined-bare h.parts) i)
          (sym (or_false h.aborted) i))
          (sym up) w.0

-- ---- an object

-- headers that a host may give
good : (hs : List ℕ) → bad_headers hs ≡ false → (length hs ≤ 65535) × ((x : List Header) × (read_headers hs 0 ≡ some x))
unfolding bad_headers canonical
good hs e =
    let c = not (canonical_as hs (read_headers hs 0)) in (
      ltb-false 65535 (length hs) (or_left (ltb 65535 (length hs)) c e),
      canonical-reads hs (read_headers hs 0) refl
          (or_right (ltb 65535 (length hs)) c e),
    )

module _ (j : Fetch) (o : Origin) (h : GetHeard) (l : Link) (flag srm initial confirm : Bool) (sent : List (List ℕ)) (g : Gathered)
    (may : confirm ≡ true → (wants j && initial) ≡ true) (due : Due (requesting srm initial true) flag j sent h l.client l.stores l.said)
    (begun : l.client.begun ≡ 0) (v : Stays o l.server) (a : l.server.engine.awaits ≡ waits.Get)
    (p : l.server.engine.operation ≡ Getting g srm confirm false)
    (up : l.up ≡ []) (dn : l.down ≡ []) (on : AskedOnce j h) (hs : List ℕ) (has : Bool) (oct : Octets hs) (plain : is_plain hs ≡ true) where
  or_true : (t : Bool) → (t || true) ≡ true
  or_true true = refl
  or_true false = refl

  abbrev thing : bad_headers hs ≡ false → Thing (box_of o)
  thing e =
      let w = good hs e in
      record {
        on = srm || confirm;
        lead = confirm;
        leads = λ c. ap (λ (t : Bool). srm || t) c ∙ or_true srm;
        hs = hs;
        has = has;
        store = l.server.stores.headers;
        low = omega (arith, v.serves.remote, v.serves.base.peer.least);
        top = omega (arith, v.serves.remote, v.serves.base.peer.most);
        octets = oct;
        most = w.0;
        list = w.1.0;
        reads = w.1.1;
        plain = plain_list hs w.1.0 w.1.1 plain;
      }

  abbrev heard_object : GetHeard
  heard_object = get_heard h.asked h.answer (some (record { headers = hs; body = pick has (some []) none })) h.last h.parts h.aborted

  due-object : Due (requesting srm initial true) flag j sent heard_object l.client l.stores l.said
  due-object =
      record { stands = due.stands; answered = due.answered; awaits = due.awaits; said = due.said; aborted = due.aborted; only = due.only }

  abbrev object_stores : Stores
  object_stores = with_headers l.server.stores (front hs l.server.stores.headers)

  abbrev first_made_of : Made
  first_made_of = next_packet (box_of o - 3) (object_of (length hs) confirm has) (front hs l.server.stores.headers) l.server.stores.reply

  object_base : bad_headers hs ≡ false → Base l.server.engine object_stores
  object_base e =
      record {
        room = room-headers (limit_of l.server.engine) l.server.stores hs (good hs e).0 v.serves.base.room;
        peer = v.serves.base.peer;
        last = v.serves.base.last;
      }

  first_off : (srm || confirm) ≡ false → srm ≡ false
  first_off e = go srm e
    where
      go : (t : Bool) → (t || confirm) ≡ false → t ≡ false
      go true q = absurd (true≢false q)
      go false q = refl

  -- under Single Response Mode the client has it on, or turns it on
  turning : (srm || confirm) ≡ true → Turning j (requesting srm initial true) confirm []
  turning e = go srm confirm (wants j) initial e may
    where
      go : (a c w i : Bool) → (a || c) ≡ true → (c ≡ true → (w && i) ≡ true) → (a || (w && (i && c))) ≡ true
      go true c w i e m = refl
      go false true true true e m = refl
      go false true true false e m = m refl
      go false true false i e m = m refl
      go false false w i e m = absurd (false≢true e)

  object_joint : bad_headers hs ≡ false → (on' : Bool) → (srm || confirm) ≡ on'
      → GetJoint j o heard_object (did_link l (sends_packet l.server.engine on' false first_made_of object_stores) [])
  object_joint e false oe =
      let t = thing e in
      did_made j o heard_object l (requesting srm initial true) flag sent due-object begun dn l.server.engine (acts o l.server v) t [] [] [] first_made_of
      (λ b. Rattle.link.proofs.GetObject.thing_packets (box_of o) t b)
      (first_made (box_of o) t l.server.stores.reply v.serves.base.room.reply) tt
      (record { asked = on.asked; answer = on.answer; object = refl; parts = λ z. on.parts }) refl object_stores (object_base e) refl oe (first_off oe)
  object_joint e true oe =
      let t = thing e in
      did_pour j o heard_object l t [] [] [] [] [] oe
      (awaiting-next (requesting srm initial true) flag sent due-object refl (turning oe)) tt (dn, begun) tt tt
      (record { asked = on.asked; answer = on.answer; object = refl; parts = λ z. on.parts }) l.server.engine (acts o l.server v) first_made_of
      (λ b. Rattle.link.proofs.GetObject.thing_packets (box_of o) t b)
      (first_made (box_of o) t l.server.stores.reply v.serves.base.room.reply) object_stores (object_base e) refl

  object-step : step_of l.server (object_given_of hs has)
      ≡ keeps l.server (checked (bad_headers hs) l.server.engine l.server.stores
      (sends_packet l.server.engine (srm || confirm) false first_made_of object_stores))
  unfolding object_given_step sends_next
  object-step =
      let e = l.server.engine in
      let s = l.server.stores in
      ap (keeps l.server)
      (passes (box_of o) l.server v.serves kind.ObjectGiven (object_for e.operation e hs has s) (ap (λ (w : Await). fits kind.ObjectGiven w) a)
      ∙ ap (λ (x : Operation). object_for x e hs has s) p
      ∙ ap (λ (n : ℕ). checked (bad_headers hs) e s (sends_packet e (srm || confirm) false
      (next_packet (n - 3) (object_of (length hs) confirm has) (front hs s.headers) s.reply) object_stores)) v.serves.remote)

  abbrev object_heard : Called → GetHeard
  object_heard m = heard_calls h (Rattle.model.specs.Runs.performed [] (object_given_of hs has) m.took m.stores m.tables ∷ []) h.last bare false

  pub object-given : GetJoint j o h l → GetJoint j o (get_heard_after h l (host (object_given_of hs has))) (move l (host (object_given_of hs has)))
  unfolding move
  object-given now =
      subst (λ (m : Called). GetJoint j o (object_heard m) (server_did l m (drop m.took.taken l.up) l.down)) (sym object-step)
      (by (bad_headers hs) refl)
    where
      d : Done
      d = sends_packet l.server.engine (srm || confirm) false first_made_of object_stores

      by : (t : Bool) → bad_headers hs ≡ t → let m = keeps l.server (checked t l.server.engine l.server.stores d) in
          GetJoint j o (object_heard m) (server_did l m (drop m.took.taken l.up) l.down)
      by true e = subst (λ (x : GetHeard). GetJoint j o x l) (sym (silent h)) now
      by false e =
          let w = made_untold l.server.engine (srm || confirm) first_made_of object_stores first_made_of.packet.next in
          let r : Record = record { headers = hs; body = pick has (some []) none } in
          subst₂ (λ (x : GetHeard) (q : List ℕ). GetJoint j o x (did_link l d q))
          (λ i. get_heard
          ((sym (append-nil h.asked) ∙ ap (λ (r : List (List ℕ)). h.asked ++ (r ++ [])) (sym w.1)) i)
          (sym (or_none_lem h.answer) i)
          ((ap (λ (x : Record). some x) (sym (joined-bare r)) ∙ ap
          (λ (t : Bool). or_joined none bare (Rattle.link.specs.Told.object_by (object_given_of hs has) t bare none)) (sym w.0)
          ∙ ap (λ (x : Option Record). or_joined x bare (Rattle.link.specs.Told.object_by (object_given_of hs has) (went d.outcome) bare none))
          (sym on.object)) i)
          h.last
          (sym (joined-bare h.parts) i)
          (sym (or_false h.aborted) i))
          (sym up) (object_joint e (srm || confirm) refl)

-- ---- bytes of its body

-- the object with more bytes
pub thing-more : (box : ℕ) (t : Thing box) (d x : List ℕ) → t.has ≡ true
    → joined (thing_record box t d) (joined (record { headers = []; body = some x }) bare) ≡ thing_record box t (d ++ x)
thing-more box t d x e =
    ap (λ (b : Bool). joined (record { headers = t.hs; body = pick b (some d) none }) (record { headers = []; body = some x })) e
    ∙ ap (λ (y : List ℕ). record { headers = y; body = some (d ++ x) }) (append-nil t.hs)
    ∙ ap (λ (b : Bool). record { headers = t.hs; body = pick b (some (d ++ x)) none }) (sym e)

-- what is heard of more bytes
abbrev heard_body : (box : ℕ) → Thing box → List ℕ → List ℕ → GetHeard → GetHeard
heard_body box t d x h = get_heard h.asked h.answer (some (thing_record box t (d ++ x))) h.last h.parts h.aborted

-- with Single Response Mode on or not; what becomes of the link is left to the caller
module _ (j : Fetch) (o : Origin) (h : GetHeard) (l : Link) (t : Thing (box_of o)) (out : List (List ℕ)) (d : List ℕ) (zs : List (List Header))
    (srm : Bool) (is : t.on ≡ srm) (v : Stays o l.server) (a : l.server.engine.awaits ≡ waits.Body)
    (r : Reads (box_of o) t out d l.server) (up : l.up ≡ []) (story : Story j (box_of o) t d zs h) where
  failed_by : GetJoint j o h (did_link l (replies_code l.server.engine l.server.engine.peer Nothing 0x50 l.server.stores) [])
      → GetJoint j o (get_heard_after h l (host body_failed_of)) (move l (host body_failed_of))
  unfolding move body_failed_step engine_with is_code codes
  failed_by g =
      let e = l.server.engine in
      let s = l.server.stores in
      let x = replies_code e e.peer Nothing 0x50 s in
      subst (λ (m : Stepped). GetJoint j o (heard_calls h
      (Rattle.model.specs.Runs.performed [] body_failed_of m.took m.stores l.server.tables ∷ []) h.last bare false)
      (server_did l (keeps l.server m) (drop m.took.taken l.up) l.down))
      (sym (passes (box_of o) l.server v.serves kind.FromBody (after 0 x) (ap (λ (w : Await). fits kind.FromBody w) a)))
      (subst₂ (λ (z : GetHeard) (q : List ℕ). GetJoint j o z (did_link l x q)) (sym (silent h)) (sym up) g)

  module _ (x : List ℕ) where
    abbrev given_made_of : Made
    given_made_of = chunk_given r.made.packet.outgoing r.made.packet.chunk x l.server.stores.reply

    body-step : step_of l.server (body_given_of x)
        ≡ keeps l.server (pick (ltb r.made.packet.chunk.room (length x)) (refuse refusal.WrongMoment l.server.engine l.server.stores)
        (after 0 (sends_packet l.server.engine srm false given_made_of l.server.stores)))
    unfolding body_given_step
    body-step =
        let e = l.server.engine in
        let s = l.server.stores in
        ap (keeps l.server)
        (passes (box_of o) l.server v.serves kind.FromBody (body_for e.operation e x s) (ap (λ (w : Await). fits kind.FromBody w) a)
        ∙ ap (λ (p : Operation). body_for p e x s) (r.operation
        ∙ ap (λ (b : Bool). Sending r.made.packet.outgoing r.made.packet.chunk b false) is))

    abbrev body_heard : Called → GetHeard
    body_heard m = heard_calls h (Rattle.model.specs.Runs.performed [] (body_given_of x) m.took m.stores m.tables ∷ []) h.last bare false

    given_by : (length x ≤ r.made.packet.chunk.room → GetJoint j o (heard_body (box_of o) t d x h)
        (did_link l (sends_packet l.server.engine srm false (chunk_given r.made.packet.outgoing r.made.packet.chunk x r.made.reply)
        l.server.stores) []))
        → GetJoint j o h l → GetJoint j o (get_heard_after h l (host (body_given_of x))) (move l (host (body_given_of x)))
    unfolding move
    given_by given now =
        subst (λ (m : Called). GetJoint j o (body_heard m) (server_did l m (drop m.took.taken l.up) l.down)) (sym body-step)
        (by (ltb r.made.packet.chunk.room (length x)) refl)
      where
        z : Done
        z = sends_packet l.server.engine srm false given_made_of l.server.stores

        given_joint : length x ≤ r.made.packet.chunk.room → GetJoint j o (heard_body (box_of o) t d x h) (did_link l z [])
        given_joint k =
            subst (λ (y : List ℕ). GetJoint j o (heard_body (box_of o) t d x h) (did_link l
            (sends_packet l.server.engine srm false (chunk_given r.made.packet.outgoing r.made.packet.chunk x y) l.server.stores)
            []))
            (sym r.reply) (given k)

        by : (b : Bool) → ltb r.made.packet.chunk.room (length x) ≡ b
            → let m = keeps l.server (pick b (refuse refusal.WrongMoment l.server.engine l.server.stores) (after 0 z)) in
            GetJoint j o (body_heard m) (server_did l m (drop m.took.taken l.up) l.down)
        by true e = subst (λ (x : GetHeard). GetJoint j o x l) (sym (silent h)) now
        by false e =
            let k = ltb-false r.made.packet.chunk.room (length x) e in
            let w = made_untold l.server.engine srm given_made_of l.server.stores given_made_of.packet.next in
            subst₂ (λ (x : GetHeard) (q : List ℕ). GetJoint j o x (did_link l z q))
            (λ i. get_heard
            ((sym (append-nil h.asked) ∙ ap (λ (r : List (List ℕ)). h.asked ++ (r ++ [])) (sym w.1)) i)
            (sym (or_none_lem h.answer) i)
            ((ap (λ (y : Record). some y) (sym (thing-more (box_of o) t d x (has_body (box_of o) t out d x l.server r k)))
            ∙ ap (λ (b : Bool). or_joined (some (thing_record (box_of o) t d)) (Rattle.link.specs.Told.body_by (body_given_of x) b bare) none)
            (sym w.0)
            ∙ ap (λ (y : Option Record). or_joined y (Rattle.link.specs.Told.body_by (body_given_of x) (went z.outcome) bare) none)
            (sym story.object)) i)
            h.last
            (sym (joined-bare h.parts) i)
            (sym (or_false h.aborted) i))
            (sym up) (given_joint k)

-- without it
module _ (j : Fetch) (o : Origin) (h : GetHeard) (l : Link) (st : Stage) (flag : Bool) (sent : List (List ℕ)) (t : Thing (box_of o))
    (out : List (List ℕ)) (d : List ℕ) (zs : List (List Header)) (due : Due st flag j sent h l.client l.stores l.said)
    (wt : is_waiting st ≡ true) (off : t.on ≡ false) (low : is_on st ≡ false) (begun : l.client.begun ≡ 0) (v : Stays o l.server)
    (a : l.server.engine.awaits ≡ waits.Body) (r : Reads (box_of o) t out d l.server) (up : l.up ≡ []) (dn : l.down ≡ [])
    (held : Holding out zs) (story : Story j (box_of o) t d zs h) where
  pub body_failed_lem : GetJoint j o (get_heard_after h l (host body_failed_of)) (move l (host body_failed_of))
  unfolding is_code codes engine_with
  body_failed_lem =
      failed_by j o h l t out d zs false off v a r up story
      (did-reply j o h l st flag sent due begun dn l.server.engine (acts o l.server v) l.server.stores Nothing
      (packet_bytes (sent_code 0x50) [] []) 0x50 [] v.serves.base refl (code-down 0x50 refl) (fails t d zs wt refl refl story))

  pub body-given : (x : List ℕ) → GetJoint j o h l → GetJoint j o (get_heard_after h l (host (body_given_of x))) (move l (host (body_given_of x)))
  body-given x =
      given_by j o h l t out d zs false off v a r up story x
      (λ k. did_made j o (heard_body (box_of o) t d x h) l st flag sent
      (record { stands = due.stands; answered = due.answered; awaits = due.awaits; said = due.said; aborted = due.aborted; only = due.only })
      begun dn l.server.engine (acts o l.server v) t out (d ++ x) zs
      (chunk_given r.made.packet.outgoing r.made.packet.chunk x r.made.reply) (λ b. r.rest (some (x ++ body_bytes_of b)))
      (given_made (box_of o) t out d x l.server r k) held
      (record { asked = story.asked; answer = story.answer; object = refl; parts = story.parts }) wt l.server.stores
      v.serves.base r.headers off low)

-- with it
module _ (j : Fetch) (o : Origin) (h : GetHeard) (l : Link) (t : Thing (box_of o)) (out : List (List ℕ)) (d : List ℕ) (zs : List (List Header))
    (ys : List (List ℕ)) (vs : List (List Header)) (on : t.on ≡ true) (taker : Taker j h t.lead zs l.client l.stores l.said)
    (ad : AllDown ys vs) (qu : Queue ys l.stores.packet l.down l.client.begun) (hold : Holding out (zs ++ vs))
    (gr : Granting t.lead (zs ++ vs)) (up : l.up ≡ []) (v : Stays o l.server) (a : l.server.engine.awaits ≡ waits.Body)
    (r : Reads (box_of o) t out d l.server) (story : Story j (box_of o) t d zs h) where
  pub pour_failed : GetJoint j o (get_heard_after h l (host body_failed_of)) (move l (host body_failed_of))
  unfolding is_code codes engine_with
  pour_failed =
      let e = l.server.engine in
      let s = l.server.stores in
      let y = packet_bytes (sent_code 0x50) [] [] in
      let c : Down y 0x50 [] = code-down 0x50 refl in
      failed_by j o h l t out d zs true on v a r up story
      (pouring t out d zs ys vs on taker ad qu hold gr refl
      (stays_on o l.server.tables e (with_reply s (front y s.reply)) Nothing waits.Taken (acts o l.server v)
      (base_reply e s y v.serves.base c.whole.most) refl)
      (last-waits y 0x50 [] (length y) c refl refl (reply-front y s.reply) (breaks refl refl)) story)

  pub pour_given : (x : List ℕ) → GetJoint j o h l → GetJoint j o (get_heard_after h l (host (body_given_of x))) (move l (host (body_given_of x)))
  pour_given x =
      given_by j o h l t out d zs true on v a r up story x
      (λ k. did_pour j o (heard_body (box_of o) t d x h) l t out (d ++ x) zs ys vs on
      (taker_as j h (heard_body (box_of o) t d x h) t.lead zs l.client l.stores l.said refl taker) ad qu hold gr
      (record { asked = story.asked; answer = story.answer; object = refl; parts = story.parts }) l.server.engine (acts o l.server v)
      (chunk_given r.made.packet.outgoing r.made.packet.chunk x r.made.reply) (λ b. r.rest (some (x ++ body_bytes_of b)))
      (given_made (box_of o) t out d x l.server r k) l.server.stores v.serves.base r.headers)

-- ---- the host has heard of the Abort

pub acknowledged : (j : Fetch) (o : Origin) (h : GetHeard) (l : Link) (sent : List (List ℕ))
    → Due aborting true j sent h l.client l.stores l.said → l.client.begun ≡ 0
    → Stays o l.server → l.server.engine.awaits ≡ waits.Acknowledgement → l.up ≡ [] → l.down ≡ [] → Once j h
    → GetJoint j o (get_heard_after h l (host abort_acknowledged_of)) (move l (host abort_acknowledged_of))
unfolding move abort_acknowledged_step engine_with is_code codes
acknowledged j o h l sent due begun v a up dn on =
    let e = l.server.engine in
    let s = l.server.stores in
    let x = replies_code e e.peer Nothing 0x20 s in
    subst (λ (m : Stepped). GetJoint j o (heard_calls h
    (Rattle.model.specs.Runs.performed [] abort_acknowledged_of m.took m.stores l.server.tables ∷ []) h.last bare false)
    (server_did l (keeps l.server m) (drop m.took.taken l.up) l.down))
    (sym (passes (box_of o) l.server v.serves kind.AbortAcknowledged (after 0 x) (ap (λ (w : Await). fits kind.AbortAcknowledged w) a)))
    (subst₂ (λ (z : GetHeard) (q : List ℕ). GetJoint j o z (did_link l x q)) (sym (silent h)) (sym up)
    (did-reply j o h l aborting true sent due begun dn e (acts o l.server v) s Nothing (packet_bytes (sent_code 0x20) [] []) 0x20 []
    v.serves.base refl (code-down 0x20 refl)
    (stopped refl refl refl on)))
