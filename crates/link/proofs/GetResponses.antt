-- A response comes to the client in a Get without Single Response Mode, in whatever pieces; or the client sees the end of the server. Assumes
-- nothing.
use mathlib.Core.Path.{◌≡◌, refl, sym, ap, subst, subst₂, ◌∙◌}
use mathlib.Core.List.{List, [], ◌∷◌, ◌++◌, append-nil}
use mathlib.Core.Bool.{Bool, true, false, ◌&&◌, ◌||◌, not, true≢false, false≢true}
use mathlib.Core.Option.{Option, none, some}
use mathlib.Core.Logic.{inl, inr}
use Prim.Native.Nat.{ℕ, ◌+◌, ◌≤◌}
use native.Mathlib.Omega.{arith}
use lib.ListN.{length, take, drop}
use lib.Seq.{drop-length}
use lib.Dec.{ltb, eqb}
use borrow.Author.Tests.{le-ltb}
use Rattle.std.specs.Prelude.{Some, None}
use Rattle.base.specs.Pick.{pick}
use Rattle.packet.specs.Codes.{is_success, sent_code}
use Rattle.packet.specs.Header.{Header}
use Rattle.packet.specs.ResponsePacket.{ResponsePacket, response_packet}
use Rattle.journal.specs.Record.{Record, bare, joined, carried_by}
use Rattle.incoming.specs.Frame.{Frames, framed}
use Rattle.incoming.specs.Gather.{Gathering}
use Rattle.incoming.proofs.Gathers.{PutAgrees}
use Rattle.incoming.proofs.Queued.{Half, Came, goes as stillGoes, comes, queued}
use Rattle.client_model.specs.Step.{Stores, stores, with_packet, client_with, begun_with, arrived, Done, over, ends, Stepped, after}
use Rattle.client_model.specs.Numbers.{same_await}
use Rattle.client_model.specs.Request.{requests_next, sends_abort}
use Rattle.client_model.specs.Answer.{grants, gathers, part_body, parts, ended, received_more, received_last, received, continued, request_answered, responded, is_connecting, read_as, response_done}
use Rattle.client_model.specs.Guard.{short, sound_operation, awaiting}
use Rattle.client_model.specs.Calls.{offers, bytes_offered_step, stream_ended_step}
use Rattle.client_model.specs.declared.Settings.{Settings}
use Rattle.client_model.specs.declared.Kind.TheVariants as kind
use Rattle.client_model.specs.declared.Operation.{Operation}
use Rattle.client_model.specs.declared.Operation.TheVariants.{Aborting}
use Rattle.client_model.specs.declared.Await.{Await}
use Rattle.client_model.specs.declared.Await.TheVariants as await
use Rattle.client_model.specs.declared.Client.{Client}
use Rattle.client_model.specs.declared.End.TheVariants as end
use Rattle.client_model.specs.declared.Outcome.{Outcome}
use Rattle.client_model.specs.declared.Outcome.TheVariants as said
use Rattle.client_model.proofs.Conveyed.{Holding, carried_all}
use Rattle.client_model.proofs.Getting.{Fetch, Stands, More, stands-sound, next-leads, part-gathers, wants, wish, Leads, more-first}
use Rattle.server.specs.declared.End.{End as ServerEnd}
use Rattle.server.specs.declared.Outcome.{Outcome as ServerOutcome}
use Rattle.server.specs.declared.Outcome.TheVariants as told
use Rattle.model.specs.Dispatch.{busy}
use Rattle.model.proofs.ServerPut.{Refuses}
use Rattle.link.specs.Link.{Link, link_with, offerDown, closeDown, said_after, client_did, close_after, move}
use Rattle.link.specs.Told.{is_accepted, is_whole, is_success_byte, reply_part, body_in, part_said, part_by_of}
use Rattle.link.proofs.Moves.{or_false}
use Rattle.link.proofs.ClientCalls.{passes}
use Rattle.link.proofs.ClientMoves.{packet-kept}
use Rattle.link.proofs.ServerMoves.{carried-more}
use Rattle.link.proofs.GetHeard.{GetHeard, get_heard, heard_calls, get_heard_after, silent, or_none_lem, or_joined-none}
use Rattle.link.proofs.GetObject.{Down, down-short, Thing, thing_record, thing-carried}
use Rattle.link.proofs.GetJoint.{Origin, box_of, is_admitted, Lost, Rest, Early, Story, Once, Stage, requesting, receiving, aborting, held, Answered, Due, is_waiting, is_requesting, is_first, on_after, Gathers, Prefix, sending, Means, goes_on, refuses, answers, more, whole, fails, stopped, Finished, Large, GetJoint, turn, handing, last-part, coming, streaming, both-ended, GetNext, goes as goes_on_of, over as is_over}
use Rattle.link.proofs.GetClientMoves.{finished_done, finished_aborted, rests, abort_sends, stops-waiting, due-sound, answered_as}

-- ---- a part

-- with a part more
abbrev pub with_part : GetHeard → Record → GetHeard
with_part h r = get_heard h.asked h.answer h.object h.last (joined h.parts r) h.aborted

pub heard-part : (h : GetHeard) (r : Record) → heard_calls h [] h.last r false ≡ with_part h r
heard-part h r =
    λ i. get_heard (append-nil h.asked i) (or_none_lem h.answer i) (or_joined-none h.object i) h.last (joined h.parts r)
    (or_false h.aborted i)

-- what is gathered of a response is handed on
pub part-said : (g : Gathering) (c : Record) (p q : List ℕ) → PutAgrees 65535 g c → g.got.over ≡ false
    → part_said (said.Part g.got.kept (part_body g.got)) (stores p g.headers g.body q) ≡ c
part-said g c p q w e =
    λ i. record { headers = sym w.headers i; body = (go g.got.came ∙ sym (w.body e).1) i }
  where
    go : (t : Bool) → body_in (pick t (Some g.got.body) None) g.body ≡ pick t (some (take g.got.body g.body)) none
    go true = refl
    go false = refl

-- the stores with what was gathered
pub gathered_kept : (s : Stores) (h b : List ℕ) → short s ≡ false → 65535 ≤ length h → 65535 ≤ length b
    → short (stores s.packet h b s.request) ≡ false
unfolding short
gathered_kept s h b e u v =
    go (ltb (length s.packet) 65535) (ltb (length s.headers) 65535) (ltb (length s.body) 65535) (ltb (length s.request) 65535) e
    (le-ltb (length h) 65535 u) (le-ltb (length b) 65535 v)
  where
    go : (p x y q : Bool) → (p || (x || (y || q))) ≡ false → ltb (length h) 65535 ≡ false → ltb (length b) 65535 ≡ false
        → (p || (ltb (length h) 65535 || (ltb (length b) 65535 || q))) ≡ false
    go true x y q e f g = e
    go false true y q e f g = absurd (true≢false e)
    go false false true q e f g = absurd (true≢false e)
    go false false false q e f g = rw (f, g) e

-- ---- what a success tells

-- an object that was sent to its end
success-byte : (b : Option ℕ) → b ≡ some (sent_code 0x20) → is_success_byte b ≡ true
success-byte b e = ap is_success_byte e

failed_byte : (b : Option ℕ) → b ≡ some (sent_code 0x50) → is_success_byte b ≡ false
failed_byte b e = ap is_success_byte e

not-waiting : (st : Stage) (on initial : Bool) → st ≡ requesting on initial false → is_waiting st ≡ true → false ≡ true
not-waiting st on initial e w = sym (ap is_waiting e) ∙ w

not_aborting : (st : Stage) → st ≡ aborting → is_waiting st ≡ true → false ≡ true
not_aborting st e w = sym (ap is_waiting e) ∙ w

is_success_lem : (is_success 0x20 ≡ true) × (is_success 0x50 ≡ false)
unfolding is_success
is_success_lem = (refl, refl)

pub held-waiting : (st : Stage) (flag : Bool) → is_waiting st ≡ true → held st flag ≡ flag
held-waiting (requesting on initial last) flag w = refl
held-waiting (receiving on) flag w = refl
held-waiting aborting flag w = absurd (false≢true w)

held_requesting : (st : Stage) (flag : Bool) → is_requesting st ≡ true → held st flag ≡ flag
held_requesting (requesting on initial last) flag w = refl
held_requesting (receiving on) flag w = absurd (false≢true w)
held_requesting aborting flag w = absurd (false≢true w)

-- ---- the response

module _ (j : Fetch) (o : Origin) (h : GetHeard) (l : Link) (st : Stage) (flag : Bool) (sent : List (List ℕ)) (y : List ℕ) (code : ℕ)
    (x : List Header) (due : Due st flag j sent h l.client l.stores l.said) (dn : Down y code x)
    (mean : Means j o st sent code x l.server h) (r : Rest o l.server l.told l.up) (hl : h.last ≡ some (sent_code code)) where
  -- the client once the response has come, in the packet store `p`
  abbrev came_client : Client
  came_client = arrived l.client (length y)

  abbrev came_stores : List ℕ → Stores
  came_stores p = with_packet l.stores p

  abbrev response : ResponsePacket
  response = record { code = code; final = dn.final; bytes = y; headers = x }

  -- what follows, and what is heard of it
  abbrev came_link : Done → Link
  came_link d = link_with d.client d.stores (said_after l.said d.outcome) l.server l.told l.up []

  abbrev came_heard : Done → GetHeard
  came_heard d = heard_calls h [] h.last (part_said d.outcome d.stores) false

  -- nothing is handed on once the user has aborted
  abbrev Follows : Done → Type 0
  Follows d = GetNext j o (came_heard d) (came_link d) × (flag ≡ true → part_said d.outcome d.stores ≡ bare)

  module _ (p : List ℕ) (le : length p ≡ length l.stores.packet) where
    came-stands : Stands j (held st flag) came_client (came_stores p)
    unfolding client_with
    came-stands =
        let k = due.stands in
        record {
          room = packet-kept l.stores p k.room le;
          begun = omega arith;
          latest = dn.whole.most;
          settings = k.settings;
          remote = k.remote;
          id = k.id;
          aborting = k.aborting;
        }

    -- the Get is over
    came-done : busy l.server.engine.operation ≡ false → Finished j o h (said.Done code (length y))
        → Follows (over came_client (said.Done code (length y)) (came_stores p))
    came-done i fin = (
      subst (λ (z : GetHeard). GetNext j o z (came_link (over came_client (said.Done code (length y)) (came_stores p)))) (sym (silent h))
          (is_over fin (rests j o (held st flag) came_client (came_stores p) (said.Done code (length y)) l.server l.told l.up [] came-stands r i
          refl)),
      λ q. refl,
    )

    came-aborted : busy l.server.engine.operation ≡ false → Finished j o h (said.Aborted code (length y))
        → Follows (over came_client (said.Aborted code (length y)) (came_stores p))
    came-aborted i fin = (
      subst (λ (z : GetHeard). GetNext j o z (came_link (over came_client (said.Aborted code (length y)) (came_stores p)))) (sym (silent h))
          (is_over fin (rests j o (held st flag) came_client (came_stores p) (said.Aborted code (length y)) l.server l.told l.up [] came-stands r
          i refl)),
      λ q. refl,
    )

    -- by whether the user has aborted
    came-over : (f : Bool) → held st flag ≡ f → flag ≡ f → busy l.server.engine.operation ≡ false → eqb code 0x10 ≡ false → Once j h
        → (f ≡ false → Finished j o h (said.Done code (length y))) → Follows (over came_client (ended came_client response) (came_stores p))
    unfolding client_with
    came-over true e q i nc on fin =
        let a : l.client.aborting ≡ true = due.stands.aborting ∙ e in
        subst (λ (t : Bool). Follows (over came_client (pick t (said.Aborted code (length y)) (said.Done code (length y))) (came_stores p))) (sym a)
        (came-aborted i (finished_aborted j o h code (length y) hl nc on (due.aborted ∙ q)))
    came-over false e q i nc on fin =
        let a : l.client.aborting ≡ false = due.stands.aborting ∙ e in
        subst (λ (t : Bool). Follows (over came_client (pick t (said.Aborted code (length y)) (said.Done code (length y))) (came_stores p))) (sym a)
        (came-done i (fin refl))

    -- the Abort goes next
    came_abort : flag ≡ true → Once j h → Follows (sends_abort came_client (came_stores p))
    unfolding client_with
    came_abort q on =
        subst Follows (sym (abort_sends came_client (came_stores p) j.id due.stands.id)) (
          (goes_on_of (subst (λ (z : GetHeard). GetJoint j o z (came_link
              (Rattle.client_model.specs.Step.sends came_client Aborting (Rattle.client_model.proofs.Getting.abort_bytes j.id) (came_stores p))))
              (sym (silent h))
              (stops-waiting j o h (held st flag) came_client (came_stores p) l.said l.server l.told l.up [] came-stands r refl on
              (due.aborted ∙ q)))),
          λ z. refl,
        )

    -- a part is handed on
    came-gathers : PutAgrees 65535 (gathers response (came_stores p)) (carried_by x) × ((gathers response (came_stores p)).got.over ≡ false)
    came-gathers = part-gathers response (came_stores p) came-stands.room (down-short y code x dn)

    abbrev part_done : Bool → Bool → Done
    part_done on last = parts came_client on last code (gathers response (came_stores p)) (came_stores p)

    part-stands : (on last : Bool) → Stands j false (part_done on last).client (part_done on last).stores
    unfolding client_with
    part-stands on last =
        let k = came-stands in
        let w = came-gathers.0 in
        let g = gathers response (came_stores p) in
        record {
          room = gathered_kept (came_stores p) g.headers g.body k.room w.room w.body-room;
          begun = omega arith;
          latest = dn.whole.most;
          settings = k.settings;
          remote = k.remote;
          id = k.id;
          aborting = refl;
        }

    part-heard : (on last : Bool) → came_heard (part_done on last) ≡ with_part h (carried_by x)
    part-heard on last =
        let g = gathers response (came_stores p) in
        ap (λ (c : Record). heard_calls h [] h.last c false) (part-said g (carried_by x) p l.stores.request came-gathers.0 came-gathers.1)
        ∙ heard-part h (carried_by x)

    came-more : (t : Thing (box_of o)) (out : List (List ℕ)) (d : List ℕ) (zs : List (List Header))
        → Rattle.link.proofs.GetObject.Sends (box_of o) t out d l.server
        → t.on ≡ false → Holding out (zs ++ (x ∷ [])) → Story j (box_of o) t d zs h → flag ≡ false → Follows (part_done false false)
    unfolding client_with
    came-more t out d zs s off hold' w q =
        let ab = due.aborted ∙ q in (
          subst (λ (z : GetHeard). GetNext j o z (came_link (part_done false false))) (sym (part-heard false false))
              (goes_on_of (handing t out d (zs ++ (x ∷ [])) code (gathers response (came_stores p)).got.kept (part_body (gathers response (came_stores p)).got)
              off (part-stands false false) refl refl refl refl r s refl hold'
              (record {
                asked = w.asked;
                answer = w.answer;
                object = w.object;
                parts = λ a. ap (λ (c : Record). joined c (carried_by x)) (w.parts ab) ∙ carried-more zs x;
              })
              ab)),
          λ z. absurd (true≢false (sym z ∙ q)),
        )

    came-last : (on : Bool) → flag ≡ false → busy l.server.engine.operation ≡ false → ((n : ℕ) → Finished j o (with_part h (carried_by x)) (said.Done code n))
        → Follows (part_done on true)
    unfolding client_with
    came-last on q i fin = (
      subst (λ (z : GetHeard). GetNext j o z (came_link (part_done on true))) (sym (part-heard on true))
          (goes_on_of (last-part on code (gathers response (came_stores p)).got.kept (part_body (gathers response (came_stores p)).got) (part-stands on true) refl
          refl refl refl r i refl fin)),
      λ z. absurd (true≢false (sym z ∙ q)),
    )

    -- ---- a final code

    -- one that fails
    last_fails : (on f : Bool) → held st flag ≡ f → flag ≡ f → busy l.server.engine.operation ≡ false → eqb code 0x10 ≡ false
        → is_success code ≡ false → Once j h
        → (f ≡ false → Finished j o h (said.Done code (length y))) → Follows (received_last came_client on response (came_stores p))
    last_fails srm f e q i nc nu on fin =
        subst (λ (t : Bool). Follows (pick (not t || came_client.aborting) (over came_client (ended came_client response) (came_stores p))
        (part_done srm true))) (sym nu)
        (came-over f e q i nc on fin)

    -- one that succeeds
    last_goes : (on f : Bool) → held st flag ≡ f → flag ≡ f → busy l.server.engine.operation ≡ false → eqb code 0x10 ≡ false → is_success code ≡ true
        → Once j h
        → (f ≡ false → (n : ℕ) → Finished j o (with_part h (carried_by x)) (said.Done code n)) → Follows
        (received_last came_client on response (came_stores p))
    unfolding client_with
    last_goes srm true e q i nc su on fin =
        let a : l.client.aborting ≡ true = due.stands.aborting ∙ e in
        subst₂ (λ (t u : Bool). Follows (pick (not t || u) (over came_client (ended came_client response) (came_stores p)) (part_done srm true))) (sym su)
        (sym a)
        (came-over true e q i nc on (λ z. absurd (true≢false z)))
    last_goes srm false e q i nc su on fin =
        let a : l.client.aborting ≡ false = due.stands.aborting ∙ e in
        subst₂ (λ (t u : Bool). Follows (pick (not t || u) (over came_client (ended came_client response) (came_stores p)) (part_done srm true))) (sym su)
        (sym a)
        (came-last srm q i (fin refl))

    -- the Get is refused
    came_refused : (on : Bool) → is_requesting st ≡ true → is_admitted o j.id ≡ false → Refuses code → busy l.server.engine.operation ≡ false → Early h
        → Follows (received_last came_client on response (came_stores p))
    came_refused srm w na v i ea =
        last_fails srm flag (held_requesting st flag w) refl i v.final v.fails (inr ea.asked)
        (λ q. finished_done j o h code (length y) hl v.final (due.aborted ∙ q) (inr ea.asked) (λ a. absurd (true≢false (sym a ∙ na)))
        (v.fails ∙ sym (ap (λ (b : Option Record). is_whole b h.last || is_accepted (box_of o) h.answer) ea.object ∙ ap (is_accepted (box_of o))
        ea.answer))
        (λ b. absurd (false≢true (sym (ap (λ (b : Option Record). is_whole b h.last) ea.object) ∙ b)))
        (λ b. absurd (false≢true (sym (ap (is_accepted (box_of o)) ea.answer) ∙ b))))

    -- the host has answered with a reply
    came-answer : (on : Bool) → is_waiting st ≡ true → eqb code 0x10 ≡ false → busy l.server.engine.operation ≡ false → h.asked ≡ wish j ∷ []
        → h.object ≡ none → h.parts ≡ bare
        → is_success code ≡ is_accepted (box_of o) h.answer → (is_success code ≡ true → carried_by x ≡ reply_part h.answer)
        → (t : Bool) → is_success code ≡ t → Follows (received_last came_client on response (came_stores p))
    came-answer srm w nc i on ob pa ok ca true su =
        last_goes srm flag (held-waiting st flag w) refl i nc su (inl on)
        (λ q n. finished_done j o (with_part h (carried_by x)) code n hl nc (due.aborted ∙ q) (inl on) (λ a b. on)
        (ok ∙ sym (ap (λ (b : Option Record). is_whole b h.last || is_accepted (box_of o) h.answer) ob))
        (λ b. absurd (false≢true (sym (ap (λ (b : Option Record). is_whole b h.last) ob) ∙ b)))
        (λ b. ap (λ (c : Record). joined c (carried_by x)) pa ∙ ca su))
    came-answer srm w nc i on ob pa ok ca false nu =
        last_fails srm flag (held-waiting st flag w) refl i nc nu (inl on)
        (λ q. finished_done j o h code (length y) hl nc (due.aborted ∙ q) (inl on) (λ a b. on)
        (ok ∙ sym (ap (λ (b : Option Record). is_whole b h.last || is_accepted (box_of o) h.answer) ob))
        (λ b. absurd (false≢true (sym (ap (λ (b : Option Record). is_whole b h.last) ob) ∙ b)))
        (λ b. absurd (false≢true (sym (sym ok ∙ nu) ∙ b))))

    -- the object was sent to its end
    came-whole : (on : Bool) (t : Thing (box_of o)) (d : List ℕ) (zs : List (List Header)) → is_waiting st ≡ true → code ≡ 0x20
        → busy l.server.engine.operation ≡ false
        → carried_all (zs ++ (x ∷ [])) ≡ thing_record (box_of o) t d → Story j (box_of o) t d zs h → Follows
        (received_last came_client on response (came_stores p))
    came-whole srm t d zs w e i ca s =
        let su : is_success code ≡ true = ap is_success e ∙ is_success_lem.0 in
        let nc : eqb code 0x10 ≡ false = ap (λ (n : ℕ). eqb n 0x10) e in
        let wh : is_whole h.object h.last ≡ true =
        ap (λ (b : Option Record). is_whole b h.last) s.object ∙ success-byte h.last (hl ∙ ap (λ (n : ℕ). some (sent_code n)) e) in
        last_goes srm flag (held-waiting st flag w) refl i nc su (inl s.asked)
        (λ q n. finished_done j o (with_part h (carried_by x)) code n hl nc (due.aborted ∙ q) (inl s.asked) (λ a b. s.asked)
        (su ∙ sym (ap (λ (t : Bool). t || is_accepted (box_of o) h.answer) wh))
        (λ b. s.object ∙ ap (λ (c : Record). some c) (sym ca ∙ sym (carried-more zs x) ∙ ap (λ (c : Record). joined c (carried_by x))
        (sym (s.parts (due.aborted ∙ q)))))
        (λ b. absurd (false≢true (sym (ap (is_accepted (box_of o)) s.answer) ∙ b))))

    -- it cannot be sent on
    came_failed : (on : Bool) (t : Thing (box_of o)) (d : List ℕ) (zs : List (List Header)) → is_waiting st ≡ true → code ≡ 0x50
        → busy l.server.engine.operation ≡ false
        → Story j (box_of o) t d zs h → Follows (received_last came_client on response (came_stores p))
    came_failed srm t d zs w e i s =
        let no : is_success code ≡ false = ap is_success e ∙ is_success_lem.1 in
        let nc : eqb code 0x10 ≡ false = ap (λ (n : ℕ). eqb n 0x10) e in
        let wh : is_whole h.object h.last ≡ false =
        ap (λ (b : Option Record). is_whole b h.last) s.object ∙ failed_byte h.last (hl ∙ ap (λ (n : ℕ). some (sent_code n)) e) in
        last_fails srm flag (held-waiting st flag w) refl i nc no (inl s.asked)
        (λ q. finished_done j o h code (length y) hl nc (due.aborted ∙ q) (inl s.asked) (λ a b. s.asked)
        (no ∙ sym (ap (λ (t : Bool). t || is_accepted (box_of o) h.answer) wh ∙ ap (is_accepted (box_of o)) s.answer))
        (λ b. absurd (false≢true (sym wh ∙ b)))
        (λ b. absurd (false≢true (sym (ap (is_accepted (box_of o)) s.answer) ∙ b))))

    -- ---- by what is awaited

    is_last : (on : Bool) → eqb code 0x10 ≡ false → received came_client on response (came_stores p) ≡ received_last came_client on response (came_stores p)
    unfolding received
    is_last on e =
        ap (λ (t : Bool). pick t (received_more came_client on response (came_stores p)) (received_last came_client on response (came_stores p))) e

    is_more_lem : (on : Bool) → eqb code 0x10 ≡ true → received came_client on response (came_stores p) ≡ received_more came_client on response (came_stores p)
    unfolding received
    is_more_lem on e =
        ap (λ (t : Bool). pick t (received_more came_client on response (came_stores p)) (received_last came_client on response (came_stores p))) e

    part_by : (f : Bool) → held st flag ≡ f → flag ≡ f → (t : Thing (box_of o)) (out : List (List ℕ)) (d : List ℕ) (zs : List (List Header))
        → Rattle.link.proofs.GetObject.Sends (box_of o) t out d l.server → t.on ≡ false → Holding out (zs ++ (x ∷ []))
        → Story j (box_of o) t d zs h → Follows (received_more came_client false response (came_stores p))
    unfolding client_with
    part_by true e q t out d zs s off hold' w =
        let a : l.client.aborting ≡ true = due.stands.aborting ∙ e in
        subst (λ (u : Bool). Follows (pick u (sends_abort came_client (came_stores p)) (part_done false false))) (sym a) (came_abort q (inl w.asked))
    part_by false e q t out d zs s off hold' w =
        let a : l.client.aborting ≡ false = due.stands.aborting ∙ e in
        subst (λ (u : Bool). Follows (pick u (sends_abort came_client (came_stores p)) (part_done false false))) (sym a)
        (came-more t out d zs s off hold' w q)

    -- all of the request was sent
    came-received : is_waiting st ≡ true → (on : Bool) → on_after j st x ≡ on → Follows (received came_client on response (came_stores p))
    came-received w on oe = by mean
      where
        by : Means j o st sent code x l.server h → Follows (received came_client on response (came_stores p))
        by (goes_on initial granted xs e c ge hd g ea) = absurd (false≢true (not-waiting st false initial e w))
        by (refuses e na v i ea) = subst Follows (sym (is_last on v.final)) (came_refused on e na v i ea)
        by (answers on' initial e nc i asked ob pa ok ca) =
            subst Follows (sym (is_last on nc)) (came-answer on w nc i asked ob pa ok ca (is_success code) refl)
        by (more t out d zs e off after c s hold' v) =
            subst (λ (u : Bool). Follows (received came_client u response (came_stores p))) (sym after ∙ oe)
            (subst Follows (sym (is_more_lem false (ap (λ (n : ℕ). eqb n 0x10) c))) (part_by flag (held-waiting st flag w) refl t out d zs s off hold' v))
        by (whole t out d zs e c i q hold' v) =
            subst Follows (sym (is_last on (ap (λ (n : ℕ). eqb n 0x10) c)))
            (came-whole on t d zs w c i (thing-carried (box_of o) t out d (zs ++ (x ∷ [])) q hold') v)
        by (fails t d zs e c i v) = subst Follows (sym (is_last on (ap (λ (n : ℕ). eqb n 0x10) c))) (came_failed on t d zs w c i v)
        by (stopped e c i on) = absurd (false≢true (not_aborting st e w))

    -- the next packet of the request, by whether SRM is on
    came-turn : (granted : Bool) (xs : List (List Header)) (z : Done) → Leads j granted sent z → Prefix j sent → Holding sent xs
        → Gathers granted l.server xs → Early h → h.aborted ≡ false
        → GetJoint j o h (link_with z.client z.stores z.outcome l.server l.told l.up [])
    came-turn false xs z v first hold g ea ab = turn sent xs hold v.stands v.waits v.begun r g refl ea ab
    came-turn true xs z v first hold g ea ab =
        streaming sent xs [] [] (sending v.stands v.waits ab) v.begun first
        (subst (λ (y : List (List Header)). Holding sent y) (sym (append-nil xs)) hold) tt
        (record { stays = r.stays; awaits = r.awaits; told = r.told }) g (r.up, r.none-begun) refl ea

    -- the request goes on
    came-next : (f : Bool) → flag ≡ f → (initial granted : Bool) → st ≡ requesting false initial false → on_after j st x ≡ granted
        → (xs : List (List Header)) → Holding sent xs → (a : More j false initial sent l.client l.stores)
        → Gathers granted l.server xs → Early h
        → Follows (continued kind.Get came_client a.rest.outgoing false initial response (came_stores p))
    unfolding client_with
    came-next true q initial granted e ge xs hold a g ea =
        let b : l.client.aborting ≡ true = due.stands.aborting ∙ ap (λ (z : Stage). held z flag) e ∙ q in
        subst (λ (u : Bool). Follows (pick u (sends_abort came_client (came_stores p))
        (requests_next came_client kind.Get (false || grants came_client initial response) false a.rest.outgoing (came_stores p))))
        (sym b) (came_abort q (inr ea.asked))
    came-next false q initial granted e ge xs hold a g ea =
        let b : l.client.aborting ≡ false = due.stands.aborting ∙ ap (λ (z : Stage). held z flag) e ∙ q in
        let n : grants came_client initial response ≡ granted = ap
        (λ (t : Settings). t.srm_wanted && (initial && Rattle.journal.specs.Journal.is_enable (Rattle.packet.specs.Header.first 0x97 x)))
        due.stands.settings ∙ ap (λ (z : Stage). on_after j z x) (sym e) ∙ ge in
        let a' = answered_as (requesting false initial false) j sent l.client came_client l.stores (came_stores p) refl refl a in
        let v = next-leads j granted sent (held st flag) came_client (came_stores p) came-stands a'.rest in
        let d = requests_next came_client kind.Get granted false a.rest.outgoing (came_stores p) in
        let e' : said_after l.said d.outcome ≡ d.outcome = ap (said_after l.said) v.waits.said ∙ sym v.waits.said in
        let z : part_said d.outcome d.stores ≡ bare = ap (λ (u : Outcome). part_said u d.stores) v.waits.said in
        subst₂ (λ (u w : Bool). Follows (pick u (sends_abort came_client (came_stores p))
        (requests_next came_client kind.Get (false || w) false a.rest.outgoing (came_stores p))))
        (sym b) (sym n) (
          (goes_on_of (subst₂ (λ (u : GetHeard) (w : Outcome). GetJoint j o u (link_with d.client d.stores w l.server l.told l.up []))
              (sym (ap (λ (c : Record). heard_calls h [] h.last c false) z ∙ silent h)) (sym e')
              (came-turn granted xs d v (more-first j sent l.stores a.rest) hold g ea (due.aborted ∙ q)))),
          λ u. z,
        )

    came-requested : (on initial : Bool) → st ≡ requesting on initial false → (a : More j on initial sent l.client l.stores)
        → Follows (request_answered kind.Get came_client a.rest.outgoing false initial false response (came_stores p))
    came-requested on initial e a = by mean
      where
        choose : (t : Bool) → eqb code 0x10 ≡ t
            → Follows (pick t (continued kind.Get came_client a.rest.outgoing false initial response (came_stores p))
            (received_last came_client false response (came_stores p)))
            → Follows (request_answered kind.Get came_client a.rest.outgoing false initial false response (came_stores p))
        choose t q f =
            subst (λ (u : Bool). Follows (pick u (continued kind.Get came_client a.rest.outgoing false initial response (came_stores p))
            (received_last came_client false response (came_stores p)))) (sym q) f

        no : is_waiting st ≡ true → false ≡ true
        no w = not-waiting st on initial e w

        same : (i : Bool) → st ≡ requesting false i false → i ≡ initial
        same i q = let z = sym q ∙ e in ap is_first z

        by : Means j o st sent code x l.server h
            → Follows (request_answered kind.Get came_client a.rest.outgoing false initial false response (came_stores p))
        by (goes_on i granted xs q c ge hd g ea) =
            choose true (ap (λ (n : ℕ). eqb n 0x10) c)
            (came-next flag refl initial granted (q ∙ ap (λ (t : Bool). requesting false t false) (same i q)) ge xs hd
            (record { single = refl; rest = a.rest; operation = a.operation }) g ea)
        by (refuses i na v b ea) = choose false v.final (came_refused false i na v b ea)
        by (answers on' i' i nc b asked ob pa ok ca) = absurd (false≢true (sym (ap is_waiting e) ∙ ap is_waiting i))
        by (more t out d zs i off after c s hold' v) = absurd (false≢true (no i))
        by (whole t out d zs i c b q hold' v) = absurd (false≢true (no i))
        by (fails t d zs i c b v) = absurd (false≢true (no i))
        by (stopped i c b on) = absurd (false≢true (ap is_requesting (sym i ∙ e)))

    -- the Abort is acknowledged
    came-stopped : st ≡ aborting → Follows (over came_client (said.Aborted code (length y)) (came_stores p))
    came-stopped e = by mean
      where
        by : Means j o st sent code x l.server h → Follows (over came_client (said.Aborted code (length y)) (came_stores p))
        by (goes_on i' granted xs i c ge hd g ea) = absurd (false≢true (ap is_requesting (sym e ∙ i)))
        by (refuses i na v b ea) = absurd (false≢true (sym (ap is_requesting e) ∙ i))
        by (answers on i' i nc b asked ob pa ok ca) = absurd (false≢true (ap is_requesting (sym e ∙ i)))
        by (more t out d zs i off after c s hold' v) = absurd (false≢true (sym (ap is_waiting e) ∙ i))
        by (whole t out d zs i c b q hold' v) = absurd (false≢true (sym (ap is_waiting e) ∙ i))
        by (fails t d zs i c b v) = absurd (false≢true (sym (ap is_waiting e) ∙ i))
        by (stopped i c b on) =
            came-aborted b (finished_aborted j o h code (length y) hl (ap (λ (n : ℕ). eqb n 0x10) c) on
            (due.aborted ∙ subst (λ (z : Stage). Rattle.link.proofs.GetJoint.flagged z flag) e due.only))

    came_by_lem : (z : Stage) → st ≡ z → Answered z j sent l.client l.stores
        → Follows (responded l.client.operation came_client response (came_stores p))
    unfolding client_with
    came_by_lem (requesting on initial true) e a =
        let n : (on || grants came_client initial response) ≡ on_after j st x = ap
        (λ (t : Settings). on || (t.srm_wanted && (initial && Rattle.journal.specs.Journal.is_enable (Rattle.packet.specs.Header.first 0x97 x))))
        due.stands.settings ∙ ap (λ (z : Stage). on_after j z x) (sym e) in
        subst (λ (u : Operation). Follows (responded u came_client response (came_stores p))) (sym a.operation)
        (subst (λ (t : Bool). Follows (received came_client t response (came_stores p))) (sym n) (came-received (ap is_waiting e) (on_after j st x) refl))
    came_by_lem (requesting on initial false) e a =
        subst (λ (u : Operation). Follows (responded u came_client response (came_stores p))) (sym a.operation) (came-requested on initial e a)
    came_by_lem (receiving on) e a =
        subst (λ (u : Operation). Follows (responded u came_client response (came_stores p))) (sym a.1)
        (came-received (ap is_waiting e) on (ap (λ (z : Stage). on_after j z x) e ∙ same_on on (wants j)))
      where
        same_on : (t u : Bool) → (t || (u && false)) ≡ t
        same_on true u = refl
        same_on false true = refl
        same_on false false = refl
    came_by_lem aborting e a = subst (λ (u : Operation). Follows (responded u came_client response (came_stores p))) (sym a) (came-stopped e)

  -- the response as the client reads it
  response-done : (p : List ℕ) → take (length y) p ≡ y
      → response_done l.client (length y) (came_stores p) ≡ responded l.client.operation came_client response (came_stores p)
  unfolding response_done client_with
  response-done p e =
      let v = due-sound st j sent l.client l.stores due.answered in
      ap (λ (t : Bool). read_as (response_packet t (take (length y) p)) came_client (came_stores p)) (ap is_connecting v.1 ∙ v.3)
      ∙ ap (λ (q : List ℕ). read_as (response_packet false q) came_client (came_stores p)) e
      ∙ ap (λ (u : Option ResponsePacket). read_as u came_client (came_stores p)) dn.reads

  -- bytes of it are offered
  bytes-step : (i : List ℕ) → bytes_offered_step l.client i l.stores ≡ offers l.client (framed l.stores.packet l.client.begun 0 i)
      l.stores
  unfolding bytes_offered_step
  bytes-step i =
      let v = due-sound st j sent l.client l.stores due.answered in
      passes l.client l.stores (awaiting l.client await.Bytes)
      (offers l.client (framed l.stores.packet l.client.begun 0 i) l.stores) due.stands.room
      (stands-sound j (held st flag) l.client l.stores due.stands (ap sound_operation v.1 ∙ v.2))
      (ap (λ (x : Await). same_await x await.Bytes) due.awaits)

  abbrev Offered : Stepped → Type 0
  Offered m =
      GetNext j o (heard_calls h [] h.last (part_said m.took.outcome m.stores) false)
      (client_did l m l.up (drop m.took.taken l.down))
      × (flag ≡ true → part_said m.took.outcome m.stores ≡ bare)

  came : (n : ℕ) (f : Frames) → Half y l.stores.packet l.down l.client.begun
      → Came y l.stores.packet l.down l.client.begun 0 n f
      → Offered (offers l.client f l.stores)
  unfolding client_with
  came n f half (stillGoes p lt e w le) =
      let z : 0 + n ≡ n = omega arith in
      let k = due.stands in
      subst (λ (g : Frames). Offered (offers l.client g l.stores)) (sym e) (
        (subst₂ (λ (u : GetHeard) (m : ℕ). GetNext j o u (link_with (begun_with l.client (l.client.begun + n)) (came_stores p) said.WantsBytes
            l.server l.told l.up (drop m l.down)))
            (sym (silent h)) (sym z)
            (goes_on_of (coming st flag sent y code x
            (record {
              stands =
                  record {
                    room = packet-kept l.stores p k.room le;
                    begun = omega (arith, w.count, w.more, w.whole.most);
                    latest = k.latest;
                    settings = k.settings;
                    remote = k.remote;
                    id = k.id;
                    aborting = k.aborting;
                  };
              answered = answered_as st j sent l.client (begun_with l.client (l.client.begun + n)) l.stores (came_stores p) refl refl
                  due.answered;
              awaits = due.awaits;
              said = refl;
              aborted = due.aborted;
              only = due.only;
            })
            dn mean r w hl))),
        λ q. refl,
      )
  came n f half (comes p ge e w le) =
      let u : 0 + length l.down ≡ length l.down = omega arith in
      let z : drop (0 + length l.down) l.down ≡ [] = ap (λ (m : ℕ). drop m l.down) u ∙ drop-length l.down in
      subst (λ (g : Frames). Offered (offers l.client g l.stores)) (sym e)
      (subst₂ (λ (d : Done) (q : List ℕ). GetNext j o (came_heard d)
      (link_with d.client d.stores (said_after l.said d.outcome) l.server l.told l.up q)
      × (flag ≡ true → part_said d.outcome d.stores ≡ bare))
      (sym (response-done p w)) (sym z) (came_by_lem p le st refl due.answered))

  offered-down : Half y l.stores.packet l.down l.client.begun → (n : ℕ)
      → Offered (bytes_offered_step l.client (take n l.down) l.stores)
  offered-down half n =
      let i = take n l.down in
      let e : take n (l.down ++ []) ≡ i = ap (take n) (append-nil l.down) in
      subst Offered (sym (bytes-step i))
      (came n (framed l.stores.packet l.client.begun 0 i) half
      (subst (λ (q : List ℕ). Came y l.stores.packet l.down l.client.begun 0 n (framed l.stores.packet l.client.begun 0 q)) e
      (queued l.down y l.stores.packet [] l.client.begun 0 n half)))

  pub offer-down : Half y l.stores.packet l.down l.client.begun → (n : ℕ)
      → GetNext j o (get_heard_after h l (offerDown n)) (move l (offerDown n))
  unfolding move
  offer-down half n = (offered-down half n).0

  pub late-none : Half y l.stores.packet l.down l.client.begun → (n : ℕ) → flag ≡ true → part_by_of l (offerDown n) ≡ bare
  late-none half n q = (offered-down half n).1 q

-- ---- the server has ended

pub see_end : (j : Fetch) (o : Origin) (h : GetHeard) (l : Link) (st : Stage) (flag : Bool) (sent : List (List ℕ)) (x : ServerEnd)
    → Due st flag j sent h l.client l.stores l.said → l.client.begun ≡ 0 → l.told ≡ told.End x → Large x → l.down ≡ [] → Lost j h → h.object ≡ none
    → is_accepted (box_of o) h.answer ≡ false → GetNext j o (get_heard_after h l closeDown) (move l closeDown)
unfolding move stream_ended_step
see_end j o h l st flag sent x due b t lg dn on ob fa =
    let c = l.client in
    let s = l.stores in
    let k = due.stands in
    let v = due-sound st j sent c s due.answered in
    let a : (awaiting c await.Bytes || awaiting c await.Call) ≡ true = ap (λ (w : Await). same_await w await.Bytes || same_await w await.Call)
    due.awaits in
    let m = after 0 (ends c (pick (eqb c.begun 0) end.Disconnected end.Truncated) s) in
    let e : stream_ended_step c s ≡ m =
    passes c s (awaiting c await.Bytes || awaiting c await.Call) m k.room (stands-sound j (held st flag) c s k (ap sound_operation v.1 ∙ v.2)) a
    in
    let f : m ≡ after 0 (ends c end.Disconnected s) = ap (λ (n : ℕ). after 0 (ends c (pick (eqb n 0) end.Disconnected end.Truncated) s)) b in
    let g : close_after l.told l.down l ≡ client_did l (after 0 (ends c end.Disconnected s)) l.up l.down =
    ap (λ (u : ServerOutcome). close_after u l.down l) t ∙ ap (λ (q : List ℕ). close_after (told.End x) q l) dn
    ∙ ap (λ (w : Stepped). client_did l w l.up l.down) (e ∙ f) in
    subst₂ (λ (x : GetHeard) (y : Link). GetNext j o x y) (sym (silent h)) (sym g)
    (is_over (record {
      is_over_lem = refl;
      asked = once on;
      asks = λ a b c. by on c;
      success = λ a. sym (ap (λ (b : Option Record). is_whole b h.last || is_accepted (box_of o) h.answer) ob ∙ fa);
      object = λ a q. absurd (false≢true (sym (ap (λ (b : Option Record). is_whole b h.last) ob) ∙ q));
      reply = λ a q. absurd (false≢true (sym fa ∙ q));
      code = λ c e. let z : ◌≡◌ {A = ℕ} 0 1 = cc in absurd (omega arith);
      number = λ y e. let q : end.Disconnected ≡ y = cc in sym q;
      stops = λ c n e. let z : ◌≡◌ {A = ℕ} 0 1 = cc in absurd (omega arith);
      done = λ c n e. let z : ◌≡◌ {A = ℕ} 0 1 = cc in absurd (omega arith);
      never = λ c n e. let z : ◌≡◌ {A = ℕ} 0 1 = cc in absurd (omega arith);
    }) (both-ended x refl t lg))
  where
    once : Lost j h → Once j h
    once (inl e) = inl e
    once (inr e) = inr e.0

    by : Lost j h → length (wish j) ≤ 65535 → h.asked ≡ wish j ∷ []
    by (inl e) c = e
    by (inr e) c = absurd (omega (arith, e.1, c))
