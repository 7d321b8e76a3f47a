-- Each request names the Target that is due: by induction over a run, along the coupling of engine and journal. Between two calls the state's
-- Target is the one that `Naming` says, and each open id carries that of its latest opening (`Targeted`). A packet decides the Target anew, a
-- reply may open and close ids, and every other call hands all of it on (`Carries`). Assumes nothing.
use mathlib.Core.Path.{◌≡◌, refl, sym, ap, ap₂, ◌∙◌, subst}
use mathlib.Core.List.{List, [], ◌∷◌}
use mathlib.Core.Bool.{Bool, true, false, ◌&&◌, ◌||◌, not, true≢false, false≢true}
use mathlib.Core.Option.{Option, none, some}
use Prim.Native.Nat.{ℕ, zero, suc, ◌+◌, ◌-◌, ◌≤◌}
use native.Mathlib.Omega.{arith}
use lib.ListN.{length, get_or, take, drop, length-take}
use lib.Seq.{get_or-drop}
use lib.Dec.{ltb}
use Rattle.base.specs.Pick.{pick}
use Rattle.base.specs.Bytes.{be32}
use Rattle.base.specs.Place.{Place, Some, None}
use Rattle.digest.specs.declared.md5.Octets16.{Octets16}
use Rattle.packet.specs.Tags.{bytes_at}
use Rattle.packet.specs.FirstByte.{same_opcode, first_byte}
use Rattle.packet.specs.Codes.{is_success}
use Rattle.packet.specs.Header.{Header, read_headers, first, first_place, present}
use Rattle.packet.specs.Packet.{Request as Packet, prefix_of, request_with, request_by, request_of}
use Rattle.packet.specs.declared.opcode.FirstByte.{FirstByte}
use Rattle.std.specs.Prelude.{Option as Maybe}
use Rattle.packet.specs.declared.opcode.Opcode.{Opcode}
use Rattle.packet.specs.declared.opcode.Opcode.TheVariants as op
use Rattle.table.specs.Targets.{unnamed, target_bytes, place_of, target_at}
use Rattle.table.specs.Nonces.{remembered_with, remembered, among}
use Rattle.journal.specs.Ids.{member, without, without_all, all_open, repeats}
use Rattle.journal.specs.Checks.{Check}
use Rattle.journal.specs.Calls.{Call, bytes_offered_of, stream_ended_of, reply_taken_of, reply_given_of, object_given_of, body_given_of, body_failed_of, abort_acknowledged_of, password_given_of, nonce_given_of, credentials_given_of, connections_closed_of, Credentials, Verdict, goes, refused, Fed, step_by_of}
use Rattle.journal.specs.Journal.{Standing, Opened, nothing, trailing, putting, getting, sending, gathering, draining, busy as busyOpened, Journal, Entry, headers_of, Read, more, whole, short, read_up, unchanged, opens_for, leaves, disconnected, closes as closesIds, replied, journal_call, journal_step, list_of}
use Rattle.journal.specs.Naming.{Opening, Naming, unnamed as unnamedYet, target_of, under_id, packet_names, bytes_name, id_opened, opens_as, answer_names, naming_step, namings}
use Rattle.incoming.specs.Frame.{Frames, framed}
use Rattle.incoming.specs.Survey.{id_of, survey_of}
use Rattle.incoming.specs.declared.frame.Frame.{Frame}
use Rattle.incoming.specs.declared.frame.Frame.TheVariants.{More, Whole, Short}
use Rattle.outgoing.specs.Object.{body_given_of as givenBody}
use Rattle.connection.specs.Peer.{Linked, ids_of, opened_for, closed_tables, disconnected_peer}
use Rattle.server.specs.declared.Settings.{Settings}
use Rattle.server.specs.declared.Operation.{Operation}
use Rattle.server.specs.declared.Operation.TheVariants.{Nothing, Trailing, Putting, Getting, Sending, Gathering as GatheringOp, Connecting, Draining}
use Rattle.server.specs.declared.Await.{Await}
use Rattle.server.specs.declared.Await.TheVariants as await
use Rattle.server.specs.declared.CallKind.TheVariants as kind
use Rattle.server.specs.declared.End.TheVariants as why
use Rattle.server.specs.declared.Refusal.{Refusal}
use Rattle.server.specs.declared.Refusal.TheVariants as refusal
use Rattle.server.specs.declared.Engine.{Engine}
use Rattle.server.specs.declared.Outcome.{Outcome}
use Rattle.server.specs.declared.Outcome.TheVariants as outcome
use Rattle.model.specs.Step.{Stores, with_headers, engine_with, Done, Called, called, DoneTabled, done_tabled, ends, after, sends, sends_connect}
use Rattle.model.specs.Request.{last_packet, last_headers}
use Rattle.model.specs.Connect.{front_for, connect_opened, connect_answer, password_answer, nonce_answer}
use Rattle.model.specs.Object.{sends_packet, goes_on_of}
use Rattle.model.specs.Dispatch.{busy, is_marked, target_for, packet_target, arrived, packet_done}
use Rattle.model.specs.Guard.{sound, refuse, same_await, fits, bad_headers, bad_reply, checked, long_realm, long_user}
use Rattle.model.specs.Calls.{framed_as, with_packet, offers, started, object_for, body_for, credentials_with, reply_answer}
use Rattle.model.specs.Close.{Remaining, closed_all, refuse_closing, closes, close_checked}
use Rattle.model.specs.Runs.{State, keeps, beside, step_of, state_of, Performed, called_in, next, writing, Writes, lent_to, OffersOctets, Says, Ran, Started, seen}
use Rattle.model.specs.Refusals.{Known, at_start, verdict_of, learns, fed_by, feed_from}
use Rattle.model.specs.Theorem.{journal_of}
use Rattle.model.specs.ContractClaims.{state}
use Rattle.model.specs.Targets.{carries_mark, NamesDue, AllNamed, Targets, ContractsName}
use Rattle.packet.proofs.HeaderBytes.{Octets}
use Rattle.packet.proofs.HeaderLaws.{first-agrees}
use Rattle.table.proofs.Naming.{unnamed-bytes, remembered-targets}
use Rattle.journal.proofs.IdsSame.{refused-ids, step-ids, sent-ids}
use Rattle.incoming.proofs.Frames.{Agrees as Frames-agree, frames_agree}
use Rattle.connection.proofs.Carrying.{Carried, carried_none, carried-closed}
use Rattle.connection.proofs.Closing.{without_shorter, closed-front, closed-length}
use Rattle.connection.proofs.Openings.{Given, opened-carried, full-carried, disconnected-carried}
use Rattle.connection.proofs.Standings.{own_fits, opened-standing, full-standing}
use Rattle.model.proofs.Fit.{and_right, Shape, Seated, ids-room, nonces-room}
use Rattle.model.proofs.Coupling.{Held, AskedBy, Fixed, connects, CoupledAt, Coupled}
use Rattle.model.proofs.Packets.{busy-same}
use Rattle.model.proofs.Answers.{headers_are, replied-to, stood, srm as srm_granted, target, connected-is}
use Rattle.model.proofs.Moments.{same_await_lem, or_second, fed-goes, go_for, refuses, lacks_in, at_moment, step_is}
use Rattle.model.proofs.Records.{Between, between_on, fed_to, performed-agrees, between_next, start_between}
use Rattle.model.proofs.Contracts.{accepted-started}
use Rattle.model.proofs.Carries.{connecting, asks_marked, is_plain, Carries, leaf, sends-carries, connect_sends-carries, nonce-carries, packet-carries, next-carries, goes_on_carries, password-carries, answer-carries, marked_in, read-carries}

-- ---- the bytes of a header's value

octets-take : (n : ℕ) (l : List ℕ) → Octets l → Octets (take n l)
octets-take zero l o k = omega arith
octets-take (suc n) [] o k = omega arith
octets-take (suc n) (x ∷ l) o zero = o 0
octets-take (suc n) (x ∷ l) o (suc k) = octets-take n l (λ i. o (suc i)) k

octets_at : (p : List ℕ) (f : Place) → Octets p → Given (bytes_at p f)
octets_at p None o = tt
octets_at p (Some q) o = octets-take (q.end - q.start) (drop q.start p) (λ k. rw (get_or-drop q.start p k 0) (o (q.start + k)))

-- the headers of a packet of bytes have values of bytes
request-given : (p : List ℕ) (id : ℕ) → Octets p → Given (first id (headers_of (request_of p)))
unfolding request_of first
request-given p id o = go (first_byte (get_or p 0 0))
  where
    with_headers_lem : (c : Opcode) (f : Bool) (hs : Option (List Header)) → read_headers p (prefix_of c) ≡ hs
        → Given (first id (headers_of (request_with c f p hs)))
    with_headers_lem c f none i = tt
    with_headers_lem c f (some hs) i = subst Given (first-agrees id p (prefix_of c) hs i) (octets_at p (first_place id p (prefix_of c)) o)

    by : (b : Bool) (c : Opcode) (f : Bool) → Given (first id (headers_of (pick b none (request_with c f p (read_headers p (prefix_of c))))))
    by true c f = tt
    by false c f = with_headers_lem c f (read_headers p (prefix_of c)) refl

    go : (b : Maybe FirstByte) → Given (first id (headers_of (request_by b p)))
    go None = tt
    go (Some b) = by (ltb (length p) (prefix_of b.opcode)) b.opcode b.is_final

-- ---- between two calls

pub record Targeted (s : State) (j : Journal) (n : Naming) : Type 0 where
  pub target : target_bytes s.engine.target ≡ n.under
  -- while an answer about a Connect is awaited, the mark is due, and the packet is one of bytes
  pub marked : connecting s.engine.awaits ≡ true → n.under ≡ none
  pub octets : connecting s.engine.awaits ≡ true → Octets (take s.engine.length s.stores.packet)
  pub ids : Carried s.tables j.standing.ids n.openings

-- a call names what is due, and leaves all as it should be
pub record Names (m : Called) (j : Journal) (n : Naming) : Type 0 where
  pub due : NamesDue m.took.outcome m.took.engine.target n
  pub after : Targeted (state_of m) j n

-- ---- ids that are closed one after the other

carried-all : (l : List ℕ) (n : ℕ) (t : List ℕ) (os : List Opening) → n ≤ 64 → 320 ≤ length t → Carried t (take n t) os
    → Carried (closed_all l n t).tables (without_all l (take n t)) os
unfolding closed_all without_all
carried-all [] n t os f r c = c
carried-all (x ∷ l) n t os f r c =
    let m = length (without x (take n t)) in
    let u = closed_tables x n t in
    let e = closed-front x n t (omega arith) in
    let k : m ≤ 64 = omega (arith, without_shorter x (take n t), length-take n t) in
    subst (λ (i : List ℕ). Carried (closed_all l m u).tables (without_all l i) os) e
    (carried-all l m u os k (omega (arith, closed-length x n t (omega arith)))
    (subst (λ (i : List ℕ). Carried u i os) (sym e) (carried-closed x n t os f r c)))

-- ---- a step that hands the Target on

and_no : (a b : Bool) → b ≡ true → (a && not b) ≡ false
and_no true b i = ap not i
and_no false b i = refl

no_and : (a b : Bool) → a ≡ true → (not a && b) ≡ false
no_and a b i = ap (λ (t : Bool). not t && b) i

or_first : (a b : Bool) → (a || b) ≡ true → b ≡ false → a ≡ true
or_first true b i k = refl
or_first false b i k = absurd (true≢false (sym i ∙ k))

module _ (mk : Bool) (e : Engine) (st : Stores) (d : Done) (c : Carries mk e st d) (j : Journal) (n : Naming)
    (g : target_bytes e.target ≡ n.under) (m : mk ≡ true → n.under ≡ none) (o : mk ≡ true → Octets (take e.length st.packet)) where
  here : target_bytes d.engine.target ≡ n.under
  here = ap target_bytes c.target ∙ g

  due_by : (a : Await) (x : Outcome) → (mk || is_plain a x) ≡ true → NamesDue x d.engine.target n
  due_by a (outcome.Request r) p = go (carries_mark r) refl
    where
      go : (b : Bool) → carries_mark r ≡ b → target_bytes d.engine.target ≡ pick b none n.under
      go true i = here ∙ m (or_first mk _ p (and_no (not (connecting a)) (carries_mark r) i))
      go false i = here
  due_by a outcome.WantsBytes p = tt
  due_by a (outcome.Reply k) p = tt
  due_by a (outcome.End k) p = tt
  due_by a (outcome.Refused r) p = tt

  awaited : connecting d.engine.awaits ≡ true → mk ≡ true
  awaited i = or_first mk _ c.plain (no_and (connecting d.engine.awaits) (not (asks_marked d.outcome)) i)

  settled : (k : ℕ) (u : List ℕ) → Carried u j.standing.ids n.openings → Names (called (after k d) u) j n
  settled k u r =
      record {
        due = due_by d.engine.awaits d.outcome c.plain;
        after = record {
          target = here;
          marked = λ i. m (awaited i);
          octets = λ i. subst Octets (sym (ap₂ (λ (y : ℕ) (p : List ℕ). take y p) c.size c.packet)) (o (awaited i));
          ids = r;
        };
      }

-- ---- a call, in a state that is coupled to the journal

module _ (s : State) (h : Seated s) (j : Journal) (x : Coupled s.tables s.engine s.stores j) (n : Naming) (t : Targeted s j n) where
  open s use {engine as e, stores as st, tables as ts}

  coupled_at : (a : Await) → e.awaits ≡ a → CoupledAt ts a e.operation e.settings e.peer e.begun e.length st j
  coupled_at a i = subst (λ (y : Await). CoupledAt ts y e.operation e.settings e.peer e.begun e.length st j) i x

  -- a call that is refused, and one that hands all on
  refused-names : (r : Refusal) → Names (refuses r s) j n
  refused-names r = record { due = tt; after = t }

  rests : (k : ℕ) (d : Done) → Carries false e st d → Names (keeps s (after k d)) j n
  rests k d c =
      settled false e st d c j n t.target (λ i. absurd (false≢true i)) (λ i. absurd (false≢true i)) k ts t.ids

  checked-rests : (b : Bool) (d : Done) → Carries false e st d → Names (keeps s (checked b e st d)) j n
  checked-rests true d c = refused-names refusal.BadAnswer
  checked-rests false d c = rests 0 d c

  object-rests : (hs : List ℕ) (has : Bool) (o : Operation) → Names (keeps s (object_for o e hs has st)) j n
  object-rests hs has (Getting g srm confirm wait) = checked-rests (bad_headers hs) _ (next-carries false e st (with_headers st _) refl _ _ _)
  object-rests hs has Nothing = refused-names refusal.WrongMoment
  object-rests hs has Trailing = refused-names refusal.WrongMoment
  object-rests hs has (Putting g srm) = refused-names refusal.WrongMoment
  object-rests hs has (Sending o c srm wait) = refused-names refusal.WrongMoment
  object-rests hs has (GatheringOp o g) = refused-names refusal.WrongMoment
  object-rests hs has (Connecting c f k) = refused-names refusal.WrongMoment
  object-rests hs has (Draining c) = refused-names refusal.WrongMoment

  body-rests : (b : List ℕ) (o : Operation) → Names (keeps s (body_for o e b st)) j n
  body-rests b (Sending o c srm wait) = go (ltb c.room (length b))
    where
      go : (y : Bool)
          → Names (keeps s (pick y (refuse refusal.WrongMoment e st)
          (after 0 (sends_packet e srm wait (givenBody o c b st.reply) st)))) j n
      go true = refused-names refusal.WrongMoment
      go false = rests 0 _ (packet-carries false e st srm wait (givenBody o c b st.reply))
  body-rests b Nothing = refused-names refusal.WrongMoment
  body-rests b Trailing = refused-names refusal.WrongMoment
  body-rests b (Putting g srm) = refused-names refusal.WrongMoment
  body-rests b (Getting g srm confirm wait) = refused-names refusal.WrongMoment
  body-rests b (GatheringOp o g) = refused-names refusal.WrongMoment
  body-rests b (Connecting c f k) = refused-names refusal.WrongMoment
  body-rests b (Draining c) = refused-names refusal.WrongMoment

  credentials-rest : (c : Option Credentials) (o : Operation) → Names (keeps s (credentials_with o e c st)) j n
  credentials-rest c (Connecting code f k) = checked-rests (long_user c) _ (connect_sends-carries false e st e.peer code f _ c)
  credentials-rest c Nothing = refused-names refusal.WrongMoment
  credentials-rest c Trailing = refused-names refusal.WrongMoment
  credentials-rest c (Putting g srm) = refused-names refusal.WrongMoment
  credentials-rest c (Getting g srm confirm wait) = refused-names refusal.WrongMoment
  credentials-rest c (Sending o k srm wait) = refused-names refusal.WrongMoment
  credentials-rest c (GatheringOp o g) = refused-names refusal.WrongMoment
  credentials-rest c (Draining code) = refused-names refusal.WrongMoment

  taken-rests : (b : Bool) → Names (keeps s (after 0 (pick b (goes_on_of e.operation e st) (ends e e.peer why.OtherOperation st)))) j n
  taken-rests true = rests 0 _ (goes_on_carries false e st e.operation)
  taken-rests false = rests 0 _ (leaf false e st e.peer _ await.Nothing _ _ refl refl refl)

  -- a password is asked for by a Connect alone
  password-rests : (p : Option (List ℕ)) → fits kind.PasswordGiven e.awaits ≡ true
      → Names (keeps s (after 0 (password_answer e p st))) j n
  password-rests p r =
      let i : connecting e.awaits ≡ true = ap connecting (same_await_lem e.awaits await.Password r) in
      settled true e st _ (password-carries true e st refl p) j n t.target (λ k. t.marked i) (λ k. t.octets i) 0 ts t.ids

  -- a nonce is remembered in front of the Targets
  nonce-rests : (o : Octets16) (l : List ℕ) (b y : Bool)
      → Names
      (pick b (called (refuse refusal.BadAnswer e st) ts) (pick y (called (refuse refusal.NonceUsed e st) ts)
      (called (after 0 (nonce_answer e o l st)) (remembered_with o ts)))) j n
  nonce-rests o l true y = refused-names refusal.BadAnswer
  nonce-rests o l false true = refused-names refusal.NonceUsed
  nonce-rests o l false false =
      settled false e st _ (nonce-carries false e st o l) j n t.target (λ i. absurd (false≢true i))
      (λ i. absurd (false≢true i)) 0
      (remembered_with o ts) (λ y m. ap target_bytes (remembered-targets o ts (nonces-room s h) (place_of y j.standing.ids)) ∙ t.ids y m)

  -- ---- a packet

  -- the Target that it goes under
  ids_are : Fixed ts e.settings e.peer j → j.standing.ids ≡ ids_of e.peer ts
  ids_are f = ap (λ (y : Standing). y.ids) f.standing

  under_id_lem : Fixed ts e.settings e.peer j → (hs : List Header)
      → target_bytes (target_for e ts (survey_of (some hs))) ≡ under_id n.openings j.standing.ids (first 0xCB hs)
  unfolding survey_of
  under_id_lem f hs = rw (ids_are f) (go (first 0xCB hs))
    where
      carried : Carried ts (ids_of e.peer ts) n.openings
      carried = subst (λ (l : List ℕ). Carried ts l n.openings) (ids_are f) t.ids

      by : (id : ℕ) (b : Bool) → member id (ids_of e.peer ts) ≡ b
          → target_bytes (pick b (target_at ts (place_of id (ids_of e.peer ts))) unnamed) ≡ pick b (target_of id n.openings) none
      by id true m = carried id m
      by id false m = unnamed-bytes

      go : (v : Option (List ℕ))
          → target_bytes (pick (present v && member (id_of v) (ids_of e.peer ts)) (target_at ts (place_of (id_of v) (ids_of e.peer ts))) unnamed)
          ≡ under_id n.openings (ids_of e.peer ts) v
      go none = unnamed-bytes
      go (some v) = by (be32 v 0) (member (be32 v 0) (ids_of e.peer ts)) refl

  packet-under : (q : List ℕ) → Held ts e.settings e.peer e.operation st q j → (r : Option Packet)
      → target_bytes (packet_target r e ts) ≡ (packet_names r j n).under
  unfolding packet_target
  packet-under q y none = t.target
  packet-under q y (some r) =
      rw (busy-same e.settings.max_object_size e.operation st.headers st.body j.opened y.opened)
      (go (is_marked r.opcode) (busy e.operation))
    where
      go : (a b : Bool)
          → target_bytes (pick a unnamed (pick b e.target (target_for e ts (survey_of (some r.headers)))))
          ≡ pick a none (pick b n.under (under_id n.openings j.standing.ids (first 0xCB r.headers)))
      go true b = unnamed-bytes
      go false true = t.target
      go false false = under_id_lem y.fixed r.headers

  marked-under : (r : Option Packet) → marked_in r ≡ true → (packet_names r j n).under ≡ none
  marked-under none i = absurd (false≢true i)
  marked-under (some r) i =
      ap (λ (b : Bool). pick b none (pick (busyOpened j.opened) n.under (under_id n.openings j.standing.ids (first 0xCB r.headers)))) i

  packet-openings : (r : Option Packet) → (packet_names r j n).openings ≡ n.openings
  packet-openings none = refl
  packet-openings (some r) = refl

  -- ---- what a call is fed as

  -- a call that goes, by the journal and the naming after it
  abbrev After : Call → Called → Type 0
  After c m =
      Names m (journal_step j (fed_by (verdict_of m.took.outcome) c (get_or st.reply 0 0))).next
      (naming_step j n (fed_by (verdict_of m.took.outcome) c (get_or st.reply 0 0)))

  -- the ids of the journal are all that is asked of it
  names-over : (m : Called) (k : Journal) (l : Naming) → k.standing.ids ≡ j.standing.ids → l ≡ n → Names m j n → Names m k l
  names-over m k l i q w =
      subst (λ (y : Naming). Names m k y) (sym q)
      (record {
        due = w.due;
        after = record {
          target = w.after.target;
          marked = w.after.marked;
          octets = w.after.octets;
          ids = subst (λ (y : List ℕ). Carried m.tables y n.openings) (sym i) w.after.ids;
        };
      })

  -- a reply to anything but a Connect opens nothing
  opens-nothing : (b c d : Bool) (m : Naming) → (not b && c) ≡ false → pick (not b && (c && d)) m n ≡ n
  opens-nothing true c d m i = refl
  opens-nothing false true d m i = absurd (true≢false i)
  opens-nothing false false d m i = refl

  abbrev opens_with : ℕ → List ℕ → Packet → Naming
  opens_with code hs r =
      opens_as (id_opened j.standing (first 0xCB (list_of (read_headers hs 0))) (first 0x46 r.headers)) (first 0x46 r.headers) n

  not_connect : (code : ℕ) (hs : List ℕ) (l : Option Packet) → connects l ≡ false → answer_names l j code hs n ≡ n
  not_connect code hs none i = refl
  not_connect code hs (some r) i =
      opens-nothing (busyOpened j.opened) (same_opcode r.opcode op.Connect) (is_success code) (opens_with code hs r)
      (both (not (busyOpened j.opened)) i)
    where
      both : (a : Bool) {c : Bool} → c ≡ false → (a && c) ≡ false
      both true q = q
      both false q = refl

  -- nor does one inside an operation
  named-busy : (code : ℕ) (hs : List ℕ) (l : Option Packet) → busyOpened j.opened ≡ true → answer_names l j code hs n ≡ n
  named-busy code hs none i = refl
  named-busy code hs (some r) i =
      opens-nothing (busyOpened j.opened) (same_opcode r.opcode op.Connect) (is_success code) (opens_with code hs r)
      (ap (λ (b : Bool). not b && same_opcode r.opcode op.Connect) i)

  replied-busy : (code : ℕ) (hs : List ℕ) (o : Opened) → busyOpened o ≡ true → (replied o j code hs).standing.ids ≡ j.standing.ids
  replied-busy code hs nothing i = absurd (false≢true i)
  replied-busy code hs trailing i = refl
  replied-busy code hs (putting c k) i = refl
  replied-busy code hs (getting k) i = refl
  replied-busy code hs sending i = refl
  replied-busy code hs (gathering c k) i = refl
  replied-busy code hs draining i = refl

  abbrev pub resting : Call → Bool
  resting (bytes_offered_of i) = false
  resting (reply_given_of code hs) = false
  resting (connections_closed_of l) = false
  resting stream_ended_of = true
  resting reply_taken_of = true
  resting (object_given_of hs b) = true
  resting (body_given_of d) = true
  resting body_failed_of = true
  resting abort_acknowledged_of = true
  resting (password_given_of p) = true
  resting (nonce_given_of o l) = true
  resting (credentials_given_of c) = true

  ended_same : (b : Bool) → pick b n n ≡ n
  ended_same true = refl
  ended_same false = refl

  -- a call that neither offers bytes nor replies nor closes ids leaves the ids and the naming
  fed-rests : (c : Call) (v : Verdict) (b : ℕ) → resting c ≡ true
      → ((journal_step j (fed_by v c b)).next.standing.ids ≡ j.standing.ids) × (naming_step j n (fed_by v c b) ≡ n)
  unfolding naming_step
  fed-rests c (refused k) b i = (refused-ids j, refl)
  fed-rests (bytes_offered_of y) goes b i = absurd (false≢true i)
  fed-rests (reply_given_of code hs) goes b i = absurd (false≢true i)
  fed-rests (connections_closed_of l) goes b i = absurd (false≢true i)
  fed-rests stream_ended_of goes b i = (step-ids j stream_ended_of refl, ended_same j.ended)
  fed-rests reply_taken_of goes b i = (sent-ids j b, refl)
  fed-rests (object_given_of hs y) goes b i = (step-ids j (object_given_of hs y) refl, ended_same j.ended)
  fed-rests (body_given_of d) goes b i = (step-ids j (body_given_of d) refl, ended_same j.ended)
  fed-rests body_failed_of goes b i = (step-ids j body_failed_of refl, ended_same j.ended)
  fed-rests abort_acknowledged_of goes b i = (step-ids j abort_acknowledged_of refl, ended_same j.ended)
  fed-rests (password_given_of p) goes b i = (step-ids j (password_given_of p) refl, ended_same j.ended)
  fed-rests (nonce_given_of o l) goes b i = (step-ids j (nonce_given_of o l) refl, ended_same j.ended)
  fed-rests (credentials_given_of c) goes b i = (step-ids j (credentials_given_of c) refl, ended_same j.ended)

  goes-rests : (c : Call) → resting c ≡ true → at_moment s c ≡ true → Names (go_for s c) j n
  goes-rests (bytes_offered_of y) i r = absurd (false≢true i)
  goes-rests (reply_given_of code hs) i r = absurd (false≢true i)
  goes-rests (connections_closed_of l) i r = absurd (false≢true i)
  goes-rests stream_ended_of i r = rests 0 _ (leaf false e st e.peer _ await.Nothing _ _ refl refl refl)
  goes-rests reply_taken_of i r = taken-rests (same_await e.awaits await.Taken)
  goes-rests (object_given_of hs b) i r = object-rests hs b e.operation
  goes-rests (body_given_of d) i r = body-rests d e.operation
  goes-rests body_failed_of i r = rests 0 _ (leaf false e st e.peer _ await.Taken _ _ refl refl refl)
  goes-rests abort_acknowledged_of i r = rests 0 _ (leaf false e st e.peer _ await.Taken _ _ refl refl refl)
  goes-rests (password_given_of p) i r = password-rests p (and_right (sound e) _ r)
  goes-rests (nonce_given_of o l) i r = nonce-rests o l (long_realm e.settings l) (among o (remembered e.peer.nonces ts))
  goes-rests (credentials_given_of c) i r = credentials-rest c e.operation

  -- the step of a call is refused, or taken at its moment
  at_moment_lem : (c : Call) (P : Called → Type 0) → ((r : Refusal) → P (refuses r s)) → (at_moment s c ≡ true → P (go_for s c)) → P (step_of s c)
  at_moment_lem c P f g = subst P (sym (step_is s c)) (first (lacks_in s c) (then (at_moment s c) refl))
    where
      then : (b : Bool) → at_moment s c ≡ b → P (pick b (go_for s c) (refuses refusal.WrongMoment s))
      then true i = g i
      then false i = f refusal.WrongMoment

      first : (b : Bool) {y : Called} → P y → P (pick b (refuses refusal.StoreTooShort s) y)
      first true w = f refusal.StoreTooShort
      first false w = w

  rests-after : (c : Call) → resting c ≡ true → After c (step_of s c)
  rests-after c i =
      let k = fed-rests c (verdict_of (step_of s c).took.outcome) (get_or st.reply 0 0) i in
      names-over (step_of s c) _ _ k.0 k.1 (at_moment_lem c (λ (m : Called). Names m j n) refused-names (goes-rests c i))

  refused-after : (c : Call) (r : Refusal) → After c (refuses r s)
  unfolding naming_step journal_step
  refused-after c r = refused-names r

  -- ---- bytes

  module _ (i : List ℕ) (o : Octets i) (at : e.awaits ≡ await.Bytes) where
    abbrev f : Frames
    f = framed st.packet e.begun 0 i

    abbrev z : Stores
    z = with_packet st f.packet

    abbrev k : ℕ
    k = f.result.begun

    abbrev y : Held ts e.settings e.peer e.operation st (take e.begun st.packet) j
    y = coupled_at await.Bytes at

    -- the naming by what the bytes are
    named-read : (r : Read) → read_up (take e.begun st.packet) i ≡ r → naming_step j n (step_by_of (bytes_offered_of i)) ≡ bytes_name r j n
    unfolding naming_step
    named-read r q =
        ap (λ (b : Bool). pick b n (bytes_name (read_up j.begun i) j n)) y.fixed.ended
        ∙ ap (λ (l : Read). bytes_name l j n) (ap (λ (l : List ℕ). read_up l i) y.begun ∙ q)

    -- a step on these bytes
    read-after : (r : Read) → read_up (take e.begun st.packet) i ≡ r → (m : Called) → verdict_of m.took.outcome ≡ goes
        → Names m j (bytes_name r j n) → After (bytes_offered_of i) m
    read-after r q m v w =
        subst (λ (u : Verdict). Names m (journal_step j (fed_by u (bytes_offered_of i) (get_or st.reply 0 0))).next
        (naming_step j n (fed_by u (bytes_offered_of i) (get_or st.reply 0 0))))
        (sym v)
        (subst (λ (l : Naming). Names m (journal_step j (step_by_of (bytes_offered_of i))).next l) (sym (named-read r q))
        (record {
          due = w.due;
          after = record {
            target = w.after.target;
            marked = w.after.marked;
            octets = w.after.octets;
            ids = subst (λ (l : List ℕ). Carried m.tables l (bytes_name r j n).openings) (sym (step-ids j (bytes_offered_of i) refl)) w.after.ids;
          };
        }))

    more-names : Names (keeps s (framed_as More e k f.result.taken z ts)) j n
    unfolding engine_with
    more-names =
        record {
          due = tt;
          after = record {
            target = t.target;
            marked = t.marked;
            octets = λ c. absurd (false≢true (sym (ap connecting at) ∙ c));
            ids = t.ids;
          };
        }

    short-names : Names (keeps s (framed_as Short e k f.result.taken z ts)) j n
    short-names =
        settled false e z _ (leaf false e z e.peer _ await.Nothing _ _ refl refl refl) j n t.target (λ i. absurd (false≢true i))
        (λ i. absurd (false≢true i)) f.result.taken ts t.ids

    abbrev request : Option Packet
    request = request_of (take k f.packet)

    abbrev whole-engine : Engine
    whole-engine = arrived e k (packet_target request e ts)

    whole_carries : Carries (marked_in request) whole-engine z (packet_done e k z ts)
    unfolding packet_done
    whole_carries = read-carries whole-engine z (take k f.packet) ts request

    whole-names : (q : List ℕ) → Frames-agree st.packet f (whole q)
        → Names (keeps s (framed_as Whole e k f.result.taken z ts)) j (packet_names request j n)
    unfolding engine_with
    whole-names q g =
        settled (marked_in request) whole-engine z (packet_done e k z ts) whole_carries j (packet_names request j n)
        (packet-under _ y request) (marked-under request) (λ c. subst Octets g.1.bytes g.1.octets) f.result.taken ts
        (subst (λ (l : List Opening). Carried ts j.standing.ids l) (sym (packet-openings request)) t.ids)

    frame_after : (c : Frame) → f.result.frame ≡ c → After (bytes_offered_of i) (keeps s (framed_as c e k f.result.taken z ts))
        → After (bytes_offered_of i) (keeps s (offers e f st ts))
    frame_after c q a = subst (λ (l : Frame). After (bytes_offered_of i) (keeps s (framed_as l e k f.result.taken z ts))) (sym q) a

    bytes_go : (r : Read) → read_up (take e.begun st.packet) i ≡ r → Frames-agree st.packet f r
        → After (bytes_offered_of i) (keeps s (offers e f st ts))
    bytes_go (more q) u g = frame_after More g.0 (read-after (more q) u _ refl more-names)
    bytes_go (whole q) u g =
        frame_after Whole g.0
        (read-after (whole q) u _ whole_carries.goes
        (subst (λ (p : List ℕ). Names (keeps s (framed_as Whole e k f.result.taken z ts)) j (packet_names (request_of p) j n))
        (sym g.1.bytes) (whole-names q g)))
    bytes_go short u g = frame_after Short g.0 (read-after short u _ refl short-names)

  bytes_after : (i : List ℕ) → Octets i → After (bytes_offered_of i) (step_of s (bytes_offered_of i))
  bytes_after i o =
      at_moment_lem (bytes_offered_of i) (After (bytes_offered_of i)) (refused-after (bytes_offered_of i))
      (λ r. bytes_go i o (same_await_lem e.awaits await.Bytes (and_right (sound e) _ r)) _ refl
      (frames_agree st.packet i e.begun 0 h.sits.begun.small h.sits.base.room.packet h.sits.begun.octets o
      h.sits.begun.goes_on))

  -- ---- a reply

  module _ (code : ℕ) (hs : List ℕ) where
    abbrev c : Call
    c = reply_given_of code hs

    -- a reply, by the journal and the naming that it leads to
    reply-after : j.ended ≡ false → (d : DoneTabled) (ids : List ℕ) (l : Naming) → verdict_of d.done.outcome ≡ goes
        → (replied j.opened j code hs).standing.ids ≡ ids → answer_names j.last j code hs n ≡ l
        → ((k : Journal) → k.standing.ids ≡ ids → Names (called (after 0 d.done) d.tables) k l)
        → After c (called (after 0 d.done) d.tables)
    unfolding naming_step journal_step
    reply-after i d ids l v q p w =
        subst (λ (u : Verdict). Names (called (after 0 d.done) d.tables)
        (journal_step j (fed_by u c (get_or st.reply 0 0))).next (naming_step j n (fed_by u c (get_or st.reply 0 0))))
        (sym v)
        (subst (λ (k : Naming). Names (called (after 0 d.done) d.tables) (journal_step j (step_by_of c)).next k)
        (sym (ap (λ (b : Bool). pick b n (answer_names j.last j code hs n)) i ∙ p))
        (w (journal_step j (step_by_of c)).next (ap (λ (k : Entry). k.next.standing.ids) (fed-goes j c i) ∙ q)))

    -- of a reply that changes neither ids nor naming
    plain-after : j.ended ≡ false → (replied j.opened j code hs).standing.ids ≡ j.standing.ids → answer_names j.last j code hs n ≡ n
        → After c (called (after 0 (sends e e.peer code hs st)) ts)
    plain-after i q p =
        let d = sends-carries false e st e.peer code hs in
        reply-after i (done_tabled (sends e e.peer code hs st) ts) j.standing.ids n d.goes q p
        (λ k r. settled false e st _ d k n t.target (λ b. absurd (false≢true b)) (λ b. absurd (false≢true b)) 0 ts
        (subst (λ (l : List ℕ). Carried ts l n.openings) (sym r) t.ids))

    -- ---- to a Connect

    module _ (at : e.awaits ≡ await.Connect) where
      abbrev w : AskedBy ts e.settings e.peer op.Connect e.length st j
      w = coupled_at await.Connect at

      abbrev named : Option (List ℕ)
      named = first 0xCB (list_of (read_headers hs 0))

      abbrev asked : Option (List ℕ)
      asked = target ts e st j op.Connect w

      abbrev grants : Bool
      grants = srm_granted ts e st j op.Connect w

      abbrev before : Standing
      before = stood ts e st j op.Connect w

      abbrev opens : Naming
      opens = opens_as (id_opened before named asked) asked n

      connect_ids : (replied j.opened j code hs).standing.ids ≡ (pick (is_success code) (opens_for before grants named asked) before).ids
      connect_ids =
          ap (λ (k : Journal). k.standing.ids) (replied-to ts e st j op.Connect w code hs)
          ∙ ap (λ (k : Standing). k.ids) (connected-is ts e st j op.Connect w code (list_of (read_headers hs 0)))

      connect_naming : answer_names j.last j code hs n ≡ pick (is_success code) opens n
      unfolding same_opcode
      connect_naming =
          ap (λ (l : Option Packet). answer_names l j code hs n) w.last
          ∙ ap (λ (b : Opened). pick (not (busyOpened b) && (same_opcode w.request.opcode op.Connect && is_success code))
          (given j.standing w.request.headers) n) w.held.opened
          ∙ ap (λ (b : Opcode). pick (same_opcode b op.Connect && is_success code) (given j.standing w.request.headers) n) w.opcode
          ∙ ap₂ (λ (k : Standing) (l : List Header). pick (is_success code) (given k l) n) w.held.fixed.standing
          (headers_are ts e st j op.Connect w)
        where
          given : Standing → List Header → Naming
          given k l = opens_as (id_opened k named (first 0x46 l)) (first 0x46 l) n

      asked-given : Given asked
      unfolding last_headers last_packet
      asked-given = request-given (take e.length st.packet) 0x46 (t.octets (ap connecting at))

      carried : Carried ts (ids_of e.peer ts) n.openings
      carried = subst (λ (l : List ℕ). Carried ts l n.openings) (ids_are w.held.fixed) t.ids

      abbrev past : List Check
      past = w.held.fixed.past

      opened_at : (q : Option Linked) → opened_for e.peer ts grants named asked ≡ q
          → Carried (connect_opened e ts q code (front_for e.peer ts named asked) hs st).tables (opens_for before grants named asked).ids
          opens.openings
      opened_at none i =
          subst (λ (l : List ℕ). Carried ts l opens.openings)
          (sym (ap (λ (k : Standing). k.ids) (full-standing e.peer ts past grants (own_fits h.sits.base.peer) (ids-room s h) named asked i)))
          (subst (λ (m : Naming). Carried ts (ids_of e.peer ts) m.openings)
          (sym (full-carried e.peer ts past grants h.sits.base.peer h.tables n carried named asked i asked-given)) carried)
      opened_at (some q) i =
          subst (λ (l : List ℕ). Carried q.tables l opens.openings)
          (ap (λ (k : Standing). k.ids) (opened-standing e.peer ts past grants (own_fits h.sits.base.peer) (ids-room s h) q named asked i))
          (opened-carried e.peer ts past grants h.sits.base.peer h.tables n carried q named asked i asked-given)

      answered : Carried (connect_answer e code hs st ts).tables (pick (is_success code) (opens_for before grants named asked) before).ids
          (pick (is_success code) opens n).openings
      unfolding connect_answer
      answered = go (is_success code)
        where
          go : (b : Bool)
              → Carried
              (pick b (connect_opened e ts (opened_for e.peer ts grants named asked) code (front_for e.peer ts named asked) hs st)
              (done_tabled (sends_connect e e.peer code hs st) ts)).tables
              (pick b (opens_for before grants named asked) before).ids (pick b opens n).openings
          go true = opened_at (opened_for e.peer ts grants named asked) refl
          go false = carried

      under_stays : (b : Bool) (l : Option ℕ) → (pick b (opens_as l asked n) n).under ≡ n.under
      under_stays true none = refl
      under_stays true (some i) = refl
      under_stays false l = refl

      connect_after : After c (called (after 0 (connect_answer e code hs st ts).done) (connect_answer e code hs st ts).tables)
      connect_after =
          let d = answer-carries true e st refl code hs ts in
          let u = under_stays (is_success code) (id_opened before named asked) in
          let i = ap connecting at in
          reply-after w.held.fixed.ended (connect_answer e code hs st ts) _ _ d.goes connect_ids connect_naming
          (λ k r. settled true e st _ d k _ (t.target ∙ sym u) (λ b. u ∙ t.marked i) (λ b. t.octets i) 0
          (connect_answer e code hs st ts).tables
          (subst (λ (l : List ℕ). Carried (connect_answer e code hs st ts).tables l (pick (is_success code) opens n).openings) (sym r) answered))

    -- ---- to a Disconnect

    module _ (at : e.awaits ≡ await.Disconnect) where
      abbrev v : AskedBy ts e.settings e.peer op.Disconnect e.length st j
      v = coupled_at await.Disconnect at

      abbrev parted : Option (List ℕ)
      parted = first 0xCB (last_headers e st)

      abbrev left : Linked
      left = disconnected_peer e.peer ts parted

      disconnect_ids : (replied j.opened j code hs).standing.ids ≡ (disconnected (stood ts e st j op.Disconnect v) parted).ids
      disconnect_ids =
          ap (λ (k : Journal). k.standing.ids) (replied-to ts e st j op.Disconnect v code hs)
          ∙ ap₂ (λ (k : Standing) (l : List Header). (disconnected k (first 0xCB l)).ids) v.held.fixed.standing
          (headers_are ts e st j op.Disconnect v)

      disconnect_naming : answer_names j.last j code hs n ≡ n
      unfolding same_opcode
      disconnect_naming =
          not_connect code hs j.last (ap connects v.last ∙ ap (λ (b : Opcode). same_opcode b op.Connect) v.opcode)

      disconnect_after : After c (called (after 0 (sends e left.peer code hs st)) left.tables)
      disconnect_after =
          let d = sends-carries false e st left.peer code hs in
          reply-after v.held.fixed.ended (done_tabled (sends e left.peer code hs st) left.tables) _ n
          d.goes disconnect_ids disconnect_naming
          (λ k r. settled false e st _ d k n t.target (λ b. absurd (false≢true b)) (λ b. absurd (false≢true b)) 0 left.tables
          (subst (λ (l : List ℕ). Carried left.tables l n.openings) (sym r)
          (disconnected-carried e.peer ts v.held.fixed.past false h.sits.base.peer h.tables n
          (subst (λ (l : List ℕ). Carried ts l n.openings) (ids_are v.held.fixed) t.ids) parted)))

    -- ---- to a Get, or to any other request

    get_after : e.awaits ≡ await.Get → After c (called (after 0 (sends e e.peer code hs st)) ts)
    get_after at =
        let y = coupled_at await.Get at in
        let g = subst (λ (a : Await). Shape a e.operation) at h.sits.shape in
        let b : busyOpened j.opened ≡ true =
        busy-same e.settings.max_object_size e.operation st.headers st.body j.opened y.opened ∙ ap busy g.is in
        plain-after y.fixed.ended (replied-busy code hs j.opened b) (named-busy code hs j.last b)

    other_after : e.awaits ≡ await.Reply → After c (called (after 0 (sends e e.peer code hs st)) ts)
    other_after at =
        let y = coupled_at await.Reply at in
        plain-after y.0.fixed.ended
        (ap (λ (k : Journal). k.standing.ids) (ap (λ (o : Opened). replied o j code hs) y.0.opened ∙ y.1.0 code hs))
        (not_connect code hs j.last y.1.1)

    either_after : (b : Bool) (y z : DoneTabled) → (b ≡ true → After c (called (after 0 y.done) y.tables))
        → (b ≡ false → After c (called (after 0 z.done) z.tables)) → After c (called (after 0 (pick b y z).done) (pick b y z).tables)
    either_after true y z f g = f refl
    either_after false y z f g = g refl

    answer-after : fits kind.ReplyGiven e.awaits ≡ true
        → After c (called (after 0 (reply_answer e code hs st ts).done) (reply_answer e code hs st ts).tables)
    unfolding reply_answer
    answer-after r =
        either_after (same_await e.awaits await.Connect) _ _ (λ i. connect_after (same_await_lem e.awaits await.Connect i))
        (λ i. either_after (same_await e.awaits await.Disconnect) _ _ (λ k. disconnect_after (same_await_lem e.awaits await.Disconnect k))
        (λ k. go (same_await e.awaits await.Get) refl (or_second _ _ (or_second _ _ r i) k)))
      where
        go : (b : Bool) → same_await e.awaits await.Get ≡ b → (same_await e.awaits await.Get || same_await e.awaits await.Reply) ≡ true
            → After c (called (after 0 (sends e e.peer code hs st)) ts)
        go true i k = get_after (same_await_lem e.awaits await.Get i)
        go false i k = other_after (same_await_lem e.awaits await.Reply (or_second _ _ k i))

    given-after : After c (step_of s c)
    given-after = at_moment_lem c (After c) (refused-after c) (λ r. go (bad_reply code hs) (and_right (sound e) _ r))
      where
        go : (b : Bool) → fits kind.ReplyGiven e.awaits ≡ true
            → After c (pick b (refuses refusal.BadAnswer s)
            (called (after 0 (reply_answer e code hs st ts).done) (reply_answer e code hs st ts).tables))
        go true r = refused-after c refusal.BadAnswer
        go false r = answer-after r

  -- ---- ids are closed together

  module _ (l : List ℕ) where
    abbrev left_over : Remaining
    left_over = closed_all l e.peer.count ts

    closes-ids : (k : List ℕ) → (closesIds j.standing k).ids ≡ without_all k j.standing.ids
    unfolding without_all
    closes-ids [] = refl
    closes-ids (i ∷ k) = go (without_all (i ∷ k) j.standing.ids)
      where
        go : (m : List ℕ) → (leaves j.standing m).ids ≡ m
        go [] = refl
        go (i ∷ m) = refl

    closed_after : e.awaits ≡ await.Bytes → After (connections_closed_of l) (beside s (closes e l left_over))
    unfolding naming_step journal_step engine_with
    closed_after at =
        let y = coupled_at await.Bytes at in
        subst (λ (m : Naming). Names (beside s (closes e l left_over)) (journal_step j (step_by_of (connections_closed_of l))).next m)
        (sym (ended_same j.ended))
        (record {
          due = tt;
          after = record {
            target = t.target;
            marked = t.marked;
            octets = t.octets;
            ids = subst (λ (m : List ℕ). Carried left_over.tables m n.openings)
                (sym (ap (λ (b : Bool). (pick b (unchanged j) (journal_call j (connections_closed_of l))).next.standing.ids) y.fixed.ended
                ∙ closes-ids l ∙ ap (without_all l) (ids_are y.fixed)))
                (carried-all l e.peer.count ts n.openings h.sits.base.peer.count h.tables
                (subst (λ (m : List ℕ). Carried ts m n.openings) (ids_are y.fixed) t.ids));
          };
        })

    together_after : After (connections_closed_of l) (step_of s (connections_closed_of l))
    unfolding close_checked
    together_after =
        at_moment_lem (connections_closed_of l) (After (connections_closed_of l)) (refused-after (connections_closed_of l))
        (λ r. idle (not (busy e.operation)) (same_await_lem e.awaits await.Bytes (and_right (sound e) _ r)))
      where
        ids_go : e.awaits ≡ await.Bytes → (a b c : Bool)
            → After (connections_closed_of l)
            (beside s (pick a (refuse_closing refusal.TooManyIds e ts)
            (pick b (refuse_closing refusal.IdNotOpen e ts) (pick c (refuse_closing refusal.IdRepeated e ts) (closes e l left_over)))))
        ids_go at true b c = refused-after (connections_closed_of l) refusal.TooManyIds
        ids_go at false true c = refused-after (connections_closed_of l) refusal.IdNotOpen
        ids_go at false false true = refused-after (connections_closed_of l) refusal.IdRepeated
        ids_go at false false false = closed_after at

        idle : (b : Bool) → e.awaits ≡ await.Bytes
            → After (connections_closed_of l) (pick b (beside s (close_checked e l ts)) (refuses refusal.WrongMoment s))
        idle true at = ids_go at (ltb 64 (length l)) (not (all_open l (ids_of e.peer ts))) (repeats l)
        idle false at = refused-after (connections_closed_of l) refusal.WrongMoment

  -- ---- any call

  call-after : (c : Call) → OffersOctets c → After c (step_of s c)
  call-after (bytes_offered_of i) o = bytes_after i o
  call-after (reply_given_of code hs) o = given-after code hs
  call-after (connections_closed_of l) o = together_after l
  call-after stream_ended_of o = rests-after stream_ended_of refl
  call-after reply_taken_of o = rests-after reply_taken_of refl
  call-after (object_given_of hs b) o = rests-after (object_given_of hs b) refl
  call-after (body_given_of d) o = rests-after (body_given_of d) refl
  call-after body_failed_of o = rests-after body_failed_of refl
  call-after abort_acknowledged_of o = rests-after abort_acknowledged_of refl
  call-after (password_given_of p) o = rests-after (password_given_of p) refl
  call-after (nonce_given_of k l) o = rests-after (nonce_given_of k l) refl
  call-after (credentials_given_of k) o = rests-after (credentials_given_of k) refl

-- ---- a run

module _ (st : Settings) (w : Known) (s : State) (j : Journal) (b : Between st w s j) (n : Naming) (y : Performed)
    (says : Says s y.call (called_in y)) (t : Targeted s j n) where
  abbrev fed_now : Fed
  fed_now = fed_to st w s j b y says

  performed-names : Names (called_in y) (journal_step j fed_now).next (naming_step j n fed_now)
  performed-names =
      subst (λ (v : Verdict). Names (called_in y) (journal_step j (fed_by v y.call (get_or s.stores.reply 0 0))).next
      (naming_step j n (fed_by v y.call (get_or s.stores.reply 0 0))))
      (performed-agrees st w s j b y says).due
      (subst (λ (m : Called). Names m (journal_step j (fed_by (verdict_of m.took.outcome) y.call (get_or s.stores.reply 0 0))).next
      (naming_step j n (fed_by (verdict_of m.took.outcome) y.call (get_or s.stores.reply 0 0)))) (sym says.step)
      (call-after s b.seated j b.coupled n t y.call says.octets))

-- nothing that is asked of the packet store is, while bytes are awaited
targeted_on : (s : State) (l : List ℕ) → Writes s l → (j : Journal) (n : Naming) → Targeted s j n → Targeted (writing s l) j n
targeted_on s [] h j n t = t
targeted_on s (b ∷ l) h j n t =
    record {
      target = t.target;
      marked = t.marked;
      octets = λ i. absurd (false≢true (sym (ap connecting h) ∙ i));
      ids = t.ids;
    }

run-named : (st : Settings) (xs : List Performed) (w : Known) (s : State) (j : Journal) (n : Naming) → Between st w s j → Ran s xs
    → Targeted s j n → AllNamed (namings j n (feed_from w j (seen st s xs))) xs
run-named st [] w s j n b r t = tt
run-named st (y ∷ xs) w s j n b r t =
    let l = lent_to s y in
    let c = between_on st w s j y.written r.0 b in
    let p = performed-names st w l j c n y r.1.0 (targeted_on s y.written r.0 j n t) in
    let f = fed_to st w l j c y r.1.0 in (
      p.due,
      run-named st xs (learns w y.call y.result.outcome) (next y) (journal_step j f).next (naming_step j n f)
          (between_next st w l j c y r.1.0) r.1.1 p.after,
    )

start-targeted : (st : Settings) (s : State) → Started st s → Targeted s (journal_of st) unnamedYet
unfolding started engine_with
start-targeted st s h =
    record {
      target = ap (λ (e : Engine). target_bytes e.target) h.fresh ∙ unnamed-bytes;
      marked = λ i. refl;
      octets = λ i. absurd (false≢true (sym (ap (λ (e : Engine). connecting e.awaits) h.fresh) ∙ i));
      ids = carried_none s.tables [];
    }

pub targets : Targets
targets st s h xs r = run-named st xs (at_start st) s (journal_of st) unnamedYet (start_between st s h) r (start-targeted st s h)

pub contracts_name : ContractsName
contracts_name st l s t u r xs a h = targets st (state r t u) (accepted-started st l s t u r a) xs h
