-- `ClientRefusals`: along every list of calls from an accepted start each call is refused exactly if it is due to be, with the number that is
-- due, since what a user knows follows from the client's state (`Standing`) and each call leaves a state of which that holds. Assumes nothing.
use mathlib.Core.Path.{◌≡◌, refl, sym, ap, subst, ◌∙◌}
use mathlib.Core.Bool.{Bool, true, false, ◌&&◌, ◌||◌, not, false≢true}
use mathlib.Core.List.{List, [], ◌∷◌, ◌++◌, map}
use Prim.Native.Nat.{ℕ, ◌≤◌}
use native.Mathlib.Omega.{arith}
use lib.ListN.{length, take}
use lib.Dec.{ltb, leb, eqb}
use borrow.Author.Tests.{ltb-false, ltb-true, le-leb, lt-leb}
use Rattle.base.specs.Pick.{pick}
use Rattle.text.specs.Unicode.{Octets}
use Rattle.packet.specs.FirstByte.{byte_of}
use Rattle.packet.specs.declared.opcode.Opcode.TheVariants as op
use Rattle.journal.specs.Calls.{Verdict, goes, refused}
use Rattle.outgoing.specs.Object.{body_given_of}
use Rattle.outgoing.proofs.Sent.{body-sends}
use Rattle.connection.specs.Reply.{fields_of}
use Rattle.client_model.specs.declared.Settings.{Settings}
use Rattle.client_model.specs.declared.Kind.TheVariants as kind
use Rattle.client_model.specs.declared.Operation.{Operation}
use Rattle.client_model.specs.declared.Operation.TheVariants.{Nothing, Connecting, Disconnecting, Requesting, Receiving, Aborting}
use Rattle.client_model.specs.declared.Await.{Await}
use Rattle.client_model.specs.declared.Await.TheVariants as await
use Rattle.client_model.specs.declared.Client.{Client}
use Rattle.client_model.specs.declared.End.TheVariants as end
use Rattle.client_model.specs.declared.Refusal.{Refusal}
use Rattle.client_model.specs.declared.Refusal.TheVariants as refusal
use Rattle.client_model.specs.declared.Outcome.TheVariants as outcome
use Rattle.client_model.specs.Numbers.{same_await}
use Rattle.client_model.specs.Step.{Stores, client_with, capacity_of, Done, wants, Stepped, after as step}
use Rattle.client_model.specs.Request.{requests, id_bytes}
use Rattle.client_model.specs.Guard.{short, awaiting, refuse, guarded, bad_headers, too_long_of, max_connect_headers, checked, may_abort, abort_fits}
use Rattle.client_model.specs.Calls.{connect_step, disconnect_step, request_step, sent_for, request_sent_step, body_for, body_given_step, taken_for, part_taken_step, awaits_first, abort_taken, abort_for, abort_step, bytes_offered_step, stream_ended_step, started}
use Rattle.client_model.specs.Refusals.{ClientCall, connect, disconnect, get, body_given_of as gives, bytes_offered_of, put, requestSent, partTaken, abort, stream_ended_of, client_step, Seen, verdict_of, operation, sending, answer, part, reading, Known, known, is_abort, over_as, after, learns_by, same_wait, room_in, may_abort as mayBeAborted, expected, headers_verdict, judged, verdict, due_from, seen, OffersOctets, AllOfferOctets, ClientRefusals}
use Rattle.client_model.proofs.Putting.{made-counts}
use Rattle.client_model.proofs.Standing.{open_of, last_of, room_of, waits_of, known_of, none-begun, CountsOf, NoLast, IsPut, IsObject, Shape, Base, Sits, is_sound, or_left, Room, room, Led, led-pick, ends-led, base_kept, over_sits, sends-led, abort_led, requests-led, next-led, first-led}
use Rattle.client_model.proofs.Responding.{done_in, offered-led}

-- ---- what is awaited, as the user knows it

call_awaited : (a : Await) (o : Operation) → same_wait (waits_of a o) operation ≡ same_await a await.Call
call_awaited await.Bytes o = refl
call_awaited await.Call o = refl
call_awaited await.Sent o = refl
call_awaited await.Body o = refl
call_awaited await.Taken o = refl
call_awaited await.Nothing o = refl

sent_awaited : (a : Await) (o : Operation) → same_wait (waits_of a o) sending ≡ same_await a await.Sent
sent_awaited await.Bytes o = refl
sent_awaited await.Call o = refl
sent_awaited await.Sent o = refl
sent_awaited await.Body o = refl
sent_awaited await.Taken o = refl
sent_awaited await.Nothing o = refl

body_awaited : (a : Await) (o : Operation) → same_wait (waits_of a o) (reading 0) ≡ same_await a await.Body
body_awaited await.Bytes o = refl
body_awaited await.Call o = refl
body_awaited await.Sent o = refl
body_awaited await.Body o = refl
body_awaited await.Taken o = refl
body_awaited await.Nothing o = refl

part_awaited : (a : Await) (o : Operation) → same_wait (waits_of a o) part ≡ same_await a await.Taken
part_awaited await.Bytes o = refl
part_awaited await.Call o = refl
part_awaited await.Sent o = refl
part_awaited await.Body o = refl
part_awaited await.Taken o = refl
part_awaited await.Nothing o = refl

bytes_awaited : (a : Await) (o : Operation) → same_wait (waits_of a o) answer ≡ same_await a await.Bytes
bytes_awaited await.Bytes o = refl
bytes_awaited await.Call o = refl
bytes_awaited await.Sent o = refl
bytes_awaited await.Body o = refl
bytes_awaited await.Taken o = refl
bytes_awaited await.Nothing o = refl

-- two things awaited whose numbers agree are the same
pub same_is : (a b : Await) → same_await a b ≡ true → a ≡ b
same_is await.Bytes await.Bytes e = refl
same_is await.Call await.Call e = refl
same_is await.Sent await.Sent e = refl
same_is await.Body await.Body e = refl
same_is await.Taken await.Taken e = refl
same_is await.Nothing await.Nothing e = refl
same_is await.Bytes await.Call e = absurd (false≢true e)
same_is await.Bytes await.Sent e = absurd (false≢true e)
same_is await.Bytes await.Body e = absurd (false≢true e)
same_is await.Bytes await.Taken e = absurd (false≢true e)
same_is await.Bytes await.Nothing e = absurd (false≢true e)
same_is await.Call await.Bytes e = absurd (false≢true e)
same_is await.Call await.Sent e = absurd (false≢true e)
same_is await.Call await.Body e = absurd (false≢true e)
same_is await.Call await.Taken e = absurd (false≢true e)
same_is await.Call await.Nothing e = absurd (false≢true e)
same_is await.Sent await.Bytes e = absurd (false≢true e)
same_is await.Sent await.Call e = absurd (false≢true e)
same_is await.Sent await.Body e = absurd (false≢true e)
same_is await.Sent await.Taken e = absurd (false≢true e)
same_is await.Sent await.Nothing e = absurd (false≢true e)
same_is await.Body await.Bytes e = absurd (false≢true e)
same_is await.Body await.Call e = absurd (false≢true e)
same_is await.Body await.Sent e = absurd (false≢true e)
same_is await.Body await.Taken e = absurd (false≢true e)
same_is await.Body await.Nothing e = absurd (false≢true e)
same_is await.Taken await.Bytes e = absurd (false≢true e)
same_is await.Taken await.Call e = absurd (false≢true e)
same_is await.Taken await.Sent e = absurd (false≢true e)
same_is await.Taken await.Body e = absurd (false≢true e)
same_is await.Taken await.Nothing e = absurd (false≢true e)
same_is await.Nothing await.Bytes e = absurd (false≢true e)
same_is await.Nothing await.Call e = absurd (false≢true e)
same_is await.Nothing await.Sent e = absurd (false≢true e)
same_is await.Nothing await.Body e = absurd (false≢true e)
same_is await.Nothing await.Taken e = absurd (false≢true e)

-- an operation may be aborted, as the user knows it
abort_awaited : (o : Operation) (a : Await) (aborted : Bool) → Shape a aborted o → mayBeAborted (open_of o) (waits_of a o) (last_of o) ≡ may_abort o a
abort_awaited (Requesting kind.Put o h srm initial last) await.Bytes t w = refl
abort_awaited (Requesting kind.Put o h srm initial last) await.Call t w = refl
abort_awaited (Requesting kind.Put o h srm initial last) await.Sent t w = refl
abort_awaited (Requesting kind.Put o h srm initial last) await.Body t w = refl
abort_awaited (Requesting kind.Put o h srm initial last) await.Taken t w = refl
abort_awaited (Requesting kind.Put o h srm initial last) await.Nothing t w = refl
abort_awaited (Requesting kind.Get o h srm initial last) await.Bytes t w = refl
abort_awaited (Requesting kind.Get o h srm initial last) await.Call t w = refl
abort_awaited (Requesting kind.Get o h srm initial last) await.Sent t w = refl
abort_awaited (Requesting kind.Get o h srm initial last) await.Body t w = absurd w.1
abort_awaited (Requesting kind.Get o h srm initial last) await.Taken t w = absurd w.1
abort_awaited (Requesting kind.Get o h srm initial last) await.Nothing t w = refl
abort_awaited (Receiving srm last code) await.Bytes t w = refl
abort_awaited (Receiving srm last code) await.Call t w = refl
abort_awaited (Receiving srm last code) await.Sent t w = refl
abort_awaited (Receiving srm last code) await.Body t w = refl
abort_awaited (Receiving srm last code) await.Taken t w = refl
abort_awaited (Receiving srm last code) await.Nothing t w = refl
abort_awaited Nothing a t w = refl
abort_awaited Connecting a t w = refl
abort_awaited Disconnecting a t w = refl
abort_awaited Aborting a t w = refl

-- ---- a call

-- the verdict that is due, by whether a store is short
abbrev pub due_on : Known → ClientCall → Bool → Verdict
due_on k x t = pick t (refused 10) (pick (expected k x) (judged k x) (refused 9))

-- a call has the verdict `v`, leaves a state that sits, and tells what is known of it
pub record Told (c : Client) (s : Stores) (x : ClientCall) (v : Verdict) (m : Stepped) : Type 0 where
  pub verdict : verdict_of m.took.outcome ≡ v
  pub sits : Sits m.took.client m.stores
  pub learnt : learns_by m.took.outcome (known_of c) x m.stores.packet m.stores.request ≡ known_of m.took.client

module _ (c : Client) (s : Stores) (x : ClientCall) (w : Sits c s) where
  led-told : (v : Verdict) (m : Stepped) → v ≡ goes → Led c x (done_in m) → Told c s x v m
  led-told v m e l = record { verdict = l.goes_on ∙ sym e; sits = l.sits; learnt = l.learnt }

  refused-told : (r : Refusal) (v : Verdict) → verdict_of (outcome.Refused r) ≡ v → Told c s x v (refuse r c s)
  refused-told r v e = record { verdict = e; sits = w; learnt = refl }

  -- 10 before 9
  guarded-told : (fits : Bool) (m : Stepped) → expected (known_of c) x ≡ fits → (short s ≡ false → fits ≡ true → Told c s x (judged (known_of c) x) m)
      → Told c s x (due_on (known_of c) x (short s)) (guarded fits c s m)
  guarded-told fits m e h = rw (e, is_sound c s w) (go (short s) refl fits refl)
    where
      go : (t : Bool) → short s ≡ t → (f : Bool) → fits ≡ f
          → Told c s x (pick t (refused 10) (pick f (judged (known_of c) x) (refused 9)))
          (pick t (refuse refusal.StoreTooShort c s) (pick (true && f) m (refuse refusal.WrongMoment c s)))
      go true p f q = refused-told refusal.StoreTooShort (refused 10) refl
      go false p true q = h p q
      go false p false q = refused-told refusal.WrongMoment (refused 9) refl

  -- 8 before 24
  checked-told : (bad long : Bool) (d : Done) → (bad ≡ false → long ≡ false → Led c x d)
      → Told c s x (headers_verdict bad long) (checked bad long c s d)
  checked-told true long d h = refused-told refusal.BadHeaders (refused 8) refl
  checked-told false true d h = refused-told refusal.HeaderTooLong (refused 24) refl
  checked-told false false d h = led-told goes (step 0 d) refl (h refl refl)

-- ---- the user's operations

headers-short : (hs : List ℕ) → bad_headers hs ≡ false → length hs ≤ 65535
unfolding bad_headers
headers-short hs e = ltb-false _ _ (or_left (ltb 65535 (length hs)) _ e)

abbrev pub Due : Client → Stores → ClientCall → Type 0
Due c s x = Told c s x (due_on (known_of c) x (short s)) (client_step c s x)

connect_due : (c : Client) (s : Stores) (hs : List ℕ) → Sits c s → Due c s (connect hs)
unfolding connect_step expected byte_of
connect_due c s hs w =
    guarded-told c s (connect hs) w (awaiting c await.Call) _ (call_awaited c.awaits c.operation)
    (λ r f. checked-told c s (connect hs) w (bad_headers hs) (ltb max_connect_headers (length hs)) _
    (λ a b. sends-led c (connect hs) s w.base Connecting (byte_of op.Connect true)
    (fields_of c.settings.max_packet_length) hs refl refl tt tt))

disconnect_due : (c : Client) (s : Stores) (hs : List ℕ) → Sits c s → Due c s (disconnect hs)
unfolding disconnect_step expected byte_of
disconnect_due c s hs w =
    guarded-told c s (disconnect hs) w (awaiting c await.Call) _ (call_awaited c.awaits c.operation)
    (λ r f. checked-told c s (disconnect hs) w (bad_headers hs) (ltb max_connect_headers (length (id_bytes c.connection_id ++ hs))) _
    (λ a b. sends-led c (disconnect hs) s w.base Disconnecting (byte_of op.Disconnect true) []
    (id_bytes c.connection_id ++ hs) refl refl tt tt))

put-due : (c : Client) (s : Stores) (hs : List ℕ) (has : Bool) → Sits c s → Due c s (put hs has)
unfolding request_step expected
put-due c s hs has w =
    guarded-told c s (put hs has) w (awaiting c await.Call) _ (call_awaited c.awaits c.operation)
    (λ r f. checked-told c s (put hs has) w (bad_headers hs) (too_long_of (capacity_of c) hs) _
    (λ a b. first-led c (put hs has) s w.base (room s r) kind.Put refl hs has (λ e. let z : ◌≡◌ {A = ℕ} 0 1 = cc in absurd (omega arith))
    (headers-short hs a)))

get_due_lem : (c : Client) (s : Stores) (hs : List ℕ) → Sits c s → Due c s (get hs)
unfolding request_step expected
get_due_lem c s hs w =
    guarded-told c s (get hs) w (awaiting c await.Call) _ (call_awaited c.awaits c.operation)
    (λ r f. checked-told c s (get hs) w (bad_headers hs) (too_long_of (capacity_of c) hs) _
    (λ a b. first-led c (get hs) s w.base (room s r) kind.Get refl hs false (λ e. refl) (headers-short hs a)))

-- ---- a packet was sent

pub shape_at : (c : Client) (s : Stores) → Sits c s → (a : Await) → same_await c.awaits a ≡ true → Shape a c.aborting c.operation
shape_at c s w a e = subst (λ (y : Await). Shape y c.aborting c.operation) (same_is c.awaits a e) w.shape

-- bytes are awaited in the same operation
wants-led : (c : Client) (x : ClientCall) (s : Stores) → Base c → (aborted : Bool) → CountsOf c.operation → NoLast c.operation
    → learns_by outcome.WantsBytes (known_of c) x s.packet s.request
    ≡ known answer (open_of c.operation) aborted (last_of c.operation) c.remote_max_packet_length c.connection_id
    → Led c x (wants c c.operation aborted s)
unfolding client_with
wants-led c x s b t n l e =
    record {
      goes_on = refl;
      sits = record { base = base_kept c x s b c.operation await.Bytes t; begun = none-begun s.packet; counts = n; shape = l };
      learnt = e;
    }

pub or_false : (a : Bool) → a ≡ false → (a || false) ≡ false
or_false true e = e
or_false false e = refl

pub or_true : (a : Bool) → (a || true) ≡ true
or_true true = refl
or_true false = refl

still-led : (c : Client) (x : ClientCall) (s : Stores) → Base c → CountsOf c.operation → NoLast c.operation → c.aborting ≡ false
    → is_abort x ≡ false → Led c x (wants c c.operation false s)
still-led c x s b n l a i =
    wants-led c x s b false n l
    (ap (λ (t : Bool). known answer (open_of c.operation) t (last_of c.operation) c.remote_max_packet_length c.connection_id)
    (ap (λ (t : Bool). c.aborting || t) i ∙ or_false c.aborting a))

sent-led : (c : Client) (s : Stores) → Base c → Room s → (o : Operation) → c.operation ≡ o → CountsOf o
    → Led c requestSent (wants c c.operation false s)
    → Led c requestSent (sent_for o c s)
sent-led c s b m (Requesting k o h srm initial last) e n w =
    led-pick c requestSent (srm && not last) _ _ (λ t. next-led c requestSent s b k (ap open_of e) srm initial o h m n.0 n.1) (λ t. w)
sent-led c s b m Nothing e n w = w
sent-led c s b m Connecting e n w = w
sent-led c s b m Disconnecting e n w = w
sent-led c s b m (Receiving srm last code) e n w = w
sent-led c s b m Aborting e n w = w

sent-due : (c : Client) (s : Stores) → Sits c s → Due c s requestSent
unfolding request_sent_step expected
sent-due c s w =
    guarded-told c s requestSent w (awaiting c await.Sent) _ (sent_awaited c.awaits c.operation)
    (λ r f. led-told c s requestSent w goes _ refl
    (let h = shape_at c s w await.Sent f in
    sent-led c s w.base (room s r) c.operation refl w.counts (still-led c requestSent s w.base w.counts h.1 h.0 refl)))

-- ---- body bytes

body-told : (c : Client) (s : Stores) (d : List ℕ) → Sits c s → Room s → (o : Operation) → c.operation ≡ o → CountsOf o → IsPut o
    → Told c s (gives d) (pick (leb (length d) (room_of o)) goes (refused 9)) (body_for o c d s)
body-told c s d w m (Requesting kind.Put o h srm initial last) e n v = go (ltb h.room (length d)) refl
  where
    go : (t : Bool) → ltb h.room (length d) ≡ t
        → Told c s (gives d) (pick (leb (length d) h.room) goes (refused 9))
        (pick (ltb h.room (length d)) (refuse refusal.WrongMoment c s) (step 0 (requests c kind.Put srm initial (body_given_of o h d s.request) s)))
    go true q =
        let l : leb (length d) h.room ≡ false = lt-leb (length d) h.room (ltb-true _ _ q) in
        rw (q, l) (refused-told c s (gives d) w refusal.WrongMoment (refused 9) refl)
    go false q =
        let k : length d ≤ h.room = ltb-false _ _ q in
        let l : leb (length d) h.room ≡ true = le-leb _ _ k in
        let b = body-sends o h d s.request m.request k n.0.begun n.0.chunk n.0.sent in
        rw (q, l)
        (led-told c s (gives d) w goes _ refl
        (requests-led c (gives d) s w.base kind.Put (ap open_of e) srm initial (body_given_of o h d s.request)
        (made-counts o s.request (body_given_of o h d s.request) n.0.total b) tt (omega (arith, m.request, b.same_length))))
body-told c s d w m (Requesting kind.Get o h srm initial last) e n v = absurd v
body-told c s d w m Nothing e n v = absurd v
body-told c s d w m Connecting e n v = absurd v
body-told c s d w m Disconnecting e n v = absurd v
body-told c s d w m (Receiving srm last code) e n v = absurd v
body-told c s d w m Aborting e n v = absurd v

body-due : (c : Client) (s : Stores) (d : List ℕ) → Sits c s → Due c s (gives d)
unfolding body_given_step expected
body-due c s d w = rw (is_sound c s w) (go (short s) refl c.awaits refl)
  where
    go : (t : Bool) → short s ≡ t → (a : Await) → c.awaits ≡ a
        → Told c s (gives d)
        (pick t (refused 10)
        (pick (same_wait (waits_of a c.operation) (reading 0) && leb (length d) (room_in (waits_of a c.operation))) goes (refused 9)))
        (pick t (refuse refusal.StoreTooShort c s)
        (pick (true && same_await a await.Body) (body_for c.operation c d s) (refuse refusal.WrongMoment c s)))
    go true p a e = refused-told c s (gives d) w refusal.StoreTooShort (refused 10) refl
    go false p await.Body e =
        body-told c s d w (room s p) c.operation refl w.counts (subst (λ (y : Await). Shape y c.aborting c.operation) e w.shape).1
    go false p await.Bytes e = refused-told c s (gives d) w refusal.WrongMoment (refused 9) refl
    go false p await.Call e = refused-told c s (gives d) w refusal.WrongMoment (refused 9) refl
    go false p await.Sent e = refused-told c s (gives d) w refusal.WrongMoment (refused 9) refl
    go false p await.Taken e = refused-told c s (gives d) w refusal.WrongMoment (refused 9) refl
    go false p await.Nothing e = refused-told c s (gives d) w refusal.WrongMoment (refused 9) refl

-- ---- a part was taken

taken-led : (c : Client) (s : Stores) → Base c → (o : Operation) → c.operation ≡ o → c.aborting ≡ false → IsObject o
    → Led c partTaken (done_in (taken_for o c s))
unfolding byte_of client_with
taken-led c s b (Receiving srm true code) e a v =
    record {
      goes_on = refl;
      sits = over_sits c partTaken s b (outcome.Done code c.length) s;
      learnt = ap (λ (x : Operation). over_as (open_of x) (take c.length s.packet) (after (known_of c))) e;
    }
taken-led c s b (Receiving true false code) e a v =
    still-led c partTaken s b (subst CountsOf (sym e) tt) (subst NoLast (sym e) refl) a refl
taken-led c s b (Receiving false false code) e a v =
    sends-led c partTaken s b c.operation (byte_of op.Get true) [] [] refl (sym (ap last_of e)) (subst CountsOf (sym e) tt)
    (subst NoLast (sym e) refl)
taken-led c s b (Requesting k o h srm initial last) e a v = absurd v
taken-led c s b Nothing e a v = absurd v
taken-led c s b Connecting e a v = absurd v
taken-led c s b Disconnecting e a v = absurd v
taken-led c s b Aborting e a v = absurd v

taken-due : (c : Client) (s : Stores) → Sits c s → Due c s partTaken
unfolding part_taken_step expected
taken-due c s w =
    guarded-told c s partTaken w (awaiting c await.Taken) _ (part_awaited c.awaits c.operation)
    (λ r f. let h = shape_at c s w await.Taken f in
    led-told c s partTaken w goes _ refl (taken-led c s w.base c.operation refl h.0 h.1))

-- ---- an Abort

-- the response that is due comes first
first_awaited_lem : (c : Client) (s : Stores) → Sits c s → c.awaits ≡ await.Bytes → Led c abort (awaits_first c s)
unfolding client_with
first_awaited_lem c s w e =
    record {
      goes_on = refl;
      sits =
          record {
            base = record { latest = w.base.latest; low = w.base.low; top = w.base.top };
            begun = w.begun;
            counts = w.counts;
            shape = subst (λ (y : Await). Shape y c.aborting c.operation) e w.shape;
          };
      learnt =
          ap (λ (t : Bool). known answer (open_of c.operation) t (last_of c.operation) c.remote_max_packet_length c.connection_id)
          (or_true c.aborting);
    }

not-true : (a : Bool) → not a ≡ true → a ≡ false
not-true true e = absurd (false≢true e)
not-true false e = refl

taken-aborted : (c : Client) (s : Stores) → Base c → (o : Operation) → c.operation ≡ o → IsObject o → may_abort o await.Taken ≡ true
    → Led c abort (abort_taken o c s)
taken-aborted c s b (Receiving true last code) e v f =
    wants-led c abort s b true (subst CountsOf (sym e) tt) (subst NoLast (sym e) (not-true last f))
    (ap (λ (t : Bool). known answer (open_of c.operation) t (last_of c.operation) c.remote_max_packet_length c.connection_id)
    (or_true c.aborting))
taken-aborted c s b (Receiving false last code) e v f = abort_led c abort s b
taken-aborted c s b (Requesting k o h srm initial last) e v f = absurd v
taken-aborted c s b Nothing e v f = absurd v
taken-aborted c s b Connecting e v f = absurd v
taken-aborted c s b Disconnecting e v f = absurd v
taken-aborted c s b Aborting e v f = absurd v

aborts-led : (c : Client) (s : Stores) → Sits c s → (a : Await) → c.awaits ≡ a → may_abort c.operation a ≡ true → Led c abort (abort_for a c s)
aborts-led c s w await.Bytes e f = first_awaited_lem c s w e
aborts-led c s w await.Taken e f =
    taken-aborted c s w.base c.operation refl (subst (λ (y : Await). Shape y c.aborting c.operation) e w.shape).1 f
aborts-led c s w await.Call e f = abort_led c abort s w.base
aborts-led c s w await.Sent e f = abort_led c abort s w.base
aborts-led c s w await.Body e f = abort_led c abort s w.base
aborts-led c s w await.Nothing e f = abort_led c abort s w.base

and_right : (a b : Bool) → (a && b) ≡ true → b ≡ true
and_right true b h = h
and_right false b h = absurd (false≢true h)

abort_due : (c : Client) (s : Stores) → Sits c s → Due c s abort
unfolding abort_step expected
abort_due c s w =
    guarded-told c s abort w (abort_fits c) _
    (ap (λ (t : Bool). not c.aborting && t) (abort_awaited c.operation c.awaits c.aborting w.shape))
    (λ r f. led-told c s abort w goes _ refl
    (aborts-led c s w c.awaits refl (and_right (not c.aborting) (may_abort c.operation c.awaits) f)))

-- ---- bytes and the end of the stream

bytes-due : (c : Client) (s : Stores) (i : List ℕ) → Sits c s → Octets i → Due c s (bytes_offered_of i)
unfolding bytes_offered_step expected
bytes-due c s i w o =
    guarded-told c s (bytes_offered_of i) w (awaiting c await.Bytes) _ (bytes_awaited c.awaits c.operation)
    (λ r f. led-told c s (bytes_offered_of i) w goes _ refl (offered-led c s i w (room s r) (same_is c.awaits await.Bytes f) o))

ended-due : (c : Client) (s : Stores) → Sits c s → Due c s stream_ended_of
unfolding stream_ended_step expected
ended-due c s w =
    guarded-told c s stream_ended_of w (awaiting c await.Bytes || awaiting c await.Call) _
    (λ j. bytes_awaited c.awaits c.operation j || call_awaited c.awaits c.operation j)
    (λ r f. led-told c s stream_ended_of w goes _ refl
    (ends-led c stream_ended_of s w.base (pick (eqb c.begun 0) end.Disconnected end.Truncated) s))

-- ---- every list of calls

pub step-due : (c : Client) (s : Stores) (x : ClientCall) → Sits c s → OffersOctets x → Due c s x
step-due c s (connect hs) w o = connect_due c s hs w
step-due c s (disconnect hs) w o = disconnect_due c s hs w
step-due c s (put hs has) w o = put-due c s hs has w
step-due c s (get hs) w o = get_due_lem c s hs w
step-due c s requestSent w o = sent-due c s w
step-due c s (gives d) w o = body-due c s d w
step-due c s partTaken w o = taken-due c s w
step-due c s abort w o = abort_due c s w
step-due c s (bytes_offered_of i) w o = bytes-due c s i w o
step-due c s stream_ended_of w o = ended-due c s w

due-from : (c : Client) (s : Stores) (xs : List ClientCall) → Sits c s → AllOfferOctets xs
    → map (λ (x : Seen). verdict_of x.outcome) (seen c s xs) ≡ due_from (known_of c) (seen c s xs)
unfolding verdict
due-from c s [] w o = refl
due-from c s (x ∷ xs) w o =
    let m = client_step c s x in
    let d = step-due c s x w o.0 in
    let rest = seen m.took.client m.stores xs in
    (λ j. d.verdict j ∷ (due-from m.took.client m.stores xs d.sits o.1 ∙ ap (λ (k : Known). due_from k rest) (sym d.learnt)) j)

pub started_sits : (st : Settings) (s : Stores) → Sits (started st) s
unfolding started client_with
started_sits st s =
    record {
      base = record { latest = omega arith; low = omega arith; top = omega arith };
      begun = none-begun s.packet;
      counts = tt;
      shape = refl;
    }

pub client-refusals : ClientRefusals
unfolding started client_with
client-refusals st s xs r o = due-from (started st) s xs (started_sits st s) o
