-- What a run tells of a Get, move by move: what the host was asked, what it answered, and what the user was handed. Nothing is told by a move
-- that changes nothing. Assumes nothing.
use mathlib.Core.Path.{◌≡◌, refl, sym, ap, ◌∙◌}
use mathlib.Core.List.{List, [], ◌∷◌, ◌++◌, append-nil, append_assoc}
use mathlib.Core.Bool.{Bool, true, false, ◌&&◌, ◌||◌, true≢false}
use mathlib.Core.Option.{Option, none, some}
use Prim.Native.Nat.{ℕ, zero, suc}
use lib.ListN.{take}
use Rattle.base.specs.Pick.{pick}
use Rattle.journal.specs.Record.{Record, bare, joined}
use Rattle.journal.proofs.Laws.{joined-bare, joined_assoc}
use Rattle.journal.specs.Calls.{Call, bytes_offered_of, stream_ended_of, reply_taken_of, reply_given_of, object_given_of, body_given_of, body_failed_of, abort_acknowledged_of, password_given_of, nonce_given_of, credentials_given_of, connections_closed_of}
use Rattle.server.specs.declared.Refusal.TheVariants as why
use Rattle.server.specs.declared.CallKind.{CallKind}
use Rattle.server.specs.declared.CallKind.TheVariants as kind
use Rattle.server.specs.declared.Outcome.{Outcome as ServerOutcome}
use Rattle.server.specs.declared.Outcome.TheVariants as told
use Rattle.model.specs.Step.{Stores as ServerStores, Called, called, Stepped as ServerStepped, limit_of}
use Rattle.model.specs.Guard.{short as shortServer, short_tables, sound as soundServer, refuse as refuseServer, fits, guarded as guardedServer, guarded_tables, guarded_called}
use Rattle.model.specs.Calls.{reply_given_step, object_given_step, body_given_step as serverBodyStep, body_failed_step, abort_acknowledged_step, password_given_step, nonce_given_step, credentials_given_step, bytes_offered_step as serverBytesStep, offers as serverOffers}
use Rattle.model.specs.Runs.{State, step_of, keeps, Performed, performed}
use Rattle.incoming.specs.Frame.{framed}
use Rattle.client_model.specs.Step.{Stepped}
use Rattle.client_model.specs.Guard.{short, sound, awaiting, refuse, guarded}
use Rattle.client_model.specs.Calls.{bytes_offered_step, offers}
use Rattle.client_model.specs.declared.Await.TheVariants as await
use Rattle.client_model.specs.declared.Refusal.TheVariants as refusal
use Rattle.client_model.specs.declared.Outcome.{Outcome}
use Rattle.client_model.specs.declared.Outcome.TheVariants as said
use Rattle.link.specs.Link.{Link, UserCall, connect, get, disconnect, put, body, abort, partTaken, Move, user, host, sendUp, sendDown, offerUp, offerDown, closeUp, closeDown, is_answer, sends_down, reply_bytes, closes_up, server_call, move, performed_by, performed_in}
use Rattle.link.specs.Told.{goes, aborts, aborted_in, asked_by, asks, asked_in, went, Answer, answer_by, answers, answer_in, body_by, bodies, object_by, objects, object_in, first_or, reply_by, last_reply, last_reply_in, part_said, part_by_of, parts_in}
use Rattle.link.proofs.Moves.{or_else, or_false, answers-append, host_fits, user_fits, user-refused, quiet-refused, quiet-host, quiet-offer_up, quiet-offer-down, quiet-none_up, quiet-none-down, is_send, quiet_send_up, is_reply, quiet_send_down, is_end, quiet_close_up, has_ended, quiet_close_down, quiet-end-refused}

-- ---- what a run tells, so far

-- an object, and the body bytes that came behind it; or the first one that comes later
abbrev pub or_joined : Option Record → Record → Option Record → Option Record
or_joined none later rest = rest
or_joined (some o) later rest = some (joined o later)

-- what was told of a run: the headers about which the host was asked, its first reply, its first object, the first byte of the last reply that
-- went down, the parts that the user was handed, and whether an Abort went
pub record GetHeard : Type 0 where
  pub asked : List (List ℕ)
  pub answer : Option Answer
  pub object : Option Record
  pub last : Option ℕ
  pub parts : Record
  pub aborted : Bool

abbrev pub get_heard : List (List ℕ) → Option Answer → Option Record → Option ℕ → Record → Bool → GetHeard
get_heard q a o n p b = record { asked = q; answer = a; object = o; last = n; parts = p; aborted = b }

abbrev pub none_heard : GetHeard
none_heard = get_heard [] none none none bare false

-- after calls of the server
abbrev pub heard_calls : GetHeard → List Performed → Option ℕ → Record → Bool → GetHeard
heard_calls h p n r b =
    get_heard (h.asked ++ asks p) (or_else h.answer (answers p)) (or_joined h.object (bodies p) (objects p)) n (joined h.parts r)
    (h.aborted || b)

-- after one move more
abbrev pub get_heard_after : GetHeard → Link → Move → GetHeard
get_heard_after h l m = heard_calls h (performed_by l.server (server_call l m)) (reply_by h.last l m) (part_by_of l m) (aborts l m)

-- after a run
abbrev pub get_heard_in : GetHeard → Link → List Move → GetHeard
get_heard_in h l [] = h
get_heard_in h l (m ∷ ms) = get_heard_in (get_heard_after h l m) (move l m) ms

-- ---- runs, one behind the other

asks_append : (xs ys : List Performed) → asks (xs ++ ys) ≡ asks xs ++ asks ys
asks_append [] ys = refl
asks_append (x ∷ xs) ys =
    ap (λ (l : List (List ℕ)). asked_by x.result.outcome x.stores ++ l) (asks_append xs ys)
    ∙ sym (append_assoc (asked_by x.result.outcome x.stores) (asks xs) (asks ys))

bodies_by : (c : Call) (b : Bool) (r s : Record) → body_by c b (joined r s) ≡ joined (body_by c b r) s
bodies_by (body_given_of d) true r s = sym (joined_assoc (record { headers = []; body = some d }) r s)
bodies_by (body_given_of d) false r s = refl
bodies_by (bytes_offered_of i) b r s = refl
bodies_by stream_ended_of b r s = refl
bodies_by reply_taken_of b r s = refl
bodies_by (reply_given_of code hs) b r s = refl
bodies_by (object_given_of hs has) b r s = refl
bodies_by body_failed_of b r s = refl
bodies_by abort_acknowledged_of b r s = refl
bodies_by (password_given_of p) b r s = refl
bodies_by (nonce_given_of n realm) b r s = refl
bodies_by (credentials_given_of c) b r s = refl
bodies_by (connections_closed_of l) b r s = refl

bodies-append : (xs ys : List Performed) → bodies (xs ++ ys) ≡ joined (bodies xs) (bodies ys)
bodies-append [] ys = refl
bodies-append (x ∷ xs) ys =
    ap (body_by x.call (went x.result.outcome)) (bodies-append xs ys) ∙ bodies_by x.call (went x.result.outcome) (bodies xs) (bodies ys)

object_by_lem : (c : Call) (b : Bool) (r s : Record) (o u : Option Record) → object_by c b (joined r s) (or_joined o s u) ≡ or_joined (object_by c b r o) s u
object_by_lem (object_given_of hs has) true r s o u =
    ap (λ (x : Record). some x) (sym (joined_assoc (record { headers = hs; body = pick has (some []) none }) r s))
object_by_lem (object_given_of hs has) false r s o u = refl
object_by_lem (body_given_of d) b r s o u = refl
object_by_lem (bytes_offered_of i) b r s o u = refl
object_by_lem stream_ended_of b r s o u = refl
object_by_lem reply_taken_of b r s o u = refl
object_by_lem (reply_given_of code hs) b r s o u = refl
object_by_lem body_failed_of b r s o u = refl
object_by_lem abort_acknowledged_of b r s o u = refl
object_by_lem (password_given_of p) b r s o u = refl
object_by_lem (nonce_given_of n realm) b r s o u = refl
object_by_lem (credentials_given_of c) b r s o u = refl
object_by_lem (connections_closed_of l) b r s o u = refl

objects-append : (xs ys : List Performed) → objects (xs ++ ys) ≡ or_joined (objects xs) (bodies ys) (objects ys)
objects-append [] ys = refl
objects-append (x ∷ xs) ys =
    let w = went x.result.outcome in
    ap (λ (r : Record). object_by x.call w r (objects (xs ++ ys))) (bodies-append xs ys)
    ∙ ap (object_by x.call w (joined (bodies xs) (bodies ys))) (objects-append xs ys)
    ∙ object_by_lem x.call w (bodies xs) (bodies ys) (objects xs) (objects ys)

or_joined_assoc : (o : Option Record) (r s : Record) (u v : Option Record) → or_joined (or_joined o r u) s v ≡ or_joined o (joined r s) (or_joined u s v)
or_joined_assoc none r s u v = refl
or_joined_assoc (some o) r s u v = ap (λ (x : Record). some x) (joined_assoc o r s)

pub or_joined-none : (o : Option Record) → or_joined o bare none ≡ o
or_joined-none none = refl
or_joined-none (some o) = ap (λ (x : Record). some x) (joined-bare o)

or_else_assoc : {A : Type 0} (a b c : Option A) → or_else (or_else a b) c ≡ or_else a (or_else b c)
or_else_assoc none b c = refl
or_else_assoc (some a) b c = refl

pub or_none_lem : {A : Type 0} (a : Option A) → or_else a none ≡ a
or_none_lem none = refl
or_none_lem (some a) = refl

or_assoc : (a b c : Bool) → ((a || b) || c) ≡ (a || (b || c))
or_assoc true b c = refl
or_assoc false b c = refl

abbrev told_of : GetHeard → Link → List Move → GetHeard
told_of h l ms = heard_calls h (performed_in l ms) (last_reply h.last l ms) (parts_in l ms) (aborted_in l ms)

-- nothing is heard of no call
pub silent : (h : GetHeard) → heard_calls h [] h.last bare false ≡ h
silent h =
    λ i. get_heard (append-nil h.asked i) (or_none_lem h.answer i) (or_joined-none h.object i) h.last (joined-bare h.parts i)
    (or_false h.aborted i)

-- what is heard in a run is what the run tells
heard_all : (h : GetHeard) (l : Link) (ms : List Move) → get_heard_in h l ms ≡ told_of h l ms
heard_all h l [] = sym (silent h)
heard_all h l (m ∷ ms) =
    let p = performed_by l.server (server_call l m) in
    let q = performed_in (move l m) ms in
    heard_all (get_heard_after h l m) (move l m) ms
    ∙ λ i. get_heard
    ((append_assoc h.asked (asks p) (asks q) ∙ ap (λ (x : List (List ℕ)). h.asked ++ x) (sym (asks_append p q))) i)
    ((or_else_assoc h.answer (answers p) (answers q) ∙ ap (or_else h.answer) (sym (answers-append p q))) i)
    ((or_joined_assoc h.object (bodies p) (bodies q) (objects p) (objects q)
    ∙ ap (λ (r : Record). or_joined h.object r (or_joined (objects p) (bodies q) (objects q))) (sym (bodies-append p q))
    ∙ ap (or_joined h.object (bodies (p ++ q))) (sym (objects-append p q))) i)
    (last_reply (reply_by h.last l m) (move l m) ms)
    (joined_assoc h.parts (part_by_of l m) (parts_in (move l m) ms) i)
    (or_assoc h.aborted (aborts l m) (aborted_in (move l m) ms) i)

-- from the beginning of a run
pub get_heard-whole : (l : Link) (ms : List Move)
    → get_heard_in none_heard l ms ≡ get_heard (asked_in l ms) (answer_in l ms) (object_in l ms) (last_reply_in l ms) (parts_in l ms) (aborted_in l ms)
get_heard-whole l ms = heard_all none_heard l ms

-- ---- a move of which nothing is heard

pub record Untold (l : Link) (m : Move) : Type 0 where
  pub still : move l m ≡ l
  pub heard : (h : GetHeard) → get_heard_after h l m ≡ h

-- a call that does not go tells nothing
refused-asks : (o : ServerOutcome) (s : ServerStores) → went o ≡ false → asked_by o s ≡ []
refused-asks (told.Refused r) s e = refl
refused-asks told.WantsBytes s e = absurd (true≢false e)
refused-asks (told.Reply n) s e = absurd (true≢false e)
refused-asks (told.Request r) s e = absurd (true≢false e)
refused-asks (told.End x) s e = absurd (true≢false e)

none_by : (c : Call) → (answer_by c false none ≡ none) × (body_by c false bare ≡ bare) × (object_by c false bare none ≡ none)
none_by (reply_given_of code hs) = (refl, refl, refl)
none_by (bytes_offered_of i) = (refl, refl, refl)
none_by stream_ended_of = (refl, refl, refl)
none_by reply_taken_of = (refl, refl, refl)
none_by (object_given_of hs has) = (refl, refl, refl)
none_by (body_given_of d) = (refl, refl, refl)
none_by body_failed_of = (refl, refl, refl)
none_by abort_acknowledged_of = (refl, refl, refl)
none_by (password_given_of p) = (refl, refl, refl)
none_by (nonce_given_of n realm) = (refl, refl, refl)
none_by (credentials_given_of c) = (refl, refl, refl)
none_by (connections_closed_of l) = (refl, refl, refl)

refused-silent : (h : GetHeard) (c : Call) (m : Called) → went m.took.outcome ≡ false
    → heard_calls h (performed [] c m.took m.stores m.tables ∷ []) h.last bare false ≡ h
refused-silent h c m e =
    let w = none_by c in
    (λ i. get_heard (h.asked ++ (refused-asks m.took.outcome m.stores e i ++ []))
    (or_else h.answer ((ap (λ (t : Bool). answer_by c t none) e ∙ w.0) i))
    (or_joined h.object ((ap (λ (t : Bool). body_by c t bare) e ∙ w.1) i) ((ap (λ (t : Bool). object_by c t bare none) e ∙ w.2) i))
    h.last (joined h.parts bare) (h.aborted || false))
    ∙ silent h

-- the guards of the server
went_by : (s : State) (t u : Bool) (m : Called)
    → went (pick t (called (refuseServer why.StoreTooShort s.engine s.stores) s.tables)
    (pick (u && false) m (called (refuseServer why.WrongMoment s.engine s.stores) s.tables))).took.outcome ≡ false
went_by s true u m = refl
went_by s false true m = refl
went_by s false false m = refl

kept_by : (s : State) (t u : Bool) (m : ServerStepped)
    → went (pick t (refuseServer why.StoreTooShort s.engine s.stores)
    (pick (u && false) m (refuseServer why.WrongMoment s.engine s.stores))).took.outcome ≡ false
kept_by s true u m = refl
kept_by s false true m = refl
kept_by s false false m = refl

module _ (s : State) (k : CallKind) (e : fits k s.engine.awaits ≡ false) where
  guarded-refused : (m : ServerStepped) → went (guardedServer k s.engine s.stores m).took.outcome ≡ false
  guarded-refused m = rw e (kept_by s (shortServer (limit_of s.engine) s.stores) (soundServer s.engine) m)

  tables-refused : (m : ServerStepped) → went (guarded_tables k s.engine s.stores s.tables m).took.outcome ≡ false
  tables-refused m = rw e (kept_by s (short_tables s.tables || shortServer (limit_of s.engine) s.stores) (soundServer s.engine) m)

  called-refused : (m : Called) → went (guarded_called k s.engine s.stores s.tables m).took.outcome ≡ false
  called-refused m = rw e (went_by s (short_tables s.tables || shortServer (limit_of s.engine) s.stores) (soundServer s.engine) m)

answer_untold : (l : Link) (c : Call) → is_answer c ≡ true → move l (host c) ≡ l → went (step_of l.server c).took.outcome ≡ false
    → Untold l (host c)
answer_untold l c a st e =
    let i : pick (is_answer c) (some c) none ≡ some c = ap (λ (t : Bool). pick t (some c) none) a in
    record {
      still = st;
      heard = λ h. ap (λ (x : Option Call). heard_calls h (performed_by l.server x) h.last bare false) i ∙ refused-silent h c
          (step_of l.server c) e;
    }

pub untold_host : (l : Link) (c : Call) → host_fits l.server.engine.awaits c ≡ false → Untold l (host c)
unfolding reply_given_step object_given_step serverBodyStep body_failed_step abort_acknowledged_step password_given_step nonce_given_step credentials_given_step
untold_host l (bytes_offered_of i) e = record { still = (quiet-host l (bytes_offered_of i) e).still; heard = silent }
untold_host l stream_ended_of e = record { still = (quiet-host l stream_ended_of e).still; heard = silent }
untold_host l reply_taken_of e = record { still = (quiet-host l reply_taken_of e).still; heard = silent }
untold_host l (connections_closed_of x) e = record { still = (quiet-host l (connections_closed_of x) e).still; heard = silent }
untold_host l (reply_given_of code hs) e =
    answer_untold l (reply_given_of code hs) refl (quiet-host l (reply_given_of code hs) e).still (called-refused l.server kind.ReplyGiven e _)
untold_host l (object_given_of hs b) e =
    answer_untold l (object_given_of hs b) refl (quiet-host l (object_given_of hs b) e).still (guarded-refused l.server kind.ObjectGiven e _)
untold_host l (body_given_of d) e =
    answer_untold l (body_given_of d) refl (quiet-host l (body_given_of d) e).still (guarded-refused l.server kind.FromBody e _)
untold_host l body_failed_of e = answer_untold l body_failed_of refl (quiet-host l body_failed_of e).still (guarded-refused l.server kind.FromBody e _)
untold_host l abort_acknowledged_of e =
    answer_untold l abort_acknowledged_of refl (quiet-host l abort_acknowledged_of e).still (guarded-refused l.server kind.AbortAcknowledged e _)
untold_host l (password_given_of p) e =
    answer_untold l (password_given_of p) refl (quiet-host l (password_given_of p) e).still (guarded-refused l.server kind.PasswordGiven e _)
untold_host l (nonce_given_of n realm) e =
    answer_untold l (nonce_given_of n realm) refl (quiet-host l (nonce_given_of n realm) e).still (called-refused l.server kind.NonceGiven e _)
untold_host l (credentials_given_of c) e =
    answer_untold l (credentials_given_of c) refl (quiet-host l (credentials_given_of c) e).still (guarded-refused l.server kind.CredentialsGiven e _)

pub untold_refused : (l : Link) (u : UserCall) → goes l u ≡ false → Untold l (user u)
untold_refused l u e =
    record { still = (quiet-refused l u e).still; heard = λ h. ap (λ (b : Bool). heard_calls h [] h.last bare b) (none-aborts u e) ∙ silent h }
  where
    none-aborts : (u : UserCall) → goes l u ≡ false → aborts l (user u) ≡ false
    none-aborts (connect hs) e = refl
    none-aborts (get hs) e = refl
    none-aborts (disconnect hs) e = refl
    none-aborts (put hs has) e = refl
    none-aborts (body d) e = refl
    none-aborts abort e = e
    none-aborts partTaken e = refl

pub untold_user : (l : Link) (u : UserCall) → user_fits l.client u ≡ false → Untold l (user u)
untold_user l u e = untold_refused l u (user-refused l u e)

pub untold_send_up : (l : Link) → is_send l.said ≡ false → Untold l sendUp
untold_send_up l e = record { still = (quiet_send_up l e).still; heard = silent }

pub untold_send_down : (l : Link) → is_reply l.told ≡ false → Untold l sendDown
untold_send_down l e = record { still = (quiet_send_down l e).still; heard = λ h. go l.told e h }
  where
    go : (o : ServerOutcome) → is_reply o ≡ false → (h : GetHeard)
        → heard_calls h (performed_by l.server (sends_down o)) (first_or h.last (reply_bytes o l.server.stores.reply)) bare false ≡ h
    go (told.Reply n) e h = absurd (true≢false e)
    go told.WantsBytes e h = silent h
    go (told.Request r) e h = silent h
    go (told.End x) e h = silent h
    go (told.Refused r) e h = silent h

pub untold_close_down : (l : Link) → has_ended l.told ≡ false → Untold l closeDown
untold_close_down l e = record { still = (quiet_close_down l e).still; heard = silent }

-- the end of the stream is not for a client that waits for something else
pub untold_end-refused : (l : Link) → (awaiting l.client await.Bytes || awaiting l.client await.Call) ≡ false → Untold l closeDown
untold_end-refused l e = record { still = (quiet-end-refused l e).still; heard = silent }

pub untold_close_up : (l : Link) → is_end l.said ≡ false → Untold l closeUp
untold_close_up l e = record { still = (quiet_close_up l e).still; heard = λ h. go l.said l.up e h }
  where
    go : (o : Outcome) (u : List ℕ) → is_end o ≡ false → (h : GetHeard)
        → heard_calls h (performed_by l.server (closes_up o u)) h.last bare false ≡ h
    go (said.End x) u e h = absurd (true≢false e)
    go (said.Send n) u e h = silent h
    go said.Ready u e h = silent h
    go said.WantsBytes u e h = silent h
    go (said.Read n) u e h = silent h
    go (said.Part k b) u e h = silent h
    go (said.Done c n) u e h = silent h
    go (said.Stopped c n) u e h = silent h
    go (said.Aborted c n) u e h = silent h
    go (said.Refused r) u e h = silent h

pub untold_offer_up : (l : Link) (n : ℕ) → fits kind.FromPeer l.server.engine.awaits ≡ false → Untold l (offerUp n)
unfolding serverBytesStep
untold_offer_up l n e =
    let c = bytes_offered_of (take n l.up) in
    record {
      still =
          (quiet-offer_up l n e).still;
      heard = λ h. refused-silent h c (step_of l.server c) (tables-refused l.server kind.FromPeer e _);
    }

take_none : (n : ℕ) → take {A = ℕ} n [] ≡ []
take_none zero = refl
take_none (suc n) = refl

-- no bytes are asked about
none-asked : (s : State) → asked_by (step_of s (bytes_offered_of [])).took.outcome (step_of s (bytes_offered_of [])).stores ≡ []
unfolding serverBytesStep framed
none-asked s =
    go (short_tables s.tables || shortServer (limit_of s.engine) s.stores) (soundServer s.engine && fits kind.FromPeer s.engine.awaits)
  where
    go : (t u : Bool) → let m = keeps s (pick t (refuseServer why.StoreTooShort s.engine s.stores)
        (pick u (serverOffers s.engine (framed s.stores.packet s.engine.begun 0 []) s.stores s.tables)
        (refuseServer why.WrongMoment s.engine s.stores))) in
        asked_by m.took.outcome m.stores ≡ []
    go true u = refl
    go false true = refl
    go false false = refl

pub untold_none_up : (l : Link) (n : ℕ) → l.told ≡ told.WantsBytes → l.up ≡ [] → Untold l (offerUp n)
untold_none_up l n e d =
    let i : take n l.up ≡ [] = ap (take n) d ∙ take_none n in
    record {
      still = (quiet-none_up l n e d).still;
      heard =
          λ h. ap (λ (x : List ℕ). heard_calls h (performed_by l.server (some (bytes_offered_of x))) h.last bare false) i
          ∙ ap (λ (q : List (List ℕ)). get_heard (h.asked ++ (q ++ [])) (or_else h.answer none) (or_joined h.object bare none) h.last
          (joined h.parts bare) (h.aborted || false))
          (none-asked l.server)
          ∙ silent h;
    }

-- a part is handed on by bytes that come alone
guarded-part : (l : Link) (f : Bool) (m : Stepped) → f ≡ false
    → let x = guarded f l.client l.stores m in part_said x.took.outcome x.stores ≡ bare
guarded-part l f m e = rw e (go (short l.stores) (sound l.client))
  where
    go : (t u : Bool) → let x = pick t (refuse refusal.StoreTooShort l.client l.stores)
        (pick (u && false) m (refuse refusal.WrongMoment l.client l.stores)) in
        part_said x.took.outcome x.stores ≡ bare
    go true u = refl
    go false true = refl
    go false false = refl

pub untold_offer-down : (l : Link) (n : ℕ) → awaiting l.client await.Bytes ≡ false → Untold l (offerDown n)
unfolding bytes_offered_step
untold_offer-down l n e =
    record {
      still = (quiet-offer-down l n e).still;
      heard = λ h. ap (λ (r : Record). heard_calls h [] h.last r false) (guarded-part l (awaiting l.client await.Bytes) _ e) ∙ silent h;
    }

none-part : (l : Link) → let m = bytes_offered_step l.client [] l.stores in part_said m.took.outcome m.stores ≡ bare
unfolding bytes_offered_step framed
none-part l = go (short l.stores) (sound l.client && awaiting l.client await.Bytes)
  where
    go : (t u : Bool) → let m = pick t (refuse refusal.StoreTooShort l.client l.stores)
        (pick u (offers l.client (framed l.stores.packet l.client.begun 0 []) l.stores)
        (refuse refusal.WrongMoment l.client l.stores)) in
        part_said m.took.outcome m.stores ≡ bare
    go true u = refl
    go false true = refl
    go false false = refl

-- so nothing is handed on where no bytes are awaited, or none are there
pub refused-part : (l : Link) (n : ℕ) → awaiting l.client await.Bytes ≡ false → part_by_of l (offerDown n) ≡ bare
unfolding bytes_offered_step
refused-part l n e = guarded-part l (awaiting l.client await.Bytes) _ e

pub none-part-down : (l : Link) (n : ℕ) → l.down ≡ [] → part_by_of l (offerDown n) ≡ bare
none-part-down l n d =
    ap (λ (x : List ℕ). let m = bytes_offered_step l.client x l.stores in part_said m.took.outcome m.stores) (ap (take n) d ∙ take_none n) ∙
    none-part l

pub untold_none-down : (l : Link) (n : ℕ) → l.said ≡ said.WantsBytes → l.down ≡ [] → Untold l (offerDown n)
untold_none-down l n e d =
    let i : take n l.down ≡ [] = ap (take n) d ∙ take_none n in
    record {
      still = (quiet-none-down l n e d).still;
      heard =
          λ h. ap (λ (x : List ℕ). let m = bytes_offered_step l.client x l.stores in heard_calls h [] h.last
          (part_said m.took.outcome m.stores) false) i
          ∙ ap (λ (r : Record). heard_calls h [] h.last r false) (none-part l) ∙ silent h;
    }
