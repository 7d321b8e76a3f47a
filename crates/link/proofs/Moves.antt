-- Moves that change nothing, and what a run tells, move by move: a call that does not fit what its end awaits is refused and leaves the link
-- as it is; a move that has nothing to carry leaves it too. Assumes nothing.
use mathlib.Core.Path.{◌≡◌, refl, sym, ap, ◌∙◌}
use mathlib.Core.List.{List, [], ◌∷◌, ◌++◌, append-nil, append_assoc}
use mathlib.Core.Bool.{Bool, true, false, ◌&&◌, ◌||◌, not, true≢false}
use mathlib.Core.Option.{Option, none, some}
use Prim.Native.Nat.{ℕ, zero, suc}
use lib.ListN.{take, drop}
use Rattle.base.specs.Pick.{pick}
use Rattle.journal.specs.Record.{Record}
use Rattle.journal.specs.Calls.{Call, bytes_offered_of, stream_ended_of, reply_taken_of, reply_given_of, object_given_of, body_given_of, body_failed_of, abort_acknowledged_of, password_given_of, nonce_given_of, credentials_given_of, connections_closed_of}
use Rattle.server.specs.declared.Await.{Await as ServerAwait}
use Rattle.server.specs.declared.Refusal.{Refusal}
use Rattle.server.specs.declared.Refusal.TheVariants as why
use Rattle.server.specs.declared.CallKind.{CallKind}
use Rattle.server.specs.declared.CallKind.TheVariants as kind
use Rattle.server.specs.declared.Outcome.{Outcome as ServerOutcome}
use Rattle.server.specs.declared.Outcome.TheVariants as told
use Rattle.model.specs.Step.{Called, called, Stepped as ServerStepped, engine_with}
use Rattle.model.specs.Step.{limit_of}
use Rattle.model.specs.Guard.{short as shortServer, short_tables, sound as soundServer, refuse as refuseServer, fits, guarded as guardedServer, guarded_tables, guarded_called}
use Rattle.model.specs.Calls.{reply_given_step, object_given_step, body_given_step as serverBodyStep, body_failed_step, abort_acknowledged_step, password_given_step, nonce_given_step, credentials_given_step, bytes_offered_step as serverBytesStep}
use Rattle.model.specs.Runs.{State, step_of, keeps, Performed, handed, records}
use Rattle.client_model.specs.Step.{Stepped}
use Rattle.client_model.specs.declared.Refusal.TheVariants as refusal
use Rattle.client_model.specs.Guard.{short, sound, awaiting, refuse, guarded, abort_fits}
use Rattle.client_model.specs.Calls.{connect_step, request_step, disconnect_step, abort_step, body_given_step, part_taken_step, bytes_offered_step}
use Rattle.client_model.specs.declared.Client.{Client}
use Rattle.client_model.specs.declared.Await.TheVariants as await
use Rattle.client_model.specs.declared.Outcome.{Outcome}
use Rattle.client_model.specs.declared.Outcome.TheVariants as said
use Rattle.incoming.specs.Frame.{framed}
use Rattle.model.specs.Calls.{offers as serverOffers}
use Rattle.client_model.specs.Calls.{offers}
use Rattle.client_model.specs.Step.{client_with, ends, after}
use Rattle.client_model.specs.Calls.{stream_ended_step}
use Rattle.client_model.specs.declared.End.TheVariants as end
use lib.Dec.{eqb}
use Rattle.client_model.specs.Numbers.{refusal_number}
use Rattle.client_model.specs.declared.Refusal.{Refusal as Refusal'}
use Rattle.client_model.specs.Refusals as calls
use Rattle.client_model.specs.Refusals.{ClientCall, client_step, verdict_of}
use Rattle.client_model.proofs.Unmoved.{unmoved}
use Rattle.link.specs.Link.{link_with, Link, UserCall, connect, get, disconnect, put, body, abort, partTaken, Move, user, host, sendUp, sendDown, offerUp, offerDown, closeUp, closeDown, said_after, client_did, server_did, user_step, is_answer, closes_up, server_call, call_after, up_after, close_after, move, moves, performed_by, performed_in}
use Rattle.link.specs.Told.{is_refused, goes, given_by, given_in, is_final_put, sends_final, final_in, went, Answer, answer_by, answers, answer_in, records_in, reply_by, last_reply, last_reply_in}

-- ---- what a run tells, so far

-- the first of two, if there is one
abbrev pub or_else : {A : Type 0} → Option A → Option A → Option A
or_else none b = b
or_else (some a) b = some a

-- what was told of a run: the records that the host got, its first reply, the first byte of the last reply that went down, the body bytes that
-- the user gave, and whether the final packet of a Put was sent
pub record Heard : Type 0 where
  pub records : List Record
  pub answer : Option Answer
  pub last : Option ℕ
  pub given : List ℕ
  pub final : Bool

abbrev pub nothing_heard : Heard
nothing_heard = record { records = []; answer = none; last = none; given = []; final = false }

-- after one move more
abbrev pub heard_after : Heard → Link → Move → Heard
heard_after h l m =
    record {
      records = h.records ++ records (performed_by l.server (server_call l m));
      answer = or_else h.answer (answers (performed_by l.server (server_call l m)));
      last = reply_by h.last l m;
      given = h.given ++ given_by l m;
      final = h.final || sends_final l m;
    }

-- after a run
abbrev pub heard_in : Heard → Link → List Move → Heard
heard_in h l [] = h
heard_in h l (m ∷ ms) = heard_in (heard_after h l m) (move l m) ms

-- ---- runs, one behind the other

pub records-append : (xs ys : List Performed) → records (xs ++ ys) ≡ records xs ++ records ys
records-append [] ys = refl
records-append (x ∷ xs) ys =
    ap (λ (l : List Record). handed x.result.outcome x.stores ++ l) (records-append xs ys)
    ∙ sym (append_assoc (handed x.result.outcome x.stores) (records xs) (records ys))

answer_by_lem : (c : Call) (b : Bool) (x y : Option Answer) → answer_by c b (or_else x y) ≡ or_else (answer_by c b x) y
answer_by_lem (reply_given_of code hs) true x y = refl
answer_by_lem (reply_given_of code hs) false x y = refl
answer_by_lem (bytes_offered_of i) b x y = refl
answer_by_lem stream_ended_of b x y = refl
answer_by_lem reply_taken_of b x y = refl
answer_by_lem (object_given_of hs has) b x y = refl
answer_by_lem (body_given_of d) b x y = refl
answer_by_lem body_failed_of b x y = refl
answer_by_lem abort_acknowledged_of b x y = refl
answer_by_lem (password_given_of p) b x y = refl
answer_by_lem (nonce_given_of n realm) b x y = refl
answer_by_lem (credentials_given_of c) b x y = refl
answer_by_lem (connections_closed_of l) b x y = refl

pub answers-append : (xs ys : List Performed) → answers (xs ++ ys) ≡ or_else (answers xs) (answers ys)
answers-append [] ys = refl
answers-append (x ∷ xs) ys =
    ap (answer_by x.call (went x.result.outcome)) (answers-append xs ys)
    ∙ answer_by_lem x.call (went x.result.outcome) (answers xs) (answers ys)

pub performed-append : (l : Link) (xs ys : List Move) → performed_in l (xs ++ ys) ≡ performed_in l xs ++ performed_in (moves l xs) ys
performed-append l [] ys = refl
performed-append l (m ∷ xs) ys =
    let p = performed_by l.server (server_call l m) in
    ap (λ (q : List Performed). p ++ q) (performed-append (move l m) xs ys)
    ∙ sym (append_assoc p (performed_in (move l m) xs) (performed_in (moves (move l m) xs) ys))

pub moves-append : (l : Link) (xs ys : List Move) → moves l (xs ++ ys) ≡ moves (moves l xs) ys
moves-append l [] ys = refl
moves-append l (m ∷ xs) ys = moves-append (move l m) xs ys

pub records_in_append : (l : Link) (xs ys : List Move) → records_in l (xs ++ ys) ≡ records_in l xs ++ records_in (moves l xs) ys
records_in_append l xs ys = ap records (performed-append l xs ys) ∙ records-append (performed_in l xs) (performed_in (moves l xs) ys)

or_else_assoc : {A : Type 0} (a b c : Option A) → or_else (or_else a b) c ≡ or_else a (or_else b c)
or_else_assoc none b c = refl
or_else_assoc (some a) b c = refl

-- what is heard in a run is what the run tells
abbrev told_of : Heard → Link → List Move → Heard
told_of h l ms =
    record {
      records = h.records ++ records_in l ms;
      answer = or_else h.answer (answer_in l ms);
      last = last_reply h.last l ms;
      given = h.given ++ given_in l ms;
      final = h.final || final_in l ms;
    }

heard_as : (a b : List Record) (c d : Option Answer) (n : Option ℕ) (e f : List ℕ) (u v : Bool) → a ≡ b → c ≡ d → e ≡ f → u ≡ v
    → ◌≡◌ {A = Heard} (record { records = a; answer = c; last = n; given = e; final = u }) (record { records = b; answer = d; last = n; given = f; final = v })
heard_as a b c d n e f u v p q r w = λ i. record { records = p i; answer = q i; last = n; given = r i; final = w i }

pub or_false : (a : Bool) → (a || false) ≡ a
or_false true = refl
or_false false = refl

or_assoc : (a b c : Bool) → ((a || b) || c) ≡ (a || (b || c))
or_assoc true b c = refl
or_assoc false b c = refl

or_none_lem : {A : Type 0} (a : Option A) → or_else a none ≡ a
or_none_lem none = refl
or_none_lem (some a) = refl

pub heard_all : (h : Heard) (l : Link) (ms : List Move) → heard_in h l ms ≡ told_of h l ms
heard_all h l [] =
    heard_as h.records (h.records ++ []) h.answer (or_else h.answer none) h.last h.given (h.given ++ []) h.final (h.final || false) (sym (append-nil h.records))
    (sym (or_none_lem h.answer)) (sym (append-nil h.given)) (sym (or_false h.final))
heard_all h l (m ∷ ms) =
    let p = performed_by l.server (server_call l m) in
    let q = performed_in (move l m) ms in
    heard_all (heard_after h l m) (move l m) ms
    ∙ heard_as ((h.records ++ records p) ++ records q) (h.records ++ records (p ++ q))
    (or_else (or_else h.answer (answers p)) (answers q)) (or_else h.answer (answers (p ++ q))) (last_reply (reply_by h.last l m) (move l m) ms)
    ((h.given ++ given_by l m) ++ given_in (move l m) ms) (h.given ++ (given_by l m ++ given_in (move l m) ms))
    ((h.final || sends_final l m) || final_in (move l m) ms) (h.final || (sends_final l m || final_in (move l m) ms))
    (append_assoc h.records (records p) (records q) ∙ ap (λ (x : List Record). h.records ++ x) (sym (records-append p q)))
    (or_else_assoc h.answer (answers p) (answers q) ∙ ap (or_else h.answer) (sym (answers-append p q)))
    (append_assoc h.given (given_by l m) (given_in (move l m) ms)) (or_assoc h.final (sends_final l m) (final_in (move l m) ms))

-- from the beginning of a run
pub heard-whole : (l : Link) (ms : List Move)
    → heard_in nothing_heard l ms ≡ record { records = records_in l ms; answer = answer_in l ms; last = last_reply_in l ms; given = given_in l ms; final = final_in l ms }
heard-whole l ms = heard_all nothing_heard l ms

-- ---- a move that changes nothing

pub record Quiet (l : Link) (m : Move) : Type 0 where
  pub still : move l m ≡ l
  pub heard : (h : Heard) → heard_after h l m ≡ h

-- nothing is heard of a move that makes no call on the server
pub silent : (h : Heard) → ◌≡◌ {A = Heard} (record { records = h.records ++ []; answer = or_else h.answer none; last = h.last; given = h.given ++ []; final = h.final || false }) h
silent h =
    heard_as (h.records ++ []) h.records (or_else h.answer none) h.answer h.last (h.given ++ []) h.given (h.final || false) h.final (append-nil h.records)
    (or_none_lem h.answer) (append-nil h.given) (or_false h.final)

-- ---- the client's calls

-- the call of the user fits what the client awaits
abbrev pub user_fits : Client → UserCall → Bool
user_fits c (connect hs) = awaiting c await.Call
user_fits c (get hs) = awaiting c await.Call
user_fits c (disconnect hs) = awaiting c await.Call
user_fits c (put hs has) = awaiting c await.Call
user_fits c (body d) = awaiting c await.Body
user_fits c abort = abort_fits c
user_fits c partTaken = awaiting c await.Taken

-- a step that is guarded by a test that fails
abbrev stays : Link → Stepped → Type 0
stays l m = (client_did l m l.up (drop m.took.taken l.down) ≡ l) × (is_refused m.took.outcome ≡ true) × (m.took.taken ≡ 0)

guarded-stays : (l : Link) (f : Bool) (m : Stepped) → f ≡ false → stays l (guarded f l.client l.stores m)
guarded-stays l f m e = rw e (go (short l.stores) (sound l.client))
  where
    go : (t u : Bool) → stays l (pick t (refuse refusal.StoreTooShort l.client l.stores)
        (pick (u && false) m (refuse refusal.WrongMoment l.client l.stores)))
    go true u = (refl, refl, refl)
    go false true = (refl, refl, refl)
    go false false = (refl, refl, refl)

user-stays : (l : Link) (u : UserCall) → user_fits l.client u ≡ false → stays l (user_step l u)
unfolding connect_step request_step disconnect_step body_given_step abort_step part_taken_step
user-stays l (connect hs) e = guarded-stays l (awaiting l.client await.Call) _ e
user-stays l (get hs) e = guarded-stays l (awaiting l.client await.Call) _ e
user-stays l (disconnect hs) e = guarded-stays l (awaiting l.client await.Call) _ e
user-stays l (put hs has) e = guarded-stays l (awaiting l.client await.Call) _ e
user-stays l (body d) e = guarded-stays l (awaiting l.client await.Body) _ e
user-stays l abort e = guarded-stays l (abort_fits l.client) _ e
user-stays l partTaken e = guarded-stays l (awaiting l.client await.Taken) _ e

pub user-refused : (l : Link) (u : UserCall) → user_fits l.client u ≡ false → goes l u ≡ false
user-refused l u e = ap not (user-stays l u e).1

-- what is given counts only if the call goes
pub none-given : (l : Link) (u : UserCall) → user_fits l.client u ≡ false → given_by l (user u) ≡ []
none-given l (connect hs) e = refl
none-given l (get hs) e = refl
none-given l (disconnect hs) e = refl
none-given l (put hs has) e = refl
none-given l (body d) e = ap (λ (t : Bool). pick t d []) (user-refused l (body d) e)
none-given l abort e = refl
none-given l partTaken e = refl

pub quiet-user : (l : Link) (u : UserCall) → user_fits l.client u ≡ false → Quiet l (user u)
unfolding move
quiet-user l u e =
    let w = user-stays l u e in
    record {
      still =
          ap (λ (n : ℕ). client_did l (user_step l u) l.up (drop n l.down)) (sym w.2) ∙ w.0;
      heard = λ h. ap (λ (x : List ℕ). record { records = h.records ++ []; answer = or_else h.answer none; last = h.last; given = h.given ++ x; final = h.final || false }) (none-given l u e) ∙ silent h;
    }

pub quiet-offer-down : (l : Link) (n : ℕ) → awaiting l.client await.Bytes ≡ false → Quiet l (offerDown n)
unfolding move bytes_offered_step
quiet-offer-down l n e = record { still = (guarded-stays l (awaiting l.client await.Bytes) _ e).0; heard = silent }

-- ---- the server's calls

-- the host's answer fits what the server awaits
abbrev pub host_fits : ServerAwait → Call → Bool
host_fits a (bytes_offered_of i) = false
host_fits a stream_ended_of = false
host_fits a reply_taken_of = false
host_fits a (connections_closed_of l) = false
host_fits a (reply_given_of code hs) = fits kind.ReplyGiven a
host_fits a (object_given_of hs b) = fits kind.ObjectGiven a
host_fits a (body_given_of d) = fits kind.FromBody a
host_fits a body_failed_of = fits kind.FromBody a
host_fits a abort_acknowledged_of = fits kind.AbortAcknowledged a
host_fits a (password_given_of p) = fits kind.PasswordGiven a
host_fits a (nonce_given_of n realm) = fits kind.NonceGiven a
host_fits a (credentials_given_of c) = fits kind.CredentialsGiven a

-- a call that leaves the server as it is, and of which nothing is heard
abbrev rests : Link → Called → Type 0
rests l m =
    (server_did l m (drop m.took.taken l.up) l.down ≡ l) × (handed m.took.outcome m.stores ≡ []) × (went m.took.outcome ≡ false)

-- no reply is given by a call that is refused
none-answered : (c : Call) (rest : Option Answer) → answer_by c false rest ≡ rest
none-answered (reply_given_of code hs) rest = refl
none-answered (bytes_offered_of i) rest = refl
none-answered stream_ended_of rest = refl
none-answered reply_taken_of rest = refl
none-answered (object_given_of hs has) rest = refl
none-answered (body_given_of d) rest = refl
none-answered body_failed_of rest = refl
none-answered abort_acknowledged_of rest = refl
none-answered (password_given_of p) rest = refl
none-answered (nonce_given_of n realm) rest = refl
none-answered (credentials_given_of c) rest = refl
none-answered (connections_closed_of l) rest = refl

abbrev refuses : Link → Refusal → Called
refuses l r = called (refuseServer r l.server.engine l.server.stores) l.server.tables

-- by whether a store is short, and whether the state is sound
rests_by : (l : Link) (t u : Bool) (m : Called) → rests l (pick t (refuses l why.StoreTooShort) (pick (u && false) m (refuses l why.WrongMoment)))
rests_by l true u m = (refl, refl, refl)
rests_by l false true m = (refl, refl, refl)
rests_by l false false m = (refl, refl, refl)

-- the same with the table store beside it
kept_by : (l : Link) (t u : Bool) (m : ServerStepped)
    → rests l (keeps l.server (pick t (refuseServer why.StoreTooShort l.server.engine l.server.stores)
    (pick (u && false) m (refuseServer why.WrongMoment l.server.engine l.server.stores))))
kept_by l true u m = (refl, refl, refl)
kept_by l false true m = (refl, refl, refl)
kept_by l false false m = (refl, refl, refl)

module _ (l : Link) (k : CallKind) (e : fits k l.server.engine.awaits ≡ false) where
  guarded-rests : (m : ServerStepped) → rests l (keeps l.server (guardedServer k l.server.engine l.server.stores m))
  guarded-rests m =
      let s = l.server in
      rw e (kept_by l (shortServer (limit_of s.engine) s.stores) (soundServer s.engine) m)

  tables-rests : (m : ServerStepped)
      → rests l (keeps l.server (guarded_tables k l.server.engine l.server.stores l.server.tables m))
  tables-rests m =
      let s = l.server in
      rw e (kept_by l (short_tables s.tables || shortServer (limit_of s.engine) s.stores) (soundServer s.engine) m)

  called-rests : (m : Called) → rests l (guarded_called k l.server.engine l.server.stores l.server.tables m)
  called-rests m =
      let s = l.server in
      rw e (rests_by l (short_tables s.tables || shortServer (limit_of s.engine) s.stores) (soundServer s.engine) m)

-- nothing is heard of it
rests-silent : (l : Link) (c : Call) (m : Called) (h : Heard) → rests l m
    → ◌≡◌ {A = Heard}
    (record {
      records = h.records ++ (handed m.took.outcome m.stores ++ []);
      answer = or_else h.answer (answer_by c (went m.took.outcome) none);
      last = h.last;
      given = h.given ++ [];
      final = h.final || false;
    })
    h
rests-silent l c m h w = rw (w.1, w.2, none-answered c none) (silent h)

-- an answer of the host that does not fit
rests-answer : (l : Link) (c : Call) → is_answer c ≡ true → rests l (step_of l.server c) → Quiet l (host c)
unfolding move
rests-answer l c a w =
    let i : pick (is_answer c) (some c) none ≡ some c = ap (λ (t : Bool). pick t (some c) none) a in
    record {
      still = ap (λ (x : Option Call). call_after x l l.down) i ∙ w.0;
      heard =
          λ h. ap (λ (x : Option Call). record {
            records = h.records ++ records (performed_by l.server x);
            answer = or_else h.answer (answers (performed_by l.server x));
            last = h.last;
            given = h.given ++ [];
            final = h.final || false;
          }) i ∙ rests-silent l c (step_of l.server c) h w;
    }

pub quiet-host : (l : Link) (c : Call) → host_fits l.server.engine.awaits c ≡ false → Quiet l (host c)
unfolding move reply_given_step object_given_step serverBodyStep body_failed_step abort_acknowledged_step password_given_step nonce_given_step credentials_given_step
quiet-host l (bytes_offered_of i) e = record { still = refl; heard = silent }
quiet-host l stream_ended_of e = record { still = refl; heard = silent }
quiet-host l reply_taken_of e = record { still = refl; heard = silent }
quiet-host l (connections_closed_of x) e = record { still = refl; heard = silent }
quiet-host l (reply_given_of code hs) e = rests-answer l (reply_given_of code hs) refl (called-rests l kind.ReplyGiven e _)
quiet-host l (object_given_of hs b) e = rests-answer l (object_given_of hs b) refl (guarded-rests l kind.ObjectGiven e _)
quiet-host l (body_given_of d) e = rests-answer l (body_given_of d) refl (guarded-rests l kind.FromBody e _)
quiet-host l body_failed_of e = rests-answer l body_failed_of refl (guarded-rests l kind.FromBody e _)
quiet-host l abort_acknowledged_of e = rests-answer l abort_acknowledged_of refl (guarded-rests l kind.AbortAcknowledged e _)
quiet-host l (password_given_of p) e = rests-answer l (password_given_of p) refl (guarded-rests l kind.PasswordGiven e _)
quiet-host l (nonce_given_of n realm) e = rests-answer l (nonce_given_of n realm) refl (called-rests l kind.NonceGiven e _)
quiet-host l (credentials_given_of c) e = rests-answer l (credentials_given_of c) refl (guarded-rests l kind.CredentialsGiven e _)

pub quiet-offer_up : (l : Link) (n : ℕ) → fits kind.FromPeer l.server.engine.awaits ≡ false → Quiet l (offerUp n)
unfolding move serverBytesStep
quiet-offer_up l n e =
    let c = bytes_offered_of (take n l.up) in
    let w = tables-rests l kind.FromPeer e _ in
    record { still = w.0; heard = λ h. rests-silent l c (step_of l.server c) h w }

-- ---- moves that have nothing to carry

abbrev pub is_send : Outcome → Bool
is_send (said.Send n) = true
is_send said.Ready = false
is_send said.WantsBytes = false
is_send (said.Read n) = false
is_send (said.Part k b) = false
is_send (said.Done c n) = false
is_send (said.Stopped c n) = false
is_send (said.Aborted c n) = false
is_send (said.End x) = false
is_send (said.Refused r) = false

pub quiet_send_up : (l : Link) → is_send l.said ≡ false → Quiet l sendUp
unfolding move
quiet_send_up l e =
    record {
      still = go l.said e;
      heard =
          λ h. ap (λ (t : Bool). record { records = h.records ++ []; answer = or_else h.answer none; last = h.last; given = h.given ++ []; final = h.final || t })
          (none-final l.said e)
          ∙ silent h;
    }
  where
    none-final : (o : Outcome) → is_send o ≡ false → is_final_put o l.stores.request ≡ false
    none-final (said.Send n) e = absurd (true≢false e)
    none-final said.Ready e = refl
    none-final said.WantsBytes e = refl
    none-final (said.Read n) e = refl
    none-final (said.Part k b) e = refl
    none-final (said.Done c n) e = refl
    none-final (said.Stopped c n) e = refl
    none-final (said.Aborted c n) e = refl
    none-final (said.End x) e = refl
    none-final (said.Refused r) e = refl

    go : (o : Outcome) → is_send o ≡ false → up_after o l ≡ l
    go (said.Send n) e = absurd (true≢false e)
    go said.Ready e = refl
    go said.WantsBytes e = refl
    go (said.Read n) e = refl
    go (said.Part k b) e = refl
    go (said.Done c n) e = refl
    go (said.Stopped c n) e = refl
    go (said.Aborted c n) e = refl
    go (said.End x) e = refl
    go (said.Refused r) e = refl

abbrev pub is_reply : ServerOutcome → Bool
is_reply (told.Reply n) = true
is_reply told.WantsBytes = false
is_reply (told.Request r) = false
is_reply (told.End x) = false
is_reply (told.Refused r) = false

pub quiet_send_down : (l : Link) → is_reply l.told ≡ false → Quiet l sendDown
unfolding move
quiet_send_down l e = go l.told refl e
  where
    go : (o : ServerOutcome) → l.told ≡ o → is_reply o ≡ false → Quiet l sendDown
    go (told.Reply n) i e = absurd (true≢false e)
    go told.WantsBytes i e = record { still = rw i; heard = λ h. rw i (silent h) }
    go (told.Request r) i e = record { still = rw i; heard = λ h. rw i (silent h) }
    go (told.End x) i e = record { still = rw i; heard = λ h. rw i (silent h) }
    go (told.Refused r) i e = record { still = rw i; heard = λ h. rw i (silent h) }

abbrev pub is_end : Outcome → Bool
is_end (said.End x) = true
is_end (said.Send n) = false
is_end said.Ready = false
is_end said.WantsBytes = false
is_end (said.Read n) = false
is_end (said.Part k b) = false
is_end (said.Done c n) = false
is_end (said.Stopped c n) = false
is_end (said.Aborted c n) = false
is_end (said.Refused r) = false

pub quiet_close_up : (l : Link) → is_end l.said ≡ false → Quiet l closeUp
unfolding move
quiet_close_up l e = go (closes_up l.said l.up) (none-closes l.said l.up e) refl
  where
    none-closes : (o : Outcome) (u : List ℕ) → is_end o ≡ false → closes_up o u ≡ none
    none-closes (said.End x) u e = absurd (true≢false e)
    none-closes (said.Send n) u e = refl
    none-closes said.Ready u e = refl
    none-closes said.WantsBytes u e = refl
    none-closes (said.Read n) u e = refl
    none-closes (said.Part k b) u e = refl
    none-closes (said.Done c n) u e = refl
    none-closes (said.Stopped c n) u e = refl
    none-closes (said.Aborted c n) u e = refl
    none-closes (said.Refused r) u e = refl

    go : (c : Option Call) → c ≡ none → closes_up l.said l.up ≡ c → Quiet l closeUp
    go c i k = let j = k ∙ i in record { still = rw j; heard = λ h. rw j (silent h) }

abbrev pub has_ended : ServerOutcome → Bool
has_ended (told.End x) = true
has_ended (told.Reply n) = false
has_ended told.WantsBytes = false
has_ended (told.Request r) = false
has_ended (told.Refused r) = false

pub quiet_close_down : (l : Link) → has_ended l.told ≡ false → Quiet l closeDown
unfolding move
quiet_close_down l e = record { still = go l.told e; heard = silent }
  where
    go : (o : ServerOutcome) → has_ended o ≡ false → close_after o l.down l ≡ l
    go (told.End x) e = absurd (true≢false e)
    go (told.Reply n) e = refl
    go told.WantsBytes e = refl
    go (told.Request r) e = refl
    go (told.Refused r) e = refl

-- ---- a call of the user that is refused, for whatever reason

abbrev call_of : UserCall → ClientCall
call_of (connect hs) = calls.connect hs
call_of (get hs) = calls.get hs
call_of (disconnect hs) = calls.disconnect hs
call_of (put hs has) = calls.put hs has
call_of (body d) = calls.body_given_of d
call_of abort = calls.abort
call_of partTaken = calls.partTaken

-- such a call is the client's own
same-call : (l : Link) (u : UserCall) → client_step l.client l.stores (call_of u) ≡ user_step l u
same-call l (connect hs) = refl
same-call l (get hs) = refl
same-call l (disconnect hs) = refl
same-call l (put hs has) = refl
same-call l (body d) = refl
same-call l abort = refl
same-call l partTaken = refl

-- the number of a refusal
numbered : (o : Outcome) → not (is_refused o) ≡ false → (r : Refusal') × (o ≡ said.Refused r)
numbered (said.Refused r) e = (r, refl)
numbered said.Ready e = absurd (true≢false e)
numbered (said.Send n) e = absurd (true≢false e)
numbered said.WantsBytes e = absurd (true≢false e)
numbered (said.Read n) e = absurd (true≢false e)
numbered (said.Part k b) e = absurd (true≢false e)
numbered (said.Done c n) e = absurd (true≢false e)
numbered (said.Stopped c n) e = absurd (true≢false e)
numbered (said.Aborted c n) e = absurd (true≢false e)
numbered (said.End x) e = absurd (true≢false e)

given_if : (l : Link) (u : UserCall) → goes l u ≡ false → given_by l (user u) ≡ []
given_if l (connect hs) e = refl
given_if l (get hs) e = refl
given_if l (disconnect hs) e = refl
given_if l (put hs has) e = refl
given_if l (body d) e = ap (λ (t : Bool). pick t d []) e
given_if l abort e = refl
given_if l partTaken e = refl

pub quiet-refused : (l : Link) (u : UserCall) → goes l u ≡ false → Quiet l (user u)
unfolding move
quiet-refused l u e =
    let m = user_step l u in
    let r = numbered m.took.outcome e in
    let w = unmoved l.client l.stores (call_of u) (refusal_number r.0)
    (ap (λ (x : Stepped). verdict_of x.took.outcome) (same-call l u) ∙ ap verdict_of r.1) in
    let c : m.took.client ≡ l.client = ap (λ (x : Stepped). x.took.client) (sym (same-call l u)) ∙ w.0 in
    let t : m.stores ≡ l.stores = ap (λ (x : Stepped). x.stores) (sym (same-call l u)) ∙ w.1 in
    record {
      still =
          λ i. link_with (c i) (t i) (ap (said_after l.said) r.1 i) l.server l.told l.up l.down;
      heard = λ h. ap (λ (x : List ℕ). record { records = h.records ++ []; answer = or_else h.answer none; last = h.last; given = h.given ++ x; final = h.final || false }) (given_if l u e) ∙ silent h;
    }

-- ---- nothing to offer

-- no bytes leave the client as it is
none-offered : (l : Link) → l.said ≡ said.WantsBytes
    → client_did l (bytes_offered_step l.client [] l.stores) l.up (drop (bytes_offered_step l.client [] l.stores).took.taken l.down) ≡ l
unfolding bytes_offered_step framed client_with
none-offered l e = go (short l.stores) (sound l.client && awaiting l.client await.Bytes)
  where
    go : (t u : Bool) → let m = pick t (refuse refusal.StoreTooShort l.client l.stores)
        (pick u (offers l.client (framed l.stores.packet l.client.begun 0 []) l.stores) (refuse refusal.WrongMoment l.client l.stores)) in
        client_did l m l.up (drop m.took.taken l.down) ≡ l
    go true u = refl
    go false true = ap (λ (o : Outcome). link_with l.client l.stores o l.server l.told l.up l.down) (sym e)
    go false false = refl

pub quiet-none-down : (l : Link) (n : ℕ) → l.said ≡ said.WantsBytes → l.down ≡ [] → Quiet l (offerDown n)
unfolding move
quiet-none-down l n e d =
    let i : take n l.down ≡ [] = ap (take n) d ∙ take_none n in
    record {
      still = ap (λ (x : List ℕ). client_did l (bytes_offered_step l.client x l.stores) l.up (drop (bytes_offered_step l.client x l.stores).took.taken l.down)) i ∙ none-offered l e;
      heard = silent;
    }
  where
    take_none : (n : ℕ) → take {A = ℕ} n [] ≡ []
    take_none zero = refl
    take_none (suc n) = refl

-- and the server
server-none : (l : Link) → l.told ≡ told.WantsBytes → let m = step_of l.server (bytes_offered_of []) in
    (server_did l m (drop m.took.taken l.up) l.down ≡ l) × (handed m.took.outcome m.stores ≡ [])
unfolding serverBytesStep framed engine_with
server-none l e =
    go (short_tables l.server.tables || shortServer (limit_of l.server.engine) l.server.stores)
    (soundServer l.server.engine && fits kind.FromPeer l.server.engine.awaits)
  where
    s : State
    s = l.server

    go : (t u : Bool) → let m = keeps l.server (pick t (refuseServer why.StoreTooShort s.engine s.stores)
        (pick u (serverOffers s.engine (framed s.stores.packet s.engine.begun 0 []) s.stores s.tables) (refuseServer why.WrongMoment s.engine s.stores))) in
        (server_did l m (drop m.took.taken l.up) l.down ≡ l) × (handed m.took.outcome m.stores ≡ [])
    go true u = (refl, refl)
    go false true = (ap (λ (o : ServerOutcome). link_with l.client l.stores l.said l.server o l.up l.down) (sym e), refl)
    go false false = (refl, refl)

pub quiet-none_up : (l : Link) (n : ℕ) → l.told ≡ told.WantsBytes → l.up ≡ [] → Quiet l (offerUp n)
unfolding move
quiet-none_up l n e d =
    let i : take n l.up ≡ [] = ap (take n) d ∙ take_none n in
    let w = server-none l e in
    record {
      still = ap (λ (x : List ℕ). call_after (some (bytes_offered_of x)) l l.down) i ∙ w.0;
      heard =
          λ h. ap (λ (x : List ℕ). record {
            records = h.records ++ records (performed_by l.server (some (bytes_offered_of x)));
            answer = or_else h.answer none;
            last = h.last;
            given = h.given ++ [];
            final = h.final || false;
          }) i ∙ rw w.1 (silent h);
    }
  where
    take_none : (n : ℕ) → take {A = ℕ} n [] ≡ []
    take_none zero = refl
    take_none (suc n) = refl

-- ---- the end of the server's stream comes at a wrong moment

pub quiet-end-refused : (l : Link) → (awaiting l.client await.Bytes || awaiting l.client await.Call) ≡ false → Quiet l closeDown
unfolding move stream_ended_step
quiet-end-refused l e = record { still = go l.told l.down refl; heard = silent }
  where
    refused : client_did l (stream_ended_step l.client l.stores) l.up l.down ≡ l
    refused =
        let w = guarded-stays l (awaiting l.client await.Bytes || awaiting l.client await.Call)
        (after 0 (ends l.client (pick (eqb l.client.begun 0) end.Disconnected end.Truncated) l.stores)) e in
        ap (λ (n : ℕ). client_did l (stream_ended_step l.client l.stores) l.up (drop n l.down)) (sym w.2) ∙ w.0

    go : (o : ServerOutcome) (d : List ℕ) → l.down ≡ d → close_after o d l ≡ l
    go (told.End x) [] i = refused
    go (told.End x) (b ∷ d) i = refl
    go (told.Reply n) d i = refl
    go told.WantsBytes d i = refl
    go (told.Request r) d i = refl
    go (told.Refused r) d i = refl
