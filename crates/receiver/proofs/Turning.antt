-- The turns of the program are turns of a receiver: what each decides is what may be done with the record that waits, if one does, and its call is
-- the model's step. So one turn more is one step more of a run, and a run from an accepted start is one of which the theorem speaks. Assumes nothing.
use Rattle.std.proofs.Common.{◌≡◌, ℕ, Bool, true, false, ◌||◌, List, [], ◌∷◌, ◌++◌, sym, refl, ap, ◌∙◌, subst}
use mathlib.Core.Option.{Option}
use Rattle.std.specs.Prelude.{Some, None}
use Rattle.base.specs.Pick.{pick}
use Rattle.table.specs.Targets.{target_bytes, unnamed}
use Rattle.connection.specs.Peer.{fresh_peer}
use Rattle.journal.specs.Calls.{Call}
use Rattle.server.specs.declared.CallResult.{CallResult}
use Rattle.server.specs.declared.HostRequest.{HostRequest}
use Rattle.server.specs.declared.HostRequest.TheVariants as request
use Rattle.server.specs.declared.Outcome.{Outcome}
use Rattle.server.specs.declared.Outcome.TheVariants as outcome
use Rattle.server.specs.declared.Await.TheVariants as await
use Rattle.server.specs.declared.Operation.TheVariants.{Nothing}
use Rattle.server.specs.declared.Refusal.TheVariants as refusal
use Rattle.model.specs.Step.{Stores, engine_with, Stepped, stepped, Called, called}
use Rattle.model.specs.Guard.{refuse, short, short_tables, long_realm}
use Rattle.model.specs.Calls.{started, start_step}
use Rattle.model.specs.Runs.{State, Says, next, state_of, handed, handed_by}
use Rattle.server.specs.declared.Settings.{Settings}
use Rattle.filing.specs.Entries.{Handed, handed_under}
use Rattle.reception.specs.declared.answer.Answer.{Answer}
use Rattle.reception.specs.declared.answer.Answer.TheVariants as answer
use Rattle.reception.specs.declared.answer.Decision.{Decision}
use Rattle.reception.specs.declared.answer.Decision.TheVariants.{Make, Leave}
use Rattle.reception.specs.Answers.{call_of, lending}
use Rattle.reception.specs.Received.{handed_at, handed_with}
use Rattle.reception.specs.Turns.{ReceiverTurn, call_in, turned, Decided, free, filed}
use Rattle.reception.proofs.Turned.{turn-adds}
use Rattle.reception.proofs.Joined.{turns_receive}
use Rattle.receiver.specs.Filing.{DecidesOn}
use Rattle.receiver.specs.Turning.{attempts_by, Turned, made, quiet, Run, RunReceives}
use Rattle.receiver.specs.declared.record.Tried.{Tried}
use Rattle.receiver.specs.declared.turn.Receiving.{Receiving}

-- ---- what is decided

-- no record waits
pub none-waits : (before : CallResult) (s : Stores) → handed before.outcome s ≡ [] → handed_with before s ≡ []
none-waits before s e = ap (handed_under (target_bytes before.engine.target)) e

-- then every call may be made
pub free_to : (w : List Handed) (t : Tried) (c : Call) → w ≡ [] → Decided w (attempts_by t w) c
free_to w t c e = subst (λ (l : List Handed). Decided l (attempts_by t l) c) (sym e) (free c)

-- the decision that is made
abbrev answer_in : Decision → Answer
answer_in (Make a) = a
answer_in (Leave n) = answer.End

-- what is decided on a request may be done with the record that it hands over
on_request : (q : HostRequest) (s : Stores) (n : Option (List ℕ)) (t : Tried) (a : Answer) (lent : List ℕ) → DecidesOn q t (Make a)
    → Decided (handed_under n (handed_by q s)) (attempts_by t (handed_under n (handed_by q s))) (call_of a lent)
on_request (request.Put k (Some m)) s n t a lent h = filed _ (call_of a lent) (ap (λ (d : Decision). call_of (answer_in d) lent) h)
on_request (request.Put k None) s n t a lent h = filed _ (call_of a lent) (ap (λ (d : Decision). call_of (answer_in d) lent) h)
on_request (request.Connect m) s n t a lent h = free (call_of a lent)
on_request (request.Disconnect m) s n t a lent h = free (call_of a lent)
on_request (request.SetPath m u c) s n t a lent h = free (call_of a lent)
on_request (request.Abort m) s n t a lent h = free (call_of a lent)
on_request (request.Get k) s n t a lent h = free (call_of a lent)
on_request (request.Action k) s n t a lent h = free (call_of a lent)
on_request (request.Session k) s n t a lent h = free (call_of a lent)
on_request (request.UserDefined o k) s n t a lent h = free (call_of a lent)
on_request (request.Password u) s n t a lent h = free (call_of a lent)
on_request request.Nonce s n t a lent h = free (call_of a lent)
on_request (request.Credentials m u r p) s n t a lent h = free (call_of a lent)
on_request (request.Read m) s n t a lent h = free (call_of a lent)

pub decided_on : (before : CallResult) (s : Stores) (q : HostRequest) (t : Tried) (a : Answer) (lent : List ℕ)
    → before.outcome ≡ outcome.Request q → DecidesOn q t (Make a)
    → Decided (handed_with before s) (attempts_by t (handed_with before s)) (call_of a lent)
decided_on before s q t a lent e h =
    let n = target_bytes before.engine.target in
    subst (λ (o : Outcome). Decided (handed_under n (handed o s)) (attempts_by t (handed_under n (handed o s))) (call_of a lent)) (sym e)
    (on_request q s n t a lent h)

-- ---- a turn

-- the request is one of the client's bytes or a reply's, and hands nothing over
pub wants-none : (o : Outcome) (s : Stores) → o ≡ outcome.WantsBytes → handed o s ≡ []
wants-none o s e = ap (λ (x : Outcome). handed x s) e

pub reply-none : (o : Outcome) (n : ℕ) (s : Stores) → o ≡ outcome.Reply n → handed o s ≡ []
reply-none o n s e = ap (λ (x : Outcome). handed x s) e

module _ (before took : CallResult) (s u : Stores) (t v : List ℕ) (r : Receiving) (a : Answer) (lent : List ℕ) (e : r.took ≡ took)
    (y : Says (lending before.engine s t) (call_of a lent) (called (stepped took u) v)) where
  says : Says (lending before.engine s t) (call_of a lent) (called (stepped r.took u) v)
  says = subst (λ (k : CallResult). Says (lending before.engine s t) (call_of a lent) (called (stepped k u) v)) (sym e) y

  -- no record waited
  pub free-turn : handed before.outcome s ≡ [] → Turned before s t r u v
  free-turn h = made a lent (free_to (handed_with before s) r.tried (call_of a lent) (none-waits before s h)) says

  -- nor did one before a reply was written, after which it was decided to go on
  pub sent-turn : (d : Decision) → d ≡ Make a → handed before.outcome s ≡ [] → Turned before s t r u v
  sent-turn d m h = free-turn h

  -- a request was decided on
  pub answered-turn : (q : HostRequest) (x : Tried) (d : Decision) → before.outcome ≡ outcome.Request q → r.tried ≡ x → DecidesOn q x d
      → d ≡ Make a
      → Turned before s t r u v
  answered-turn q x d p w h m =
      made a lent
      (subst (λ (z : Tried). Decided (handed_with before s) (attempts_by z (handed_with before s)) (call_of a lent)) (sym w)
      (decided_on before s q x a lent p (subst (λ (z : Decision). DecidesOn q x z) m h)))
      says

-- ---- runs

-- a start hands nothing over, whichever of three it comes to
one_of_three : (u : Stores) (x z : Bool) (k l m : Stepped) → handed k.took.outcome u ≡ [] → handed l.took.outcome u ≡ []
    → handed m.took.outcome u ≡ [] → handed (pick x k (pick z l m)).took.outcome u ≡ []
one_of_three u true z k l m e f g = e
one_of_three u false true k l m e f g = f
one_of_three u false false k l m e f g = g

start_hands : (st : Settings) (l : List ℕ) (s : Stores) (t : List ℕ) (u : Stores) → handed (start_step st l s t).took.outcome u ≡ []
unfolding start_step
start_hands st l s t u =
    let ended = engine_with st fresh_peer Nothing await.Nothing 0 0 unnamed in
    one_of_three u (short_tables t || short st.max_object_size s) (long_realm st l) (refuse refusal.StoreTooShort ended s)
    (refuse refusal.BadAnswer ended s) (stepped (record { engine = started st; taken = 0; outcome = outcome.WantsBytes }) s) refl refl refl

pub started_none : (r : CallResult) (u : Stores) (st : Settings) (l : List ℕ) (s : Stores) (t : List ℕ) → stepped r u ≡ start_step st l s t
    → handed r.outcome u ≡ []
started_none r u st l s t e = ap (λ (m : Stepped). handed m.took.outcome u) e ∙ start_hands st l s t u

-- no turn yet
pub begun : (r : Receiving) (u : Stores) (v : List ℕ) → handed r.took.outcome u ≡ [] → Run (lending r.took.engine u v) r u v
begun r u v e = record { turns = []; right = tt; state = refl; waits = sym (none-waits r.took u e) }

-- one turn more
pub turned-adds : (s : State) (x r : Receiving) (w u : Stores) (t v : List ℕ) → Run s x w t → Turned x.took w t r u v → Run s r u v
turned-adds s x r w u t v h (made a lent d y) =
    let m : ReceiverTurn = record { attempts = attempts_by r.tried (handed_with x.took w); answer = a; lent = lent } in
    let g =
    turn-adds s h.turns m h.right (subst (λ (l : List Handed). Decided l m.attempts (call_in m)) (sym h.waits) d) y.octets
    in
    record {
      turns = h.turns ++ (m ∷ []);
      right = g.turns;
      state = g.state ∙ ap (λ (z : State). next (turned z m)) h.state ∙ sym (ap state_of y.step);
      waits =
          g.waits ∙ ap (λ (z : State). handed_at (turned z m)) h.state
          ∙ sym (ap (λ (k : Called). handed_with k.took k.stores) y.step);
    }
turned-adds s x r w u t v h (quiet p q z) =
    record {
      turns = h.turns;
      right = h.right;
      state =
          h.state ∙ sym (ap (λ (k : CallResult). lending k.engine w t) p) ∙ sym (ap (λ (l : Stores). lending r.took.engine l t) q)
          ∙ sym (ap (λ (l : List ℕ). lending r.took.engine u l) z);
      waits = h.waits ∙ sym (ap (λ (k : CallResult). handed_with k w) p) ∙ sym (ap (λ (l : Stores). handed_with r.took l) q);
    }

-- ---- the claim
pub run_receives : RunReceives
run_receives st s start r u v h = turns_receive st s start h.turns h.right
