-- What follows a reply that is taken is the model's step. Assumes nothing.
use mathlib.Core.Path.{◌≡◌, refl, sym, ap, ◌∙◌}
use mathlib.Core.Bool.{Bool, true, false, ◌&&◌, not}
use mathlib.Core.List.{List}
use Prim.Native.Nat.{ℕ, ◌≤◌}
use Rattle.base.specs.Pick.{pick}
use Rattle.outgoing.specs.Object.{next_packet}
use Rattle.outgoing.specs.declared.object.Outgoing.{Outgoing}
use Rattle.model.specs.Step.{Stores, Done, with_reply, limit_of, capacity_of, ends, after}
use Rattle.model.specs.Guard.{same_await, sound_operation}
use Rattle.model.specs.Object.{goes_on_of, sends_next}
use Rattle.model.specs.Calls.{reply_taken_step}
use Rattle.engine.specs.Step.{planned, Written, within, carried}
use Rattle.engine.specs.Object.{PlanMade, plan_made, object_plan, goes_turn, turn_of, turn_acts}
use Rattle.server.specs.declared.Operation.{Operation}
use Rattle.server.specs.declared.Operation.TheVariants.{Nothing, Trailing, Putting, Getting, Sending, Gathering as GatheringOp, Connecting, Draining}
use Rattle.server.specs.declared.CallKind.TheVariants as kind
use Rattle.server.specs.declared.End.TheVariants as end
use Rattle.server.specs.declared.Await.TheVariants as await
use Rattle.server.specs.declared.Engine.{Engine}
use Rattle.engine.specs.declared.step.Plan.{Plan}
use Rattle.engine.specs.declared.object.Turn.{Turn}
use Rattle.engine.specs.declared.object.Turn.TheVariants.{Send, Wait, End}
use Rattle.model.proofs.Steps.{outgoing_within}
use Rattle.engine.proofs.Carried.{packet-carried}
use Rattle.engine.proofs.Guards.{Goes}

-- an object that is sent on is in bounds
abbrev pub TurnReady : Turn → Type 0
TurnReady (Send o srm wait) = o.total ≤ 65535
TurnReady Wait = Unit {0}
TurnReady End = Unit {0}

ready-pick : (t : Bool) (x y : Turn) → TurnReady x → TurnReady y → TurnReady (pick t x y)
ready-pick true x y a b = a
ready-pick false x y a b = b

goes-ready : (limit : ℕ) (o : Operation) → sound_operation limit o ≡ true → TurnReady (goes_turn o)
goes-ready limit (Sending o c srm wait) s = ready-pick (srm && not wait) _ _ (outgoing_within o c s).total tt
goes-ready limit Nothing s = tt
goes-ready limit Trailing s = tt
goes-ready limit (Putting g srm) s = tt
goes-ready limit (Getting g srm confirm wait) s = tt
goes-ready limit (GatheringOp o g) s = tt
goes-ready limit (Connecting c f n) s = tt
goes-ready limit (Draining code) s = tt

pub turn-ready : (e : Engine) → sound_operation (limit_of e) e.operation ≡ true → TurnReady (turn_of e)
turn-ready e s = ready-pick (same_await e.awaits await.Taken) _ _ (goes-ready (limit_of e) e.operation s) tt

module _ (e : Engine) (s : Stores) where
  acts-pick : (t : Bool) (x y : Turn) → turn_acts (pick t x y) e s ≡ pick t (turn_acts x e s) (turn_acts y e s)
  acts-pick true x y = refl
  acts-pick false x y = refl

  goes-acts : (o : Operation) → turn_acts (goes_turn o) e s ≡ goes_on_of o e s
  goes-acts (Sending o c srm wait) = acts-pick (srm && not wait) (Send o srm wait) Wait
  goes-acts Nothing = refl
  goes-acts Trailing = refl
  goes-acts (Putting g srm) = refl
  goes-acts (Getting g srm confirm wait) = refl
  goes-acts (GatheringOp o g) = refl
  goes-acts (Connecting c f n) = refl
  goes-acts (Draining code) = refl

  turn-acts : turn_acts (turn_of e) e s ≡ pick (same_await e.awaits await.Taken) (goes_on_of e.operation e s) (ends e e.peer end.OtherOperation s)
  turn-acts =
      acts-pick (same_await e.awaits await.Taken) (goes_turn e.operation) End
      ∙ ap (λ (d : Done). pick (same_await e.awaits await.Taken) d (ends e e.peer end.OtherOperation s)) (goes-acts e.operation)

  pub taken-call : (p : Plan) (y : List ℕ) (w : Written) → Goes kind.ReplyTaken e s → w ≡ carried p y
      → planned p (with_reply s y) ≡ turn_acts (turn_of e) e s
      → within w s ≡ reply_taken_step e s
  unfolding reply_taken_step
  taken-call p y w g h k =
      ap (λ (x : Written). within x s) h ∙ ap (λ (d : Done). after 0 d) (k ∙ turn-acts)
      ∙ sym (g.whole (after 0 (pick (same_await e.awaits await.Taken) (goes_on_of e.operation e s) (ends e e.peer end.OtherOperation s))))

  -- by the code's own answer
  pub by_turn : (t : Turn) (d : Done) → turn_of e ≡ t → d ≡ turn_acts t e s → d ≡ turn_acts (turn_of e) e s
  by_turn t d h k = k ∙ ap (λ (x : Turn). turn_acts x e s) (sym h)

  pub sent-turn : (o : Outgoing) (srm wait : Bool) (p : Plan) (z : List ℕ)
      → plan_made p z ≡ object_plan e srm wait (next_packet (capacity_of e) o s.headers s.reply)
      → planned p (with_reply s z) ≡ turn_acts (Send o srm wait) e s
  unfolding sends_next
  sent-turn o srm wait p z h =
      ap (λ (x : PlanMade). planned x.plan (with_reply s x.reply)) h
      ∙ packet-carried e srm wait (next_packet (capacity_of e) o s.headers s.reply) s
