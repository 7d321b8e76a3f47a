-- `engine::object::turn_plan` meets its contract: each turn that `next_turn` tells has its plan (proofs/Turns.antt). Assumes nothing.
use mathlib.Core.Path.{◌∙◌, sym, ap, subst}
use native.Mathlib.Omega.{arith}
use Rattle.model.specs.Step.{stores}
use Rattle.engine.specs.Step.{planned}
use Rattle.engine.specs.declared.step.Plan.{Plan}
use Rattle.engine.specs.declared.object.Turn.{Turn}
use Rattle.engine.proofs.Plans.{wants-planned, ends-planned}
use Rattle.engine.proofs.Turns.{TurnReady, turn-ready, by_turn, sent-turn}
use Rattle.engine.proofs.object.turn_plan.Goals as goal

pub object_plan-requires : goal.object_plan-requires
object_plan-requires c =
    let t =
    subst (λ (x : Turn). TurnReady x) (sym c.next_turn.ensures ∙ c.in-Send.is) (turn-ready c.args.e c.requires.1) in
    (c.requires.0, omega (arith, t, c.requires.2), c.requires.3)

pub returns-in-Send : goal.returns-in-Send
returns-in-Send c =
    λ q b.
    let s = stores q c.args.headers.now b c.args.reply.now in
    by_turn c.args.e s _ _ (sym c.next_turn.ensures ∙ c.in-Send.is)
    (sent-turn c.args.e s _ _ _ _ _ c.object_plan.ensures)

pub returns-in-Wait : goal.returns-in-Wait
returns-in-Wait c =
    λ q b.
    let s = stores q c.args.headers.now b c.args.reply.now in
    by_turn c.args.e s _ _ (sym c.next_turn.ensures ∙ c.in-Wait.is)
    (ap (λ (x : Plan). planned x s) c.wants.ensures ∙ (wants-planned _ _ _ s).is)

pub returns-in-End : goal.returns-in-End
returns-in-End c =
    λ q b.
    let s = stores q c.args.headers.now b c.args.reply.now in
    by_turn c.args.e s _ _ (sym c.next_turn.ensures ∙ c.in-End.is)
    (ap (λ (x : Plan). planned x s) c.ends.ensures ∙ (ends-planned _ _ _ s).is)
