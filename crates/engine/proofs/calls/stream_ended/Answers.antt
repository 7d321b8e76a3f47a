-- `engine::calls::stream_ended` meets its contract. The guard refuses as the model does, and the plan is the model's step.
use mathlib.Core.Path.{refl, ap, ◌∙◌}
use Rattle.server.specs.declared.End.{End}
use Rattle.model.specs.Step.{stores}
use Rattle.model.specs.Calls.{stream_ended_step}
use Rattle.engine.specs.Step.{ends_plan}
use Rattle.server.specs.declared.CallKind.TheVariants as kind
use Rattle.engine.proofs.Guards.{Goes, going}
use Rattle.engine.proofs.Carried.{refused-call, silent-call}
use Rattle.engine.proofs.Plans.{ends-planned}
use Rattle.engine.proofs.calls.stream_ended.Goals as goal

pub returns-in-Err : goal.returns-in-Err
unfolding stream_ended_step
returns-in-Err c =
    let k = c.args in
    let s = stores k.packet.now k.headers.now k.body.now k.reply.now in
    refused-call kind.FromPeer k.e s _ _ _ _ c.refuse.ensures c.guard.ensures c.in-Err.is

pub returns : goal.returns
unfolding stream_ended_step ends_plan
returns c =
    let k = c.args in
    let s = stores k.packet.now k.headers.now k.body.now k.reply.now in
    let g : Goes kind.FromPeer k.e s = going kind.FromPeer _ _ _ c.guard.ensures c.in_default.is in
    silent-call kind.FromPeer k.e s _ _ _ _ g c.took.ensures
    (c.ends.ensures ∙ ap (λ (x : End). ends_plan k.e k.e.peer x) c.stream_end.ensures) refl (ends-planned k.e k.e.peer _ s)
