-- `engine::step::sends` meets its contract: what was sent is handed back by its plan. Assumes nothing.
use mathlib.Core.Path.{refl}
use mathlib.Core.List.{[]}
use Rattle.engine.proofs.Carried.{sent-written}
use Rattle.engine.proofs.step.sends.Goals as goal

pub returns : goal.returns
returns c =
    let k = c.args in
    sent-written k.e k.peer k.code [] k.header_bytes.now k.reply.now _ _ _ _
    c.send-sent.ensures refl c.sent_plan.ensures c.took.ensures
