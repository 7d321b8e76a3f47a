-- `engine::step::sends_connect` meets its contract: what was sent is handed back by its plan. Assumes nothing.
use mathlib.Core.Path.{refl}
use Rattle.connection.specs.Reply.{fields_of}
use Rattle.engine.proofs.Carried.{sent-written}
use Rattle.engine.proofs.step.sends_connect.Goals as goal

pub returns : goal.returns
returns c =
    let k = c.args in
    sent-written k.e k.peer k.code (fields_of k.e.settings.max_packet_length) k.header_bytes.now k.reply.now _ _ _ _
    c.send_connect-sent.ensures refl c.sent_plan.ensures c.took.ensures
