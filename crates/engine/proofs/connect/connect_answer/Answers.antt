-- `engine::connect::connect_answer` meets its contract: the three ways are those of the definition. Assumes nothing.
use Rattle.connection.specs.Peer.{answers}
use Rattle.engine.proofs.Accepts.{answer_declined, answer-full, answer-accepted}
use Rattle.engine.proofs.connect.connect_answer.Goals as goal

pub returns-then-not-is_success : goal.returns-then-not-is_success
returns-then-not-is_success c =
    let k = c.args in
    answer_declined k.e k.tables.now k.code k.header_bytes.now k.packet.now k.headers.now k.reply.now _
    c.is_success.ensures
    c.if-not-is_success.true _ c.sends_connect.ensures

pub returns-in_default : goal.returns-in_default
returns-in_default c =
    let k = c.args in
    answer-full k.e k.tables.now k.code k.header_bytes.now k.packet.now k.headers.now k.reply.now _ c.is_success.ensures
    c.if-not-is_success.false (answers c.opens.result _) c.opens.ensures c.in_default.is _
    c.sends_connect-in_default.ensures

pub returns : goal.returns
returns c =
    let k = c.args in
    answer-accepted k.e k.tables.now k.code k.header_bytes.now k.packet.now k.headers.now k.reply.now _
    c.is_success.ensures
    c.if-not-is_success.false (answers c.opens.result _) c.opens.ensures c.in-Some.answer c.in-Some.is _ c.accepted.ensures
