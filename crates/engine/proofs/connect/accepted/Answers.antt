-- `engine::connect::accepted` meets its contract: the two ways are those of the definition, by the challenge that is answered.
-- Assumes nothing.
use mathlib.Core.Path.{sym, ◌∙◌}
use native.Mathlib.Omega.{arith}
use Rattle.engine.proofs.Objects.{store-front}
use Rattle.engine.proofs.Accepts.{not-challenged, challenged}
use Rattle.engine.proofs.connect.accepted.Goals as goal

pub returns-in_default : goal.returns-in_default
returns-in_default c =
    let k = c.args in
    not-challenged k.e k.peer k.code k.front k.packet.now k.header_bytes.now k.reply.now k.headers.now _
    (sym c.in_default.is ∙ c.challenge_in.ensures)
    c.unchallenged.ensures

pub returns : goal.returns
returns c =
    let k = c.args in
    let w = c.requires in
    challenged k.e k.peer k.code k.front k.packet.now k.header_bytes.now k.reply.now k.headers.now _ _ _ _ _
    (sym c.in-Some.is ∙ c.challenge_in.ensures)
    c.took.ensures c.asks.ensures c.challenge_realm.ensures
    (c.copy_into.ensures ∙ store-front k.header_bytes.now k.headers.now (omega (arith, w.1, w.3)))
