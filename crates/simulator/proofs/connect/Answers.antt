-- `simulator::connect` meets its contract: the four calls are those of the definition, one after the other. Assumes nothing.
use mathlib.Core.Path.{ap, ◌∙◌}
use mathlib.Core.List.{[]}
use Rattle.server.specs.declared.Settings.{Settings}
use Rattle.model.specs.Step.{stores}
use Rattle.model.specs.Calls.{start_step}
use Rattle.simulator.proofs.Moves.{connected_by_lem}
use Rattle.simulator.proofs.connect.Goals as goal

pub returns : goal.returns
returns c =
    let s = stores c.args.packet.now c.args.headers.now c.args.body.now c.args.reply.now in
    connected_by_lem c.args.srm c.args.m s _ _ _ _ c.args.tables.now _ c.start-started.result c.offer_connect-offered.result
    c.reply_given-accepted.result c.reply_taken.result
    (c.start-started.ensures ∙ ap (λ (st : Settings). start_step st [] s c.args.tables.now) c.settings_for.ensures)
    c.offer_connect-offered.ensures c.reply_given-accepted.ensures c.reply_taken.ensures
