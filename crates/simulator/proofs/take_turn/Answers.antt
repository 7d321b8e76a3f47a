-- `simulator::take_turn` meets its contract: the move that is due, its call and what it counts are a turn. Assumes nothing.
use Rattle.model.specs.Step.{stores}
use Rattle.simulator.specs.Play.{moment}
use Rattle.simulator.proofs.Moves.{turned}
use Rattle.simulator.proofs.take_turn.Goals as goal

pub returns : goal.returns
returns c =
    turned c.args.bytes.now
    (moment c.args.g (stores c.args.packet.now c.args.headers.now c.args.body.now c.args.reply.now) c.args.tables.now)
    c.move_for-v.result c.make_move-took.result _ c.game_after.result
    c.move_for-v.ensures c.make_move-took.ensures c.game_after.ensures
