-- `connection::connect_reply::put_added` meets its contract. SRM stands behind the answer to the challenge. Assumes nothing.
use Rattle.connection.specs.Pieces.{added_bytes}
use Rattle.connection.proofs.Putting.{room-left, grant-puts, no_grant}
use Rattle.connection.proofs.connect_reply.put_added.Goals as goal

pub put_answer-next-requires : goal.put_answer-next-requires
unfolding added_bytes
put_answer-next-requires c = let x = c in (room-left _ _ _ c.args.at c.requires.0, c.requires.1)

pub returns-then-srm : goal.returns-then-srm
unfolding added_bytes
returns-then-srm c =
    let g = c in
    let p = c in
    let x = c in
    grant-puts c.args.reply.now _ _ _ c.args.at c.put_answer-next.result c.args.srm _ c.if-srm.true c.requires.0
    c.put_answer-next.ensures c.put_u8.ensures

pub returns-else-srm : goal.returns-else-srm
unfolding added_bytes
returns-else-srm c =
    let p = c in
    let x = c in
    no_grant c.args.reply.now _ _ c.args.at c.put_answer-next.result c.args.srm c.if-srm.false c.put_answer-next.ensures
