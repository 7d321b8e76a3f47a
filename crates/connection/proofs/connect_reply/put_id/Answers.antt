-- `connection::connect_reply::put_id` meets its contract. Where there is an id, its header is laid there. Assumes nothing.
use Rattle.connection.proofs.Putting.{puts-nothing, id_puts}
use Rattle.connection.proofs.connect_reply.put_id.Goals as goal

pub returns-in_default : goal.returns-in_default
returns-in_default c =
    let x = c.args in
    rw c.in_default.is (puts-nothing x.reply.now x.at)

pub returns : goal.returns
returns c =
    let f = c in
    let x = c in
    id_puts c.args.reply.now _ c.args.at _ c.args.front _ c.in-Some.is c.requires c.put_u32.ensures
