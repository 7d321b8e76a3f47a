-- `connection::connect_reply::put_who` meets its contract. Where there is a Target, Who with its bytes is laid there. Assumes nothing.
use Rattle.connection.proofs.Putting.{who-puts}
use Rattle.connection.proofs.connect_reply.put_who.Goals as goal

pub returns : goal.returns
returns c =
    rw c.size.ensures
    (who-puts c.args.reply.now _ c.args.packet.now c.args.at _ _ c.args.who _ c.in-Some.is c.requires.0 c.requires.1
    (rw c.of.ensures at c.put_bytes.ensures))
