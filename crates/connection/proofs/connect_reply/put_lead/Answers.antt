-- `connection::connect_reply::put_lead` meets its contract. Three stores one behind the other are the three bytes there. Assumes nothing.
use Rattle.std.proofs.Common.{arith, length-set}
use Rattle.packet.proofs.Laid.{three_laid}
use Rattle.connection.proofs.connect_reply.put_lead.Goals as goal

pub bounds-reply-at-2 : goal.bounds-reply-at-2
bounds-reply-at-2 c = simp length-set (omega arith)

pub bounds-reply-at-3 : goal.bounds-reply-at-3
bounds-reply-at-3 c = simp length-set (omega arith)

pub returns : goal.returns
returns c = three_laid c.args.reply.now c.args.at _ _ _ (omega arith)
