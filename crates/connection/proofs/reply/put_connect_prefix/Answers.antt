-- `connection::reply::put_connect_prefix` meets its contract. The prefix stands in front, and four stores behind it are Connect's fields. Assumes nothing.
use Rattle.std.proofs.Common.{arith, length-set}
use Rattle.connection.proofs.Replies.{prefix_fields}
use Rattle.connection.proofs.reply.put_connect_prefix.Goals as goal

pub bounds-reply-4 : goal.bounds-reply-4
bounds-reply-4 c = simp length-set (omega arith)

pub bounds-reply-5 : goal.bounds-reply-5
bounds-reply-5 c = simp length-set (omega arith)

pub bounds-reply-6 : goal.bounds-reply-6
bounds-reply-6 c = simp length-set (omega arith)

pub returns : goal.returns
returns c =
    let p = c in
    let x = c.args in
    prefix_fields x.reply.now _ x.byte x.n x.limit c.put_prefix.ensures (omega arith)
