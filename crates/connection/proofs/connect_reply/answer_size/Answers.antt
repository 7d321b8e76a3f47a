-- `connection::connect_reply::answer_size` meets its contract. It adds up the three tags, and the header's three bytes. Assumes nothing.
use Rattle.std.proofs.Common.{◌≤◌, arith}
use Rattle.connection.proofs.connect_reply.answer_size.Goals as goal

pub returns-then-not-has_user : goal.returns-then-not-has_user
returns-then-not-has_user c = rw (c.in-Some.is, c.if-not-has_user.true)

pub overflow_add-result : goal.overflow_add-result
overflow_add-result c =
    let k = c in
    let h : c.args.user ≤ 255 = rw c.if-not-has_user.false at c.requires in
    omega arith

pub overflow_add-result-2 : goal.overflow_add-result-2
overflow_add-result-2 c =
    let k = c in
    let h : c.args.user ≤ 255 = rw c.if-not-has_user.false at c.requires in
    omega arith

pub returns : goal.returns
returns c = rw (c.in-Some.is, c.if-not-has_user.false)
