-- `connection::connect_reply::challenge_size` meets its contract. It adds up the tags, and the header's three bytes. Assumes nothing.
use Rattle.std.proofs.Common.{◌≤◌, arith}
use Rattle.connection.proofs.connect_reply.challenge_size.Goals as goal

pub returns-then-not-has_realm : goal.returns-then-not-has_realm
returns-then-not-has_realm c = rw c.if-not-has_realm.true

pub overflow_add-result : goal.overflow_add-result
overflow_add-result c = let h : c.args.realm ≤ 254 = rw c.if-not-has_realm.false at c.requires in omega arith

pub overflow_add-result-2 : goal.overflow_add-result-2
overflow_add-result-2 c = let h : c.args.realm ≤ 254 = rw c.if-not-has_realm.false at c.requires in omega arith

pub overflow_add-result-3 : goal.overflow_add-result-3
overflow_add-result-3 c = let h : c.args.realm ≤ 254 = rw c.if-not-has_realm.false at c.requires in omega arith

pub returns : goal.returns
returns c = rw c.if-not-has_realm.false
