-- `connection::reply::send_connect` meets its contract. The headers go behind what was begun, where they follow. Assumes nothing.
use Rattle.std.proofs.Common.{◌≡◌, true, refl, arith, rules}
use Rattle.connection.specs.Pieces.{Room}
use Rattle.connection.proofs.Replies.{begun-sent, begun-room, begun-whole}
use Rattle.connection.proofs.reply.send_connect.Statement.{statement}
use Rattle.connection.proofs.reply.send_connect.Tie as tie

begin-connect-requires : tie.Need-begin_connect-begun-requires
begin-connect-requires c κs = search rules

-- the headers have their place
room : (c : tie.After-begin_connect-begun) → c.begin_connect-begun.result.whole ≡ true
    → Room c.begin_connect-begun.new.reply 7 c.args.headers.now
room c k =
    let x = c.before.before.before.before in
    begun-room x.args.reply.now x.args.headers.now x.args.remote x.args.code x.args.limit _ refl _ _ c.begin_connect-begun.ensures k x.requires

copy-into-requires : tie.Need-copy_into-requires
copy-into-requires c κs =
    let r = room c.before.before.before.before c.if-begun.true in
    omega (arith, r.small, r.store)

same_length : tie.Need-shape_of-reply-then-begun
same_length c = search rules

returns : tie.Need-returns-then-begun
returns c =
    let t = c.before.before.before.before in
    let b = t.before.before.before in
    let x = b.before.before.before.before in
    begun-whole x.args.reply.now x.args.headers.now x.args.remote x.args.code x.args.limit _ refl _ _ b.begin_connect-begun.ensures
    t.if-begun.true x.requires _ c.copy_into.ensures

same-length-2 : tie.Need-shape_of-reply-else-begun
same-length-2 c = search rules

returns-2 : tie.Need-returns-else-begun
returns-2 c =
    let b = c.before.before.before in
    let x = b.before.before.before.before in
    begun-sent x.args.reply.now x.args.headers.now x.args.remote x.args.code x.args.limit _ refl _ _ b.begin_connect-begun.ensures c.if-begun.false

pub send_connect_spec : {M : Type 1} → statement M
send_connect_spec =
    tie.close
    (tie.spec
    begin-connect-requires
    copy-into-requires
    same_length
    returns
    same-length-2
    returns-2)
