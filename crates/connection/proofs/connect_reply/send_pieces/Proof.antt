-- `connection::connect_reply::send_pieces` meets its contract. The size is that of the pieces (`pieces-length`); where they follow, they go one behind the other.
-- Assumes nothing.
use Rattle.std.proofs.Common.{◌≡◌, ℕ, true, List, ◌++◌, length, refl, ◌∙◌, rules}
use Rattle.packet.specs.Tags.{bytes_at}
use Rattle.packet.specs.AuthWrite.{given}
use Rattle.connection.specs.Pieces.{named_bytes, added_bytes, Room}
use Rattle.connection.proofs.Replies.{begun-sent, begun-room, begun-whole}
use Rattle.connection.proofs.Putting.{room-left, room-right, puts-more, user-small, inside-ordered, pieces-length}
use Rattle.connection.proofs.connect_reply.send_pieces.Statement.{statement}
use Rattle.connection.proofs.connect_reply.send_pieces.Tie as tie

-- the bytes of the headers
abbrev pieces : tie.Start → List ℕ
pieces x =
    named_bytes x.args.front (bytes_at x.args.packet.now x.args.who) x.args.headers.now
    ++ added_bytes x.args.nonce (given x.args.has_user x.args.user.now) x.args.password.now x.args.srm

connect-size-requires : tie.Need-connect_size-size-requires
connect-size-requires c κs =
    let x = c.before.before.before.before.before in
    (x.requires.2, inside-ordered x.args.packet.now x.args.who x.requires.3 x.requires.1, user-small x.args.has_user x.args.user.now x.requires.4)

-- the size is that of these bytes
size : (c : tie.After-connect_size-size) → c.connect_size-size.result ≡ length (pieces c.before.before.before.before.before.before)
size c =
    let x = c.before.before.before.before.before.before in
    let a = x.args in
    c.connect_size-size.ensures
    ∙ pieces-length a.packet.now a.headers.now a.user.now a.password.now a.front a.who a.nonce a.has_user a.srm x.requires.3

begin-connect-requires : tie.Need-begin_connect-begun-requires
begin-connect-requires c κs = search rules

-- the pieces have their place
room : (c : tie.After-begin_connect-begun) → c.begin_connect-begun.result.whole ≡ true →
    let s = c.before.before in
    Room c.begin_connect-begun.new.reply 7 (pieces s.before.before.before.before.before.before)
room c k =
    let s = c.before.before in
    let x = s.before.before.before.before.before.before in
    begun-room x.args.reply.now (pieces x) x.args.remote x.args.code x.args.limit s.connect_size-size.result (size s) _ _
    c.begin_connect-begun.ensures k x.requires.0

put-named-requires : tie.Need-put_named-next-requires
put-named-requires c κs =
    let b = c.before.before.before.before in
    let x = b.before.before.before.before.before.before.before.before in
    (room-left _ _ _ 7 (room b c.if-begun.true), x.requires.3)

put-added-requires : tie.Need-put_added-requires
put-added-requires c κs =
    let n = c.before.before.before in
    let t = n.before.before in
    let b = t.before.before.before in
    let x = b.before.before.before.before.before.before.before.before in
    (room-right _ _ _ _ 7 _ (room b t.if-begun.true) n.put_named-next.ensures, x.requires.4)

same_length : tie.Need-shape_of-reply-then-begun
same_length c = search rules

returns : tie.Need-returns-then-begun
returns c =
    let n = c.before.before.before.before.before.before in
    let t = n.before.before in
    let b = t.before.before.before in
    let s = b.before.before in
    let x = s.before.before.before.before.before.before in
    begun-whole x.args.reply.now (pieces x) x.args.remote x.args.code x.args.limit s.connect_size-size.result (size s) _ _
    b.begin_connect-begun.ensures t.if-begun.true x.requires.0 _
    (puts-more _ _ _ _ _ 7 _ _ (room b t.if-begun.true) n.put_named-next.ensures (record { next_is = refl; store = c.put_added.ensures })).store

same-length-2 : tie.Need-shape_of-reply-else-begun
same-length-2 c = search rules

returns-2 : tie.Need-returns-else-begun
returns-2 c =
    let b = c.before.before.before in
    let s = b.before.before in
    let x = s.before.before.before.before.before.before in
    begun-sent x.args.reply.now (pieces x) x.args.remote x.args.code x.args.limit s.connect_size-size.result (size s) _ _
    b.begin_connect-begun.ensures c.if-begun.false

pub send_pieces_spec : {M : Type 1} → statement M
send_pieces_spec =
    tie.close
    (tie.spec
    connect-size-requires
    begin-connect-requires
    put-named-requires
    put-added-requires
    same_length
    returns
    same-length-2
    returns-2)
