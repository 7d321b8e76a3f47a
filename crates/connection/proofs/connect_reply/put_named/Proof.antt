-- `connection::connect_reply::put_named` meets its contract. The four pieces stand one behind the other. Assumes nothing.
use Rattle.std.proofs.Common.{◌≤◌, length, arith, rules}
use Rattle.connection.proofs.Putting.{cut-within, room_id, room-first, room-who, room-rest, named-puts}
use Rattle.connection.proofs.connect_reply.put_named.Statement.{statement}
use Rattle.connection.proofs.connect_reply.put_named.Tie as tie

who-cut-requires : tie.Need-who_cut-cut-requires
who-cut-requires c κs = search rules

-- the cut is inside the headers
within : (c : tie.After-who_cut-cut) → c.who_cut-cut.result ≤ length c.args.headers.now
within c =
    let x = c.args in
    rw c.who_cut-cut.ensures (cut-within x.front x.headers.now)

put-id-requires : tie.Need-put_id-first-requires
put-id-requires c κs =
    let w = c.before in
    let x = w.before.before.before.before in
    room_id x.args.reply.now x.args.headers.now x.args.at w.who_cut-cut.result x.args.front _ w.who_cut-cut.ensures x.requires.0

put-part-requires : tie.Need-put_part-second-requires
put-part-requires c κs =
    let p = c.before.before.before in
    let w = p.before.before in
    let x = w.before.before.before.before in (
      room-first x.args.reply.now x.args.headers.now x.args.at w.who_cut-cut.result x.args.front _ w.who_cut-cut.ensures x.requires.0
          _ _ p.put_id-first.ensures,
      omega arith,
      within w,
    )

put-who-requires : tie.Need-put_who-third-requires
put-who-requires c κs =
    let q = c.before.before.before in
    let p = q.before.before.before.before in
    let w = p.before.before in
    let x = w.before.before.before.before in (
      room-who x.args.reply.now x.args.headers.now x.args.at w.who_cut-cut.result x.args.front _ w.who_cut-cut.ensures x.requires.0
          _ _ p.put_id-first.ensures _ _ q.put_part-second.ensures,
      x.requires.1,
    )

put-part-requires-2 : tie.Need-put_part-requires
put-part-requires-2 c κs =
    let o = c.before.before.before in
    let q = o.before.before.before.before in
    let p = q.before.before.before.before in
    let w = p.before.before in
    let x = w.before.before.before.before in (
      room-rest x.args.reply.now x.args.headers.now x.args.at w.who_cut-cut.result x.args.front _ w.who_cut-cut.ensures x.requires.0
          _ _ p.put_id-first.ensures _ _ q.put_part-second.ensures _ _ o.put_who-third.ensures,
      within w,
      omega arith,
    )

same_length : tie.Need-shape_of-reply
same_length c = search rules

returns : tie.Need-returns
returns c =
    let o = c.before.before.before.before.before.before in
    let q = o.before.before.before.before in
    let p = q.before.before.before.before in
    let w = p.before.before in
    let x = w.before.before.before.before in
    named-puts x.args.reply.now x.args.headers.now x.args.at w.who_cut-cut.result x.args.front _ w.who_cut-cut.ensures x.requires.0
    _ _ p.put_id-first.ensures _ _ q.put_part-second.ensures _ _ o.put_who-third.ensures _ _ c.put_part.ensures

pub put_named_spec : {M : Type 1} → statement M
put_named_spec =
    tie.close
    (tie.spec
    who-cut-requires
    put-id-requires
    put-part-requires
    put-who-requires
    put-part-requires-2
    same_length
    returns)
