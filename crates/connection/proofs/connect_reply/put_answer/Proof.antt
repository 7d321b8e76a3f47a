-- `connection::connect_reply::put_answer` meets its contract. Where there is a nonce, the header of the response to it is laid there. Assumes nothing.
use Rattle.std.proofs.Common.{◌+◌, ◌≤◌, length, arith, rules}
use Rattle.connection.proofs.Putting.{puts-nothing, user-small, answer-room, answer-puts}
use Rattle.connection.proofs.connect_reply.put_answer.Statement.{statement}
use Rattle.connection.proofs.connect_reply.put_answer.Tie as tie

enum-known-nonce : tie.Need-enum_known-nonce
enum-known-nonce c = search rules

enum_told : tie.Need-enum_told-1
enum_told c = search rules

returns : tie.Need-returns-in_default
returns c =
    let x = c.args in
    rw c.in_default.is (puts-nothing x.reply.now x.at)

answer-size-requires : tie.Need-answer_size-size-requires
answer-size-requires c κs =
    let x = c.before.before.before.before in
    user-small x.args.has_user x.args.user.now x.requires.1

-- the header fits
room : (c : tie.After-answer_size-size) → let x = c.before.before.before.before.before in
    (x.args.at + c.answer_size-size.result ≤ 65535) × (39 ≤ c.answer_size-size.result) × (65535 ≤ length x.args.reply.now)
room c =
    let f = c.before in
    let x = f.before.before.before.before in
    answer-room x.args.reply.now x.args.user.now x.args.password.now x.args.at _ x.args.has_user x.args.nonce f.in-Some.is
    x.requires.0 c.answer_size-size.result c.answer_size-size.ensures

sub-put-lead : tie.Need-overflow_sub-size
sub-put-lead c = let h = room c.before in omega (arith, h)

put-lead-requires : tie.Need-put_lead-requires
put-lead-requires c κs = let h = room c.before in (omega (arith, h), omega (arith, h))

add-respond : tie.Need-overflow_add-at
add-respond c = search rules

respond-requires : tie.Need-respond-requires
respond-requires c κs = search rules

add-result : tie.Need-overflow_add-result
add-result c = let h = room c.before.before.before.before.before.before.before.before in omega (arith, h)

same_length : tie.Need-shape_of-reply
same_length c = search rules

returns-2 : tie.Need-returns
returns-2 c =
    let s = c.before.before.before.before.before.before.before.before in
    let f = s.before in
    let x = f.before.before.before.before in
    answer-puts x.args.reply.now x.args.user.now x.args.password.now x.args.at _ x.args.has_user x.args.nonce f.in-Some.is
    x.requires.0 s.answer_size-size.result s.answer_size-size.ensures _ _ _ x.requires.1 c.put_lead.ensures
    c.respond.ensures

pub put_answer_spec : {M : Type 1} → statement M
put_answer_spec =
    tie.close
    (tie.spec
    enum-known-nonce
    enum_told
    returns
    answer-size-requires
    sub-put-lead
    put-lead-requires
    add-respond
    respond-requires
    add-result
    same_length
    returns-2)
