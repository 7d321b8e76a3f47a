-- `connection::connect_reply::challenge_reply` meets its contract. The header of the challenge goes behind what was begun, where it follows. Assumes nothing.
use Rattle.std.proofs.Common.{◌≡◌, ℕ, ◌+◌, ◌≤◌, true, List, ◌∷◌, length, ◌∙◌, arith, rules}
use Rattle.digest.specs.Md5.{octets16}
use Rattle.packet.specs.Header.{bytes_of}
use Rattle.packet.specs.Flags.{flag_bits}
use Rattle.packet.specs.AuthWrite.{given}
use Rattle.connection.specs.ConnectReply.{challenge_header}
use Rattle.connection.specs.Pieces.{Room}
use Rattle.connection.proofs.Replies.{begun-sent, begun-fits, begun-room, begun-whole}
use Rattle.connection.proofs.Putting.{realm-small, challenge-bytes-length, challenge-laid}
use Rattle.connection.proofs.connect_reply.challenge_reply.Statement.{statement}
use Rattle.connection.proofs.connect_reply.challenge_reply.Tie as tie

-- the header's bytes
abbrev bytes : tie.Start → List ℕ
bytes x =
    bytes_of
    (challenge_header (octets16 x.args.nonce) (flag_bits x.args.user_id_required x.args.read_only) (given x.args.has_realm (x.args.charset ∷ x.args.realm.now)))

challenge-size-requires : tie.Need-challenge_size-size-requires
challenge-size-requires c κs =
    let x = c.before.before in
    realm-small x.args.has_realm x.args.charset x.args.realm.now x.requires.1

-- the size is that of these bytes
size : (c : tie.After-challenge_size-size) → c.challenge_size-size.result ≡ length (bytes c.before.before.before)
size c =
    let x = c.before.before.before in
    c.challenge_size-size.ensures ∙ challenge-bytes-length x.args.nonce _ x.args.has_realm x.args.charset x.args.realm.now

begin-connect-requires : tie.Need-begin_connect-begun-requires
begin-connect-requires c κs = search rules

module _ (c : tie.After-begin_connect-begun) (k : c.begin_connect-begun.result.whole ≡ true) where
  fits_whole : 7 + c.challenge_size-size.result ≤ 65535
  fits_whole =
      let s = c.before.before in
      let x = s.before.before.before in
      begun-fits x.args.reply.now (bytes x) x.args.remote 0x41 x.args.limit s.challenge_size-size.result (size s) _ _ c.begin_connect-begun.ensures k

  -- the header has its place
  room : Room c.begin_connect-begun.new.reply 7 (bytes c.before.before.before.before.before)
  room =
      let s = c.before.before in
      let x = s.before.before.before in
      begun-room x.args.reply.now (bytes x) x.args.remote 0x41 x.args.limit s.challenge_size-size.result (size s) _ _ c.begin_connect-begun.ensures k x.requires.0

sub-put-lead : tie.Need-overflow_sub-size
sub-put-lead c = search rules

put-lead-requires : tie.Need-put_lead-requires
put-lead-requires c κs =
    let t = c.before in
    let b = t.before.before.before in
    let r = room b t.if-begun.true in
    let s = b.before.before in
    (omega (arith, r.store), omega (arith, fits_whole b t.if-begun.true, s.challenge_size-size.ensures))

write-challenge-requires : tie.Need-write_challenge-requires
write-challenge-requires c κs = search rules

same_length : tie.Need-shape_of-reply-then-begun
same_length c = search rules

returns : tie.Need-returns-then-begun
returns c =
    let l = c.before.before.before.before.before.before in
    let t = l.before.before in
    let b = t.before.before.before in
    let s = b.before.before in
    let x = s.before.before.before in
    begun-whole x.args.reply.now (bytes x) x.args.remote 0x41 x.args.limit s.challenge_size-size.result (size s) _ _
    b.begin_connect-begun.ensures t.if-begun.true x.requires.0 _
    (challenge-laid b.begin_connect-begun.new.reply _ _ x.args.nonce _ x.args.has_realm x.args.charset x.args.realm.now s.challenge_size-size.result _ x.requires.1
    s.challenge_size-size.ensures (room b t.if-begun.true) l.put_lead.ensures c.write_challenge.ensures)

same-length-2 : tie.Need-shape_of-reply-else-begun
same-length-2 c = search rules

returns-2 : tie.Need-returns-else-begun
returns-2 c =
    let b = c.before.before.before in
    let s = b.before.before in
    let x = s.before.before.before in
    begun-sent x.args.reply.now (bytes x) x.args.remote 0x41 x.args.limit s.challenge_size-size.result (size s) _ _
    b.begin_connect-begun.ensures c.if-begun.false

pub challenge_reply_spec : {M : Type 1} → statement M
challenge_reply_spec =
    tie.close
    (tie.spec
    challenge-size-requires
    begin-connect-requires
    sub-put-lead
    put-lead-requires
    write-challenge-requires
    same_length
    returns
    same-length-2
    returns-2)
