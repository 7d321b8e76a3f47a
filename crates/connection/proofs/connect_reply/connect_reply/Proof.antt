-- `connection::connect_reply::connect_reply` meets its contract. The pieces are the bytes of the headers (`connect_as`). Assumes nothing.
use Rattle.std.proofs.Common.{◌≡◌, ℕ, ◌≤◌, List, length, take, sym, ap, ◌∙◌, arith, length-take, length-take-le, rules}
use Rattle.base.specs.Place.{Place}
use Rattle.packet.specs.AuthWrite.{given}
use Rattle.connection.specs.Reply.{fields_of, send_bytes, sent_into}
use Rattle.connection.specs.Pieces.{first_in, readable, who_place}
use Rattle.connection.proofs.ConnectBytes.{readable-take, connect_as, who-inside}
use Rattle.connection.proofs.connect_reply.connect_reply.Statement.{statement}
use Rattle.connection.proofs.connect_reply.connect_reply.Tie as tie

readable-len-requires : tie.Need-readable_len-n-requires
readable-len-requires c κs = search rules

short : (x : tie.Start) (n : ℕ) → n ≡ length (readable x.args.headers.now) → n ≤ length x.args.headers.now
short x n e = omega (arith, e, ap length (readable-take x.args.headers.now n e), length-take n x.args.headers.now)

-- Who gives back the first Target of the packet
who-of : (x : tie.Start) (n : ℕ) (who : Place) → who ≡ who_place x.args.target (first_in 0x4A (take n x.args.headers.now) 0)
    → who ≡ who_place (first_in 0x46 x.args.packet.now x.args.from) (first_in 0x4A (take n x.args.headers.now) 0)
who-of x n who e = e ∙ ap (λ (f : Place). who_place f (first_in 0x4A (take n x.args.headers.now) 0)) x.requires.4

slice-aggregate-answer : tie.Need-slice_bounds-answer-end
slice-aggregate-answer c =
    let x = c.before.before.before.before.before.before in
    sym (length-take-le c.readable_len-n.result x.args.headers.now (short x _ c.readable_len-n.ensures))

who-place-requires : tie.Need-who_place-who-requires
who-place-requires c κs = search rules

nonce-for-requires : tie.Need-nonce_for-nonce-requires
nonce-for-requires c κs = search rules

send-pieces-requires : tie.Need-send_pieces-requires
send-pieces-requires c κs =
    let x = c.before.before.before.before.before.before.before.before.before in
    let w = c.before.before in (
      x.requires.0,
      x.requires.1,
      omega (arith, length-take w.readable_len-n.result x.args.headers.now, x.requires.2),
      who-inside x.args.packet.now x.args.from (first_in 0x4A (take w.readable_len-n.result x.args.headers.now) 0) _
          (who-of x w.readable_len-n.result _ w.who_place-who.ensures),
      x.requires.3,
    )

same_length : tie.Need-shape_of-reply
same_length c = search rules

returns : tie.Need-returns
returns c =
    let n = c.before.before.before.before in
    let w = n.before in
    let r = w.before.before in
    let x = r.before.before.before.before.before in
    let a = x.args in
    c.send_pieces.ensures
    ∙ ap (λ (l : List ℕ). sent_into (send_bytes a.remote a.code (fields_of a.limit) l) a.reply.now)
    (connect_as a.front a.packet.now a.headers.now _ a.from a.has_credentials (given a.has_user a.user.now) a.password.now a.srm _ _
    (readable-take a.headers.now c.readable_len-n.result c.readable_len-n.ensures) (who-of x c.readable_len-n.result _ w.who_place-who.ensures) n.nonce_for-nonce.ensures
    (λ k. omega (arith, c.shared_slice_known-1.given k)) (λ k. omega (arith, c.shared_slice_known-2-1.given k)))

pub connect_reply_spec : {M : Type 1} → statement M
connect_reply_spec =
    tie.close
    (tie.spec
    readable-len-requires
    slice-aggregate-answer
    who-place-requires
    nonce-for-requires
    send-pieces-requires
    same_length
    returns)
