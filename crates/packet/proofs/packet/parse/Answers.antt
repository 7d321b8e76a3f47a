-- `packet::packet::parse` meets its contract: the tests are those of `request_at`, and the rest is one packet. Assumes nothing.
use native.Mathlib.Omega.{arith}
use borrow.Author.Tests.{lt-ltb, le-ltb}
use mathlib.Core.Path.{◌≡◌, sym, ap, ◌∙◌}
use Prim.Native.Nat.{ℕ, ◌-◌, ◌<◌}
use lib.ListN.{length, take}
use Rattle.packet.specs.Packet.{request_at}
use Rattle.packet.specs.PacketRead.{parse_packet, parse_front}
use Rattle.packet.proofs.PacketLaws.{front-missing, front-length, parsed_front}
use Rattle.packet.proofs.packet.parse.Goals as goal

pub returns-in_err-n : goal.returns-in_err-n
returns-in_err-n c = c.from_residual.ensures ∙ sym (front-missing c.args.s.now (sym c.packet_length.ensures ∙ c.in_err-n.was))

pub returns-then-n-lt-PACKET_PREFIX_LENGTH : goal.returns-then-n-lt-PACKET_PREFIX_LENGTH
unfolding parse_front request_at
returns-then-n-lt-PACKET_PREFIX_LENGTH c =
    let s = c.args.s.now in
    let k = front-length s c.in_ok-n.n (sym c.packet_length.ensures ∙ c.in_ok-n.was) in
    rw (le-ltb (length s) 3 k.0, sym k.1, lt-ltb c.in_ok-n.n 3 c.if-n-lt-PACKET_PREFIX_LENGTH.true)

pub returns-in_err-get : goal.returns-in_err-get
unfolding parse_front request_at
returns-in_err-get c =
    let s = c.args.s.now in
    let n = c.in_ok-n.n in
    let k = front-length s n (sym c.packet_length.ensures ∙ c.in_ok-n.was) in
    let short : length s < n = omega (arith, c.in_err-get.ensures.lookup.0) in
    c.from_residual-in_err-get.ensures
    ∙ rw (le-ltb (length s) 3 k.0, sym k.1, le-ltb n 3 c.if-n-lt-PACKET_PREFIX_LENGTH.false, lt-ltb (length s) n short)

pub returns : goal.returns
returns c =
    let s = c.args.s.now in
    let n = c.in_ok-n.n in
    let k = front-length s n (sym c.packet_length.ensures ∙ c.in_ok-n.was) in
    let front = c.in_ok-get.ensures.lookup.0 in
    let all : n - 0 ≡ n = omega arith in
    c.parse_packet.ensures ∙ ap parse_packet front.2 ∙ ap (λ (m : ℕ). parse_packet (take m s)) all
    ∙ parsed_front s n k.1 k.0 c.if-n-lt-PACKET_PREFIX_LENGTH.false front.1
