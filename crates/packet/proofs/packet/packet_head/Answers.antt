-- `packet::packet::packet_head` meets its contract: the tests are those of `head_by`. Assumes nothing.
use borrow.Author.Tests.{lt-ltb, le-ltb}
use mathlib.Core.Path.{sym, ◌∙◌}
use Rattle.packet.proofs.PacketLaws.{head-short, head-known}
use Rattle.packet.proofs.packet.packet_head.Goals as goal

pub returns-then-p-lt-PACKET_PREFIX_LENGTH : goal.returns-then-p-lt-PACKET_PREFIX_LENGTH
returns-then-p-lt-PACKET_PREFIX_LENGTH c = sym (head-short c.args.p.now c.if-p-lt-PACKET_PREFIX_LENGTH.true)

pub returns-in_err-opcode : goal.returns-in_err-opcode
returns-in_err-opcode c =
    let p = c.args.p.now in
    c.from_residual.ensures ∙ sym (head-known p _ (sym c.from_byte.ensures ∙ c.in_err-opcode.was))

pub returns-then-p-headers : goal.returns-then-p-headers
returns-then-p-headers c =
    let p = c.args.p.now in
    sym (head-known p _ (sym c.from_byte.ensures ∙ c.in_ok-opcode.was) ∙ rw (sym c.prefix_len-headers.ensures, lt-ltb _ _ c.if-p-headers.true))

pub returns : goal.returns
returns c =
    let p = c.args.p.now in
    sym (head-known p _ (sym c.from_byte.ensures ∙ c.in_ok-opcode.was) ∙ rw (sym c.prefix_len-headers.ensures, le-ltb _ _ c.if-p-headers.false))
