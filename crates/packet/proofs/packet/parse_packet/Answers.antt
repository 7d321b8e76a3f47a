-- `packet::packet::parse_packet` meets its contract: what stands before the headers decides, and then the headers. Assumes nothing.
use mathlib.Core.Path.{sym, ap, ◌∙◌}
use Rattle.std.specs.Prelude.{Option as Maybe}
use Rattle.packet.specs.declared.packet.Head.{Head}
use Rattle.packet.proofs.PacketLaws.{parsed_head, parsed_head_lem}
use Rattle.packet.proofs.packet.parse_packet.Goals as goal

pub returns-in_err-opcode : goal.returns-in_err-opcode
returns-in_err-opcode c =
    let p = c.args.p.now in
    c.from_residual.ensures
    ∙ sym (parsed_head_lem p ∙ ap (λ (x : Maybe Head). parsed_head x p) (sym c.packet_head.ensures ∙ c.in_err-opcode.was))

pub returns-then-not-is_readable : goal.returns-then-not-is_readable
returns-then-not-is_readable c =
    let p = c.args.p.now in
    sym (parsed_head_lem p ∙ ap (λ (x : Maybe Head). parsed_head x p) (sym c.packet_head.ensures ∙ c.in_ok-opcode.was)
    ∙ rw (sym c.is_readable.ensures ∙ c.if-not-is_readable.true))

pub returns : goal.returns
returns c =
    let p = c.args.p.now in
    sym (parsed_head_lem p ∙ ap (λ (x : Maybe Head). parsed_head x p) (sym c.packet_head.ensures ∙ c.in_ok-opcode.was)
    ∙ rw (sym c.is_readable.ensures ∙ c.if-not-is_readable.false))
