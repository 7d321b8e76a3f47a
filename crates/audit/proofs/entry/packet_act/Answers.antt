-- `audit::entry::packet_act` meets its contract: its tests are those of the definition. Assumes nothing.
use Rattle.std.proofs.Common.{sym, refl, ◌∙◌}
use Rattle.audit.proofs.entry.packet_act.Goals as goal

pub returns-then-is_packet : goal.returns-then-is_packet
returns-then-is_packet c = rw (sym c.is_packet.ensures ∙ c.if-is_packet.true) refl

pub returns : goal.returns
returns c = rw (sym c.is_packet.ensures ∙ c.if-is_packet.false) refl
