-- `packet::header::write_text` meets its contract: each arm is a case of `text_value`. Assumes nothing.
use Rattle.packet.proofs.header.write_text.Goals as goal

pub write_wide-requires : goal.write_wide-requires
write_wide-requires c = rw c.in-Wide.is at c.requires

pub write_ended-requires : goal.write_ended-requires
write_ended-requires c = rw c.in-Ended.is at c.requires

pub write_bare-requires : goal.write_bare-requires
write_bare-requires c = rw c.in-Bare.is at c.requires

pub returns-in-Wide : goal.returns-in-Wide
returns-in-Wide c = rw c.in-Wide.is c.write_wide.ensures

pub returns-in-Ended : goal.returns-in-Ended
returns-in-Ended c = rw c.in-Ended.is c.write_ended.ensures

pub returns-in-Bare : goal.returns-in-Bare
returns-in-Bare c = rw c.in-Bare.is c.write_bare.ensures
