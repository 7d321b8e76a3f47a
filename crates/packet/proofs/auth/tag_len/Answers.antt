-- `packet::auth::tag_len` meets its contract: the flag decides. Assumes nothing.
use Rattle.packet.proofs.auth.tag_len.Goals as goal

pub returns-then-not-there : goal.returns-then-not-there
returns-then-not-there c = rw c.if-not-there.true

pub returns : goal.returns
returns c = rw c.if-not-there.false
