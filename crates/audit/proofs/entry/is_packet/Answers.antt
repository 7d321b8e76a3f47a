-- `audit::entry::is_packet` meets its contract: its tests are those of the definition. Assumes nothing.
use Rattle.std.proofs.Common.{length, refl, arith, le-leb}
use borrow.Author.Tests.{lt-leb}
use Rattle.audit.specs.Taken.{is_packet}
use Rattle.audit.proofs.entry.is_packet.Goals as goal

pub returns-then-payload-lt3 : goal.returns-then-payload-lt3
unfolding is_packet
returns-then-payload-lt3 c = rw (lt-leb 3 (length c.args.payload.now) c.if-payload-lt3.true) refl

pub returns : goal.returns
unfolding is_packet
returns c = rw (le-leb 3 (length c.args.payload.now) (omega arith), c.be16_at.ensures.value) refl
