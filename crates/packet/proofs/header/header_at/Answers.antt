-- `packet::header::header_at` meets its contract: at the end, or a header with the id that stands there. Assumes nothing.
use borrow.Author.Tests.{le-leb, lt-leb}
use Rattle.packet.specs.Header.{header_at_of}
use Rattle.packet.proofs.header.header_at.Goals as goal

pub returns-then-s-at : goal.returns-then-s-at
unfolding header_at_of
returns-then-s-at c = simp (le-leb _ _ c.if-s-at.true)

pub returns : goal.returns
unfolding header_at_of
returns c = simp (lt-leb _ _ c.if-s-at.false, ← c.encoding.ensures) c.encoded_at.ensures
