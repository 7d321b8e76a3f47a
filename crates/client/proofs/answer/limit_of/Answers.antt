-- `client::answer::limit_of` meets its contract. Each `return` rewrites with the tests that led there. Assumes nothing.
use native.Mathlib.Omega.{arith}
use borrow.Author.Tests.{lt-ltb, le-ltb}
use Rattle.packet.specs.Packet.{connect_limit}
use Rattle.client.proofs.answer.limit_of.Goals as goal

pub overflow_cast-limit : goal.overflow_cast-limit
unfolding connect_limit
overflow_cast-limit c = omega (arith, c.connect_limit-limit.ensures, c.shared_slice_known-1.given 5, c.shared_slice_known-1.given 6)

pub returns-then-limit-lt-MIN_PACKET : goal.returns-then-limit-lt-MIN_PACKET
returns-then-limit-lt-MIN_PACKET c = simp (← c.connect_limit-limit.ensures, lt-ltb _ _ c.if-limit-lt-MIN_PACKET.true)

pub returns : goal.returns
returns c = simp (← c.connect_limit-limit.ensures, le-ltb _ _ c.if-limit-lt-MIN_PACKET.false)
