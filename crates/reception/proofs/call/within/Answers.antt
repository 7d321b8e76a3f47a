-- `reception::call::within` meets its contract: the test is the definition's. Assumes nothing.
use borrow.Author.Tests.{lt-ltb, le-ltb}
use Rattle.reception.proofs.call.within.Goals as goal

pub returns-then-bytes-at : goal.returns-then-bytes-at
returns-then-bytes-at c = simp (lt-ltb _ _ c.if-bytes-at.true)

pub returns : goal.returns
returns c = simp (le-ltb _ _ c.if-bytes-at.false)
