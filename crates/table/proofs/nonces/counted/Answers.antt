-- `table::nonces::counted` meets its contract, by its one test. Assumes nothing.
use borrow.Author.Tests.{lt-ltb, le-ltb}
use Rattle.table.specs.Nonces.{counted}
use Rattle.table.proofs.nonces.counted.Goals as goal

pub returns-then-count-lt-MAX_NONCES : goal.returns-then-count-lt-MAX_NONCES
unfolding counted
returns-then-count-lt-MAX_NONCES c = simp (lt-ltb _ 32 c.if-count-lt-MAX_NONCES.true)

pub returns-else-count-lt-MAX_NONCES : goal.returns-else-count-lt-MAX_NONCES
unfolding counted
returns-else-count-lt-MAX_NONCES c = simp (le-ltb c.args.count 32 c.if-count-lt-MAX_NONCES.false)
