-- `archive::block::block_count` meets its contract: a whole number of full blocks and one begun block are the quotient rounded up. Assumes
-- nothing.
use native.Mathlib.Omega.{arith}
use borrow.Author.Tests.{eq-eqb, ne_eqb}
use Rattle.archive.specs.Writing.{block_count}
use Rattle.archive.proofs.block.block_count.Goals as goal

pub returns-then-n-eq0 : goal.returns-then-n-eq0
unfolding block_count
returns-then-n-eq0 c = simp (eq-eqb _ _ c.if-n-eq0.true)

pub returns-else-n-eq0 : goal.returns-else-n-eq0
unfolding block_count
returns-else-n-eq0 c = simp (ne_eqb _ _ c.if-n-eq0.false) (omega arith)
