-- `filing::file::block_count` meets its contract: a whole number of full blocks and one begun block are the quotient rounded up. Assumes nothing.
use mathlib.Core.Path.{refl}
use native.Mathlib.Omega.{arith}
use borrow.Author.Tests.{eq-eqb, ne_eqb}
use Rattle.archive.specs.Writing.{block_count}
use Rattle.filing.proofs.file.block_count.Goals as goal

pub returns-then-not-has_body : goal.returns-then-not-has_body
returns-then-not-has_body c = rw c.if-not-has_body.true refl

pub returns-then-n-eq0 : goal.returns-then-n-eq0
unfolding block_count
returns-then-n-eq0 c = simp (c.if-not-has_body.false, eq-eqb _ _ c.if-n-eq0.true)

pub returns : goal.returns
unfolding block_count
returns c = simp (c.if-not-has_body.false, ne_eqb _ _ c.if-n-eq0.false) (omega arith)
