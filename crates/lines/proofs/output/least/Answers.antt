-- `lines::output::least` meets its contract: the test is the definition's. Assumes nothing.
use native.Mathlib.Omega.{arith}
use borrow.Author.Tests.{lt-ltb, le-ltb}
use Rattle.lines.specs.Output.{least_of}
use Rattle.lines.proofs.output.least.Goals as goal

pub returns-then-a-b : goal.returns-then-a-b
unfolding least_of
returns-then-a-b c =
    record {
      bounds = (omega arith, omega arith);
      least = simp (lt-ltb _ _ c.if-a-b.true);
    }

pub returns-else-a-b : goal.returns-else-a-b
unfolding least_of
returns-else-a-b c =
    record {
      bounds = (omega arith, omega arith);
      least = simp (le-ltb _ _ c.if-a-b.false);
    }
