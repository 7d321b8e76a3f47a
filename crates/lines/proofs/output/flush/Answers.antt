-- `lines::output::flush` meets its contract: the test is the definition's, and what is written out is gone. Assumes nothing.
use borrow.Author.Tests.{lt-ltb, le-ltb}
use borrow.Author.Rules.{rules}
use Rattle.lines.proofs.output.flush.Goals as goal

pub returns-then-n-out : goal.returns-then-n-out
returns-then-n-out g c =
    record {
      within = search rules;
      left = simp (lt-ltb _ _ c.if-n-out.true);
    }

pub returns : goal.returns
returns g c =
    record {
      within = search rules;
      left = simp (le-ltb _ _ c.if-n-out.false, c.write.ensures);
    }
