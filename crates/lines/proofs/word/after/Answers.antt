-- `lines::word::after` meets its contract: the test is the definition's. Assumes nothing.
use borrow.Author.Tests.{lt-ltb, le-ltb}
use Rattle.lines.specs.Word.{place_after}
use borrow.Author.Rules.{rules}
use Rattle.lines.proofs.word.after.Goals as goal

pub returns-then-end-s : goal.returns-then-end-s
unfolding place_after
returns-then-end-s c =
    record {
      bounds = search rules;
      place = simp (lt-ltb _ _ c.if-end-s.true);
    }

pub returns-else-end-s : goal.returns-else-end-s
unfolding place_after
returns-else-end-s c =
    record {
      bounds = search rules;
      place = simp (le-ltb _ _ c.if-end-s.false);
    }
