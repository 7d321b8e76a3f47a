-- `lines::word::push` meets its contract: the test is the definition's. Assumes nothing.
use borrow.Author.Tests.{lt-ltb, le-ltb}
use Rattle.lines.specs.Word.{pushed}
use Rattle.lines.proofs.word.push.Goals as goal

pub returns-then-n-out : goal.returns-then-n-out
unfolding pushed
returns-then-n-out c = simp (lt-ltb _ _ c.if-n-out.true)

pub returns : goal.returns
unfolding pushed
returns c = simp (le-ltb _ _ c.if-n-out.false)
