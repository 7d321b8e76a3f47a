-- `client::answer::more_way` meets its contract. Each `return` rewrites with the tests that led there. Assumes nothing.
use borrow.Author.Tests.{not-true, not-false}
use Rattle.client.specs.Answer.{more_way}
use Rattle.client.proofs.answer.more_way.Goals as goal

pub returns-then-not-c : goal.returns-then-not-c
unfolding more_way
returns-then-not-c c = simp (not-true c.args.c.aborting c.if-not-c.true)

pub returns-then-srm : goal.returns-then-srm
unfolding more_way
returns-then-srm c =
    simp (not-false c.args.c.aborting c.if-not-c.false, c.if-srm.true, c.wants.ensures)

pub returns : goal.returns
unfolding more_way
returns c =
    simp (not-false c.args.c.aborting c.if-not-c.false, c.if-srm.false)
