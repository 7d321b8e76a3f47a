-- `connection::checks::too_many` meets its contract. The count is that of the window, and by it that of the history. Assumes nothing.
use Rattle.journal.specs.Checks.{too_many_of}
use Rattle.connection.proofs.checks.too_many.Goals as goal

pub returns : goal.returns
unfolding too_many_of
returns c =
    record {
      value = rw c.wrong_count.ensures.value;
      counted = λ h e. rw (c.wrong_count.ensures.counted h e);
    }
