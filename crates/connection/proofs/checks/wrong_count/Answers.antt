-- `connection::checks::wrong_count` meets its contract. The window's set bits are the wrong checks of its history. Assumes nothing.
use Rattle.std.proofs.Common.{refl}
use Rattle.journal.proofs.Checked.{counts}
use Rattle.connection.proofs.checks.wrong_count.Goals as goal

pub returns : goal.returns
returns c =
    record {
      value = refl;
      counted = λ h e. rw e (counts h);
    }
