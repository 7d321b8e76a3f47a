-- `filing::content::front_len` meets its contract: each event has its own length. Assumes nothing.
use mathlib.Core.Path.{refl}
use native.Mathlib.Omega.{arith}
use Rattle.filing.specs.Kinds.{check_pair, open_row}
use Rattle.filing.proofs.content.front_len.Goals as goal

pub returns-in-Opened : goal.returns-in-Opened
unfolding open_row
returns-in-Opened c =
    record {
      value = rw c.in-Opened.is refl;
      small = omega arith;
    }

pub returns-in-Checked : goal.returns-in-Checked
unfolding check_pair
returns-in-Checked c =
    record {
      value = rw c.in-Checked.is refl;
      small = omega arith;
    }
