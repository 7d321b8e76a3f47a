-- `calendar::date::days_before_year` meets its contract: the closed form is the count, year by year. Assumes nothing.
use native.Mathlib.Omega.{arith}
use Rattle.calendar.proofs.Count.{closed-form}
use Rattle.calendar.proofs.date.days_before_year.Goals as goal

pub returns : goal.returns
returns c =
    record {
      value = rw c.from-y.ensures (closed-form c.args.year);
      small = omega arith;
    }
