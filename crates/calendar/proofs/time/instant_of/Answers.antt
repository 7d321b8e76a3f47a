-- `calendar::time::instant_of` meets its contract: 32 bits of seconds are less than 137 years. Assumes nothing.
use Rattle.calendar.specs.Time.{instant_of}
use Rattle.calendar.proofs.time.instant_of.Goals as goal

pub returns : goal.returns
unfolding instant_of
returns c = rw c.date_after_epoch.ensures
