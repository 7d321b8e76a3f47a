-- `audit::place::number_at` meets its contract: its tests are those of the definition. Assumes nothing.
use Rattle.std.proofs.Common.{◌+◌, length, refl, arith, le-leb}
use borrow.Author.Tests.{lt-leb}
use Rattle.audit.specs.Place.{four_at}
use Rattle.audit.proofs.place.number_at.Goals as goal

pub returns-then-log-at : goal.returns-then-log-at
unfolding four_at
returns-then-log-at c = rw (lt-leb (c.args.at + 4) (length c.args.log.now) (omega arith)) refl

pub returns-then-log-at-lt4 : goal.returns-then-log-at-lt4
unfolding four_at
returns-then-log-at-lt4 c = rw (lt-leb (c.args.at + 4) (length c.args.log.now) (omega arith)) refl

pub returns : goal.returns
unfolding four_at
returns c =
    rw (le-leb (c.args.at + 4) (length c.args.log.now) (omega arith))
    c.be32_at.ensures
