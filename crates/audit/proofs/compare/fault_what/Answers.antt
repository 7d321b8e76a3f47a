-- `audit::compare::fault_what` meets its contract: its tests are those of the definition. Assumes nothing.
use Rattle.std.proofs.Common.{refl, arith, le-ltb, lt-ltb}
use Rattle.audit.specs.Compare.{fault_what}
use Rattle.audit.proofs.compare.fault_what.Goals as goal

pub returns-then-sound-count : goal.returns-then-sound-count
unfolding fault_what
returns-then-sound-count c = rw (lt-ltb c.args.sound c.args.count c.if-sound-count.true) refl

pub returns : goal.returns
unfolding fault_what
returns c = rw (le-ltb c.args.sound c.args.count (omega arith)) refl
