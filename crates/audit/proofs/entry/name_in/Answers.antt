-- `audit::entry::name_in` meets its contract: a short payload has no name. Assumes nothing.
use Rattle.std.proofs.Common.{length, refl, arith, le-ltb, lt-ltb}
use Rattle.audit.specs.Taken.{name_in}
use Rattle.audit.proofs.entry.name_in.Goals as goal

pub returns-then-payload : goal.returns-then-payload
unfolding name_in
returns-then-payload c = rw (lt-ltb (length c.args.payload.now) 49 c.if-payload.true) refl

pub returns : goal.returns
unfolding name_in
returns c =
    rw (le-ltb (length c.args.payload.now) 49 (omega arith)) c.copy_into.ensures
