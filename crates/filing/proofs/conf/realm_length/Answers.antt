-- `filing::conf::realm_length` meets its contract, by whether there are more. Assumes nothing.
use borrow.Author.Tests.{le-leb, lt-leb}
use Rattle.filing.proofs.conf.realm_length.Goals as goal

pub returns-then-n-le254 : goal.returns-then-n-le254
returns-then-n-le254 c = simp (le-leb _ _ c.if-n-le254.true)

pub returns-else-n-le254 : goal.returns-else-n-le254
returns-else-n-le254 c = simp (lt-leb _ _ c.if-n-le254.false)
