-- `simulator::is_bad_limit` meets its contract: by its two tests. Assumes nothing.
use native.Mathlib.Omega.{arith}
use borrow.Author.Tests.{lt-ltb, le-ltb}
use Rattle.simulator.proofs.is_bad_limit.Goals as goal

pub returns-then-m-lt255 : goal.returns-then-m-lt255
returns-then-m-lt255 c = rw (lt-ltb c.args.m 255 (omega arith))

pub returns : goal.returns
returns c = rw (le-ltb c.args.m 255 (omega arith))
