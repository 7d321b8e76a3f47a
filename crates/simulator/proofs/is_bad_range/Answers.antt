-- `simulator::is_bad_range` meets its contract: by its tests, in their order. Assumes nothing.
use native.Mathlib.Omega.{arith}
use mathlib.Core.Path.{sym, ◌∙◌}
use borrow.Author.Tests.{lt-ltb, le-ltb}
use Rattle.simulator.proofs.is_bad_range.Goals as goal

pub returns-then-n1-n0 : goal.returns-then-n1-n0
returns-then-n1-n0 c = let a = c.args in rw (lt-ltb a.n1 a.n0 (omega arith))

pub returns-then-m1-m0 : goal.returns-then-m1-m0
returns-then-m1-m0 c = let a = c.args in rw (le-ltb a.n1 a.n0 (omega arith), lt-ltb a.m1 a.m0 (omega arith))

pub returns-then-is_bad_limit : goal.returns-then-is_bad_limit
returns-then-is_bad_limit c =
    let a = c.args in
    rw (le-ltb a.n1 a.n0 (omega arith), le-ltb a.m1 a.m0 (omega arith), sym c.is_bad_limit.ensures ∙ c.if-is_bad_limit.true)

pub returns : goal.returns
returns c =
    let a = c.args in
    let low = sym c.is_bad_limit.ensures ∙ c.if-is_bad_limit.false in
    rw (le-ltb a.n1 a.n0 (omega arith), le-ltb a.m1 a.m0 (omega arith), low) c.is_bad_limit-2.ensures
