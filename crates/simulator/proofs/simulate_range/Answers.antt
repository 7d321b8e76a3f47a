-- `simulator::simulate_range` meets its contract: limits that are left fit 16 bits, and the counts are those of the two corners. Assumes nothing.
use native.Mathlib.Omega.{arith}
use Rattle.simulator.proofs.Moves.{range_fits}
use mathlib.Core.Path.{sym, ◌∙◌}
use Rattle.simulator.specs.Play.{simulate_range}
use Rattle.simulator.proofs.simulate_range.Goals as goal

pub returns-then-is_bad_range : goal.returns-then-is_bad_range
unfolding simulate_range
returns-then-is_bad_range c = rw (sym c.is_bad_range.ensures ∙ c.if-is_bad_range.true)

pub overflow_cast-m1 : goal.overflow_cast-m1
overflow_cast-m1 c =
    let a = c.args in
    omega (arith, (range_fits a.n0 a.n1 a.m0 a.m1 (sym c.is_bad_range.ensures ∙ c.if-is_bad_range.false)).high)

pub overflow_cast-m0 : goal.overflow_cast-m0
overflow_cast-m0 c =
    let a = c.args in
    omega (arith, (range_fits a.n0 a.n1 a.m0 a.m1 (sym c.is_bad_range.ensures ∙ c.if-is_bad_range.false)).low)

pub returns : goal.returns
unfolding simulate_range
returns c =
    let good = sym c.is_bad_range.ensures ∙ c.if-is_bad_range.false in
    rw (good, c.play_get-a.ensures, c.play_get-b.ensures)
