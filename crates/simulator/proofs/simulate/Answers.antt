-- `simulator::simulate` meets its contract: a limit that is left fits 16 bits, and the counts are those of the game. Assumes nothing.
use native.Mathlib.Omega.{arith}
use mathlib.Core.Path.{sym, ◌∙◌}
use Rattle.simulator.specs.Play.{simulate}
use Rattle.simulator.proofs.Moves.{limit-fits}
use Rattle.simulator.proofs.simulate.Goals as goal

pub returns-then-is_bad_limit : goal.returns-then-is_bad_limit
unfolding simulate
returns-then-is_bad_limit c = rw (sym c.is_bad_limit.ensures ∙ c.if-is_bad_limit.true)

pub overflow_cast-m : goal.overflow_cast-m
overflow_cast-m c = omega (arith, limit-fits c.args.m (sym c.is_bad_limit.ensures ∙ c.if-is_bad_limit.false))

pub returns : goal.returns
unfolding simulate
returns c = rw (sym c.is_bad_limit.ensures ∙ c.if-is_bad_limit.false, c.play_get-g.ensures)
