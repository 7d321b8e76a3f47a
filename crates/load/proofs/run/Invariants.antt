-- `load::run` counts the sessions up to the first argument; what was read lies in its store. Assumes nothing.
use Rattle.std.proofs.Common.{◌-◌, ◌≤◌, length, rules}
use Rattle.load.proofs.run.Given as goal

abbrev pub invariant-loop-i : goal.invariant-loop-i
invariant-loop-i g l = l.n ≤ length l.stream

abbrev pub decreases-loop-i : goal.decreases-loop-i
decreases-loop-i g l = l.count - l.i
