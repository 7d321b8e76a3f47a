-- `pair::answers::find_line` meets its contract. Each turn passes a line, and a line lies within the store. Assumes nothing.
use Rattle.std.proofs.Common.{◌-◌, length, rules}
use Rattle.pair.proofs.answers.find_line.Given as goal

abbrev pub invariant-loop-start : goal.invariant-loop-start
invariant-loop-start l = Unit {0}

abbrev pub decreases-loop-start : goal.decreases-loop-start
decreases-loop-start l = length l.lines - l.start
