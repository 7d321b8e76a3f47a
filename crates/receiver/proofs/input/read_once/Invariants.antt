-- `receiver::input::read_once` meets its contract: the tries are counted down, and the store stays as long as it is. Assumes nothing.
use Rattle.std.proofs.Common.{◌≡◌, length}
use Rattle.receiver.proofs.input.read_once.Given as goal

abbrev pub invariant-loop-tries : goal.invariant-loop-tries
invariant-loop-tries g l = length l.s ≡ length l.initial.s

abbrev pub decreases-loop-tries : goal.decreases-loop-tries
decreases-loop-tries g l = l.tries
