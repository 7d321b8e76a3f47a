-- `lines::word::repeat` meets its contract: what is still to be repeated gives the same store. Assumes nothing.
use Rattle.std.proofs.Common.{◌≡◌, ◌-◌, length}
use Rattle.lines.specs.Word.{repeated, repeated_on}
use Rattle.lines.proofs.word.repeat.Given as goal

abbrev pub invariant-loop : goal.invariant-loop
invariant-loop l = (length l.out ≡ length l.initial.out) × (repeated l.initial.out l.from l.to l.count ≡ repeated_on (l.count - l.counter) l.out l.from l.to l.n)
