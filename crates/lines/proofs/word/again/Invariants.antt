-- `lines::word::again` meets its contract: what is still to be copied is the same copy. Assumes nothing.
use Rattle.std.proofs.Common.{◌≡◌, ◌-◌, length}
use Rattle.lines.specs.Word.{copied_on}
use Rattle.lines.proofs.word.again.Given as goal

abbrev pub invariant-loop-i : goal.invariant-loop-i
invariant-loop-i l = (length l.out ≡ length l.initial.out) × (copied_on (l.to - l.from) l.initial.out l.from l.at ≡ copied_on (l.to - l.i) l.out l.i l.n)
