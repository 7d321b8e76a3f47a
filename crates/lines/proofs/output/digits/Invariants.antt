-- `lines::output::digits` meets its contract: so far the digits of the first `n` bytes stand at the front. Assumes nothing.
use Rattle.std.proofs.Common.{◌≡◌, ◌*◌, length}
use Rattle.std.proofs.Math.Seq.{paste}
use Rattle.lines.specs.Output.{hex_of}
use Rattle.lines.proofs.output.digits.Given as goal

abbrev pub invariant-loop-n : goal.invariant-loop-n
invariant-loop-n l = (length l.out ≡ length l.initial.out) × (l.out ≡ paste l.initial.out 0 (hex_of l.s) (2 * l.n))
