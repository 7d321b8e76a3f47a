-- `lines::word::piece_at` meets its contract: each turn goes to the start of the next piece. Assumes nothing.
use Rattle.std.proofs.Common.{◌≡◌, ◌≤◌, length}
use Rattle.lines.specs.Word.{piece_start}
use Rattle.lines.proofs.word.piece_at.Given as goal

abbrev pub invariant-loop : goal.invariant-loop
invariant-loop l = (l.start ≤ length l.text) × (l.start ≡ piece_start l.byte l.text l.counter)
