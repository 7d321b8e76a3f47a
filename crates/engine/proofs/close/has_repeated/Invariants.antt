-- None of the ids up to `i` occurs behind its place, so those from `i` on decide.
use Rattle.std.proofs.Common.{◌≡◌, drop}
use Rattle.journal.specs.Ids.{repeats}
use Rattle.engine.proofs.close.has_repeated.Given as goal

abbrev pub invariant-loop-i : goal.invariant-loop-i
invariant-loop-i l = repeats (drop l.i l.ids) ≡ repeats l.ids
