-- `lines::word::number` meets its contract: each turn takes one digit more. Assumes nothing.
use Rattle.std.proofs.Common.{◌≡◌, ◌<◌, drop}
use Rattle.lines.specs.Word.{number_from, number_of}
use Rattle.lines.proofs.word.number.Given as goal

abbrev pub invariant-loop-c : goal.invariant-loop-c
invariant-loop-c l = (l.n < 20000000000) × (number_of l.s ≡ number_from l.n (drop l.c-index l.s))
