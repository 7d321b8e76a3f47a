-- The loop of `records::answer::put_numbers`: what is put lies in the store.
use Rattle.std.proofs.Common.{◌≤◌, length}
use Rattle.records.proofs.answer.put_numbers.Given as goal

abbrev pub invariant-loop-k : goal.invariant-loop-k
invariant-loop-k l = l.n ≤ length l.out
