-- `archive::block::judge` meets its contract. The blocks before `k` have no fault, and hold a body of so many bytes. Assumes nothing.
use Rattle.std.proofs.Common.{◌≡◌, ℕ, List, length}
use Rattle.archive.proofs.AllRead.{Passed}
use Rattle.archive.proofs.block.judge.Given as goal

abbrev pub invariant-loop-k : goal.invariant-loop-k
invariant-loop-k l = (b : List ℕ) × (length b ≡ l.total) × Passed l.blocks l.k l.is_ended b
