-- `archive::block::copy_body` meets its contract. The body bytes of the blocks before `k` stand at the front of the target, and the rest of the
-- target is as it was. Assumes nothing.
use Rattle.std.proofs.Common.{◌≡◌, ◌++◌, Bool, ℕ, List, length, drop}
use Rattle.archive.proofs.AllRead.{Passed}
use Rattle.archive.proofs.block.copy_body.Given as goal

abbrev pub invariant-loop-k : goal.invariant-loop-k
invariant-loop-k l =
    (length l.body ≡ length l.initial.body)
    × ((e : Bool) × (b : List ℕ) × Passed l.blocks l.k e b × (length b ≡ l.to) × (l.body ≡ b ++ drop l.to l.initial.body))
