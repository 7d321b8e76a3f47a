-- `digest::md5::filled_blocks` meets its contract. The invariant: s is the registers after k blocks. Assumes nothing.
use Rattle.std.proofs.Common.{◌≡◌, ◌-◌, ◌≤◌, ◌++◌}
use Rattle.digest.specs.Md5.{padded, blocks}
use Rattle.digest.proofs.md5.filled_blocks.Given as goal

abbrev pub invariant-loop-k : goal.invariant-loop-k
invariant-loop-k l = (l.k ≤ l.to) × (l.s ≡ blocks (padded (l.prefix ++ l.rest)) l.k)

abbrev pub decreases-loop-k : goal.decreases-loop-k
decreases-loop-k l = l.to - l.k
