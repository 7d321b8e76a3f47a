-- `archive::block::write_blocks` meets its contract. The invariant: the first k blocks stand at the front of the target, the rest of the target
-- is as it was, and the blocks that are left are those of the rest of the body. Assumes nothing.
use mathlib.Core.Path.{◌≡◌}
use Prim.Native.Nat.{◌-◌}
use lib.ListN.{length}
use Rattle.archive.proofs.AllWritten.{Counted, Left, Begun}
use Rattle.archive.proofs.block.write_blocks.Given as goal

abbrev pub invariant-loop-k : goal.invariant-loop-k
invariant-loop-k l = Counted (length l.body) × (length l.blocks ≡ length l.initial.blocks) × Left l.body l.k (l.last - l.k)
    × Begun l.body l.initial.blocks l.blocks l.k
