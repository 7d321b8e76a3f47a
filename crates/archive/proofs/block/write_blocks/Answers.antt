-- `archive::block::write_blocks` meets its contract. The invariant: the first k blocks stand at the front of the target, the rest of the target
-- is as it was, and the blocks that are left are those of the rest of the body. Assumes nothing.
use mathlib.Core.Path.{◌≡◌, refl}
use Prim.Native.Nat.{suc, ◌+◌, ◌-◌, ◌*◌}
use native.Mathlib.Omega.{arith}
use lib.ListN.{length, drop, length-drop}
use lib.Seq.{take_all}
use Rattle.archive.specs.Writing.{block_count}
use Rattle.archive.proofs.AllWritten.{counted, left-all, left-more, full-laid, last-laid}
use Rattle.archive.proofs.block.write_blocks.Goals as goal

pub overflow_sub-last : goal.overflow_sub-last
overflow_sub-last c =
    let n = counted (length c.args.body.now) in
    omega arith

pub loop-k-init : goal.loop-k-init
loop-k-init c =
    let a = c.args in
    let n = counted (length a.body.now) in
    let m : block_count (length a.body.now) - 1 ≡ a.count - 1 - 0 = omega arith in
    (n, refl, rw m at (left-all a.body.now), refl)

pub loop-k-preserved : goal.loop-k-preserved
loop-k-preserved c =
    let l = c.loop-k in
    let k = l.k in
    let b = c.args.body.now in
    let n = l.invariant.0 in
    let m = c.args.count - 1 - (k + 1) in
    let s : c.args.count - 1 - k ≡ suc m = omega arith in
    let left = rw s at l.invariant.2 in
    let cut : 490 * k + 490 - 490 * k ≡ 490 = omega arith in
    let laid = full-laid b c.args.blocks.now l.blocks k l.invariant.3 (omega arith) m (omega arith) (omega arith) left in (
      n,
      omega arith,
      left-more b k m (omega arith) left,
      rw (c.write_block.ensures, cut) laid,
    )

pub returns : goal.returns
returns c =
    let l = c.loop-k in
    let b = c.args.body.now in
    let n = l.invariant.0 in
    let q = c.args.count - 1 in
    let z : l.k ≡ q = omega arith in
    let m : q - q ≡ 0 = omega arith in
    let left = rw (z, m) at l.invariant.2 in
    let begun = rw z at l.invariant.3 in
    let d = length-drop (490 * q) b in
    let rest = take_all (length b - 490 * q) (drop (490 * q) b) (omega arith) in
    rw (c.write_block-2.ensures, rest) (last-laid b c.args.blocks.now l.blocks q begun (omega arith) (omega arith) (omega arith) left)
