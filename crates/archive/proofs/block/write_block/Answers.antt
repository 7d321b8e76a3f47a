-- `archive::block::write_block` meets its contract: what the check is of and the check are laid behind one another. Assumes nothing.
use Prim.Native.Nat.{◌*◌}
use native.Mathlib.Omega.{arith}
use Rattle.digest.proofs.Octets.{length-digest}
use Rattle.digest.specs.Md5.{digest_of}
use Rattle.archive.specs.Block.{checked, block}
use Rattle.archive.proofs.OneBlock.{length-checked}
use Rattle.archive.proofs.Laid.{parts-laid}
use Rattle.archive.proofs.block.write_block.Goals as goal

pub returns : goal.returns
unfolding block
returns c =
    let s = c in
    let g = c in
    let a = c in
    let p = checked c.args.is_last c.args.k c.args.payload.now in
    let l = length-checked c.args.is_last c.args.k c.args.payload.now c.requires.0 in
    rw (c.copy_into-2.ensures, c.copy_into.ensures, c.digest-check.ensures, c.checked_part-part.ensures, l, length-digest p)
    (parts-laid c.args.blocks.now p (digest_of p) (512 * c.args.k) 496 16 l (length-digest p) (omega arith))
