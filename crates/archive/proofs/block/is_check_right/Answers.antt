-- `archive::block::is_check_right` meets its contract: the digest of the first 496 bytes is compared with the rest. Assumes nothing.
use mathlib.Core.Path.{sym, ap₂, ◌∙◌}
use Prim.Native.Nat.{◌-◌}
use native.Mathlib.Omega.{arith}
use lib.ListN.{length, drop, length-drop}
use lib.Seq.{length-take-le, take_all}
use Rattle.archive.specs.Block.{same}
use Rattle.archive.proofs.block.is_check_right.Goals as goal

pub slice_bounds-digest-end : goal.slice_bounds-digest-end
slice_bounds-digest-end c = sym (length-take-le 496 c.args.block.now (omega arith))

pub returns : goal.returns
returns c =
    let b = c.args.block.now in
    c.is_same.ensures ∙ ap₂ same c.digest-check.ensures (take_all (length b - 496) (drop 496 b) (omega (arith, length-drop 496 b)))
