-- `archive::block::head` meets its contract, byte by byte. Assumes nothing.
use mathlib.Core.Bool.{Bool, true, false}
use Prim.Native.Nat.{ℕ, ◌<◌, ◌≤◌}
use native.Mathlib.Omega.{arith}
use Rattle.archive.specs.Block.{length_field}
use Rattle.archive.proofs.block.head.Goals as goal

field_fits : (l : Bool) (n : ℕ) → n ≤ 490 → length_field l n < 65536
field_fits true n h = omega arith
field_fits false n h = omega arith

pub overflow_cast-result : goal.overflow_cast-result
overflow_cast-result c =
    let f = field_fits c.args.is_last c.args.n c.requires in
    omega arith

pub returns : goal.returns
returns c = rw c.length_field-field.ensures
