-- `packet::packet::put_prefix` meets its contract: three bytes, one by one, are laid at once. Assumes nothing.
use native.Mathlib.Omega.{arith}
use Prim.Native.Nat.{◌/◌, ◌%◌}
use lib.ListN.{length-set}
use Rattle.packet.proofs.Laid.{three_laid}
use Rattle.packet.proofs.packet.put_prefix.Goals as goal

pub bounds-store-1 : goal.bounds-store-1
bounds-store-1 c = simp length-set (omega arith)

pub returns : goal.returns
returns c = let x = c.args in three_laid x.store.now 0 x.byte (x.size / 256) (x.size % 256) (omega arith)
