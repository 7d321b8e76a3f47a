-- `outgoing::object::put_head` meets its contract. The three stores are one paste. Assumes nothing.
use native.Mathlib.Omega.{arith}
use Prim.Native.Nat.{◌/◌, ◌%◌}
use lib.ListN.{length-set}
use Rattle.packet.proofs.Laid.{three_laid}
use Rattle.outgoing.proofs.object.put_head.Goals as goal

pub bounds-store-at-2 : goal.bounds-store-at-2
bounds-store-at-2 c = simp length-set (omega arith)

pub bounds-store-at-3 : goal.bounds-store-at-3
bounds-store-at-3 c = simp length-set (omega arith)

pub returns : goal.returns
returns c = let x = c.args in three_laid x.store.now x.at x.first (x.n / 256) (x.n % 256) (omega arith)
