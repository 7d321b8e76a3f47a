-- `incoming::frame::bulk` meets its contract. What goes at once ends before the packet does, so it is the same as byte by byte (`Jump`).
use native.Mathlib.Omega.{arith}
use mathlib.Core.Path.{subst}
use Prim.Native.Nat.{ℕ, zero, suc, ◌+◌, ◌-◌, ◌≤◌, ◌<◌}
use lib.ListN.{drop, length-take}
use Rattle.incoming.proofs.Jump.{jumped}
use Rattle.incoming.proofs.frame.bulk.Goals as goal

-- a piece that fits
small : (at m n : ℕ) → n < 65536 → at < 65535 → (0 < m → (3 ≤ at) × (at + m < n)) → at + m < 65535
small at zero n k h r = omega arith
small at (suc j) n k h r = omega (arith, (r (omega arith)).1)

pub copy_into-requires : goal.copy_into-requires
copy_into-requires c =
    let x = c.args in
    let m = c.room-m.result in
    let r = c.room-m.ensures in
    omega (
      arith,
      small x.at m c.be16_at-n.result c.be16_at-n.ensures.small (omega arith) r.1,
      length-take (x.i + m - x.i) (drop x.i x.input.now),
    )

pub returns : goal.returns
returns c =
    let x = c.args in
    let m = c.room-m.result in
    let r = c.room-m.ensures in
    let n = c.be16_at-n in record {
      within = (omega arith, small x.at m n.result n.ensures.small (omega arith) r.1);
      model = jumped x.packet.now c.copy_into.new.dst x.input.now x.at x.i m
          (subst (λ (k : ℕ). 0 < m → (3 ≤ x.at) × (x.at + m < k)) n.ensures.value r.1) (omega arith)
          (omega (arith, small x.at m n.result n.ensures.small (omega arith) r.1)) c.copy_into.ensures;
    }
