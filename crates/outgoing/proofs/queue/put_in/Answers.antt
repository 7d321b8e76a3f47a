-- `outgoing::queue::put_in` meets its contract: what stands behind is moved up, and the bytes are laid before it. Assumes nothing.
use native.Mathlib.Omega.{arith}
use mathlib.Core.Path.{refl, ap, ◌∙◌}
use mathlib.Core.List.{List}
use Prim.Native.Nat.{ℕ}
use Rattle.packet.specs.Placed.{laid}
use Rattle.outgoing.proofs.Between.{between}
use Rattle.outgoing.proofs.queue.put_in.Goals as goal

pub returns : goal.returns
returns c =
    let k = c in
    let m = c in
    let x = c.args in
    c.copy_into.ensures
    ∙ ap (λ (d : List ℕ). laid d x.at x.bytes.now) c.move_up.ensures
    ∙ between x.store.now x.bytes.now x.at x.n _ refl (omega arith) (omega arith)
