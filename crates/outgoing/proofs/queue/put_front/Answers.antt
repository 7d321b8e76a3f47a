-- `outgoing::queue::put_front` meets its contract: what stands there is moved up, and what goes back is laid before it. Assumes nothing.
use native.Mathlib.Omega.{arith}
use mathlib.Core.Path.{ap, ◌∙◌}
use mathlib.Core.List.{List}
use Prim.Native.Nat.{ℕ, ◌+◌}
use Rattle.packet.specs.Placed.{laid}
use Rattle.outgoing.specs.Queue.{back_bytes}
use Rattle.outgoing.proofs.Between.{between}
use Rattle.outgoing.proofs.queue.put_front.Goals as goal

pub returns : goal.returns
returns c =
    let k = c in
    let m = c in
    let x = c.args in
    let l = back_bytes x.part x.packet.now 0 in
    c.put_back.ensures
    ∙ ap (λ (d : List ℕ). laid d 0 l) c.move_up.ensures
    ∙ between x.store.now l 0 x.n (0 + x.size) (omega arith) (omega arith) (omega arith)
