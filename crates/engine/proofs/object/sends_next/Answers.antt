-- `engine::object::sends_next` meets its contract. The packet that the lower layer makes is sent by its plan.
use mathlib.Core.Path.{refl, ap, ◌∙◌}
use Prim.Native.Nat.{ℕ, ◌-◌}
use Rattle.outgoing.specs.Object.{next_packet}
use Rattle.engine.proofs.Objects.{packet-sent}
use Rattle.engine.proofs.object.sends_next.Goals as goal

pub returns : goal.returns
returns c =
    let k = c.args in
    packet-sent k.e k.srm k.wait _ _ _ _ c.carry_out.ensures c.packet_plan.ensures
    (c.next_packet-k.ensures ∙ ap (λ (n : ℕ). next_packet (n - 3) k.o k.headers.now k.reply.now) refl)
