-- `engine::object::object_plan` meets its contract: the plan is the one for what `next_packet` gives. Assumes nothing.
use mathlib.Core.Path.{refl}
use Rattle.engine.proofs.Carried.{object-made}
use Rattle.engine.proofs.object.object_plan.Goals as goal

pub returns : goal.returns
returns c =
    object-made _ _ _ _ _ _ _ _ _ _ c.next_packet.ensures refl
    c.packet_plan.ensures
