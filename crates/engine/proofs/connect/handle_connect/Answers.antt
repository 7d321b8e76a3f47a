-- `engine::connect::handle_connect` meets its contract: the limit, the response, and the plan for them. Assumes nothing.
use native.Mathlib.Omega.{arith}
use Rattle.packet.specs.Packet.{connect_limit}
use Rattle.engine.specs.Connect.{connect_plan}
use Rattle.engine.proofs.connect.handle_connect.Goals as goal

pub overflow_cast-limit : goal.overflow_cast-limit
unfolding connect_limit
overflow_cast-limit c = omega (arith, c.connect_limit-limit.ensures, c.shared_slice_known-1.given 5, c.shared_slice_known-1.given 6)

pub returns : goal.returns
unfolding connect_plan
returns c =
    simp (
      c.limited_plan.ensures,
      c.client_response.ensures,
      c.limited.ensures,
      c.connect_limit-limit.ensures,
    )
