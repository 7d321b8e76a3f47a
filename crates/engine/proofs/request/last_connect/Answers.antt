-- `engine::request::last_connect` meets its contract: the walk begins where the packet's headers start.
use mathlib.Core.Path.{ap, ◌∙◌}
use Prim.Native.Nat.{ℕ}
use Rattle.connection.specs.Request.{connect_request}
use Rattle.engine.specs.Request.{last_connect}
use Rattle.engine.proofs.request.last_connect.Goals as goal

pub returns : goal.returns
unfolding last_connect
returns c =
    let q = c.args.q.now in
    c.connect_request.ensures ∙ ap (λ (n : ℕ). connect_request q n) c.last_from.ensures
