-- `engine::request::is_right` meets its contract. The response is the one of the first such header, and the check is the model's by numbers.
use native.Mathlib.Omega.{arith}
use mathlib.Core.Path.{sym, ap, ◌∙◌}
use Rattle.packet.specs.AuthWrite.{given}
use Rattle.std.specs.Prelude.{Option as Maybe}
use Rattle.packet.specs.declared.auth.DigestResponse.{DigestResponse}
use Rattle.connection.specs.Pieces.{check_of}
use Rattle.engine.proofs.LastPacket.{first_bounds, last_finds, right-missing, right_at}
use Rattle.engine.proofs.request.is_right.Goals as goal

pub returns-in_default : goal.returns-in_default
returns-in_default c =
    right-missing c.args.stored c.args.q.now _ _ (sym (last_finds _ _ c.last_connect-c.ensures).response ∙ c.in_default.is)

pub of-requires-clause-ordered : goal.of-requires-clause-ordered
of-requires-clause-ordered c =
    (first_bounds 0x4E _ _ _ _ (sym (last_finds _ _ c.last_connect-c.ensures).response ∙ c.in-Some.is)).0

pub of-requires-clause-within : goal.of-requires-clause-within
of-requires-clause-within c =
    (first_bounds 0x4E _ _ _ _ (sym (last_finds _ _ c.last_connect-c.ensures).response ∙ c.in-Some.is)).1

pub returns : goal.returns
returns c =
    let k = c.args in
    c.verify_client.ensures
    ∙ ap (λ (x : Maybe DigestResponse). check_of k.stored x k.demands (given k.has_password k.password.now)) (rw c.of.ensures at c.read_response.ensures)
    ∙ right_at k.stored k.q.now _ _ _ _ (λ i. omega (arith, c.type_inv.q i))
    (sym (last_finds _ _ c.last_connect-c.ensures).response ∙ c.in-Some.is)
