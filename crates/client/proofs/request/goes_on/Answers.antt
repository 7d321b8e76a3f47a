-- `client::request::goes_on` meets its contract. The arms of the code are those of the definition. Assumes nothing.
use native.Mathlib.Omega.{arith}
use mathlib.Core.Path.{ap}
use Rattle.client_model.specs.Step.{stores}
use Rattle.client_model.specs.Step.{stepped}
use Rattle.client_model.specs.declared.CallResult.{CallResult}
use Rattle.client.proofs.Packets.{goes-turn, turn-total}
use Rattle.client.proofs.request.goes_on.Goals as goal

pub requests_next-requires : goal.requests_next-requires
requests_next-requires c =
    let args = c.args in
    let pre = c.requires in
    let t = turn-total args.c.operation _ _ c.sent_turn.ensures c.in-Some.is pre.1 in
    (pre.0, omega (arith, t, pre.2), pre.3)

pub returns-in-Some : goal.returns-in-Some
returns-in-Some c =
    λ p b.
    let args = c.args in
    let lent = stores p args.headers.now b args.request.now in
    goes-turn args.c.operation args.c lent _ _ _ c.sent_turn.ensures c.in-Some.is
    (c.requests_next.ensures p b)

pub returns-in-None : goal.returns-in-None
returns-in-None c =
    λ p b.
    let args = c.args in
    let lent = stores p args.headers.now b args.request.now in
    goes-turn args.c.operation args.c lent _ _ _ c.sent_turn.ensures c.in-None.is
    (ap (λ (r : CallResult). stepped r lent) c.wants.ensures)
