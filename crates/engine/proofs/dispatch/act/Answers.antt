-- `engine::dispatch::act` meets its contract: each way has its plan, whose needs are known on that way (proofs/Ready.antt).
-- Assumes nothing.
use mathlib.Core.Path.{◌≡◌, ◌∙◌, sym, ap}
use native.Mathlib.Omega.{arith}
use Rattle.packet.specs.Packet.{request_of}
use Rattle.model.specs.Step.{stores, engine_with}
use Rattle.model.specs.Dispatch.{packet_target}
use Rattle.server.specs.declared.Engine.{Engine}
use Rattle.engine.specs.Dispatch.{packet_route, targeted}
use Rattle.engine.specs.Connect.{connect_plan}
use Rattle.engine.specs.declared.dispatch.Routed.{Routed}
use Rattle.engine.specs.Step.{planned}
use Rattle.engine.specs.declared.step.Plan.{Plan}
use Rattle.engine.proofs.Arrivals.{by_route, ready_at}
use Rattle.model.proofs.Steps.{outgoing_within}
use Rattle.engine.proofs.Turns.{sent-turn}
use Rattle.engine.proofs.dispatch.act.Goals as goal

pub handle_connect-requires : goal.handle_connect-requires
handle_connect-requires c =
    let a = c.args in
    let way : packet_route a.e a.p.now a.tables.now ≡ c.route_packet-routed.result.route
    = ap (λ (x : Routed). x.route) (sym c.route_packet-routed.ensures) in
    ready_at a.e a.e.target a.p.now a.tables.now _ (way ∙ c.in-Connect.is) c.requires.4

pub gather_packet-requires : goal.gather_packet-requires
unfolding engine_with
gather_packet-requires c =
    let a = c.args in
    let way : packet_route a.e a.p.now a.tables.now ≡ c.route_packet-routed.result.route
    = ap (λ (x : Routed). x.route) (sym c.route_packet-routed.ensures) in
    let here : c.with_target-at.result ≡ targeted a.e (packet_target (request_of a.p.now) a.e a.tables.now)
    = c.with_target-at.ensures ∙ ap (λ (x : Routed). targeted a.e x.target) c.route_packet-routed.ensures in
    let g = packet_target (request_of a.p.now) a.e a.tables.now in
    let y = ready_at a.e g a.p.now a.tables.now _ (way ∙ c.in-Gather.is) c.requires.4 in
    rw here (y.0, y.1, c.requires.5, c.requires.6)

pub object_plan-requires : goal.object_plan-requires
unfolding engine_with
object_plan-requires c =
    let a = c.args in
    let way : packet_route a.e a.p.now a.tables.now ≡ c.route_packet-routed.result.route
    = ap (λ (x : Routed). x.route) (sym c.route_packet-routed.ensures) in
    let here : c.with_target-at.result ≡ targeted a.e (packet_target (request_of a.p.now) a.e a.tables.now)
    = c.with_target-at.ensures ∙ ap (λ (x : Routed). targeted a.e x.target) c.route_packet-routed.ensures in
    let g = packet_target (request_of a.p.now) a.e a.tables.now in
    let y = ready_at a.e g a.p.now a.tables.now _ (way ∙ c.in-Send.is) c.requires.4 in
    let z = outgoing_within c.in-Send.outgoing y.0 y.1 in
    rw here (c.requires.3, omega (arith, z.total, c.requires.5), c.requires.7)

pub returns-in-Plain : goal.returns-in-Plain
returns-in-Plain c =
    λ q.
    let a = c.args in
    let way : packet_route a.e a.p.now a.tables.now ≡ c.route_packet-routed.result.route
    = ap (λ (x : Routed). x.route) (sym c.route_packet-routed.ensures) in
    let here : c.with_target-at.result ≡ targeted a.e (packet_target (request_of a.p.now) a.e a.tables.now)
    = c.with_target-at.ensures ∙ ap (λ (x : Routed). targeted a.e x.target) c.route_packet-routed.ensures in
    let g = packet_target (request_of a.p.now) a.e a.tables.now in
    let s = stores q a.headers.now a.body.now a.reply.now in
    by_route a.e g a.p.now a.tables.now s _ _ (way ∙ c.in-Plain.is)
    (ap (λ (x : Plan). planned x s) (rw here at c.simple_plan.ensures))

pub returns-in-Connect : goal.returns-in-Connect
returns-in-Connect c =
    λ q.
    let a = c.args in
    let way : packet_route a.e a.p.now a.tables.now ≡ c.route_packet-routed.result.route
    = ap (λ (x : Routed). x.route) (sym c.route_packet-routed.ensures) in
    let here : c.with_target-at.result ≡ targeted a.e (packet_target (request_of a.p.now) a.e a.tables.now)
    = c.with_target-at.ensures ∙ ap (λ (x : Routed). targeted a.e x.target) c.route_packet-routed.ensures in
    let g = packet_target (request_of a.p.now) a.e a.tables.now in
    let s = stores q a.headers.now a.body.now a.reply.now in
    by_route a.e g a.p.now a.tables.now s _ _ (way ∙ c.in-Connect.is)
    (ap (λ (x : Plan). planned x s) (c.handle_connect.ensures ∙ ap (λ (f : Engine). connect_plan f a.p.now) here))

pub returns-in-Gather : goal.returns-in-Gather
returns-in-Gather c =
    λ q.
    let a = c.args in
    let way : packet_route a.e a.p.now a.tables.now ≡ c.route_packet-routed.result.route
    = ap (λ (x : Routed). x.route) (sym c.route_packet-routed.ensures) in
    let here : c.with_target-at.result ≡ targeted a.e (packet_target (request_of a.p.now) a.e a.tables.now)
    = c.with_target-at.ensures ∙ ap (λ (x : Routed). targeted a.e x.target) c.route_packet-routed.ensures in
    let g = packet_target (request_of a.p.now) a.e a.tables.now in
    let s = stores q a.headers.now a.body.now a.reply.now in
    by_route a.e g a.p.now a.tables.now s _ _ (way ∙ c.in-Gather.is)
    (rw here at (c.gather_packet.ensures q a.reply.now))

pub returns-in-Send : goal.returns-in-Send
returns-in-Send c =
    λ q.
    let a = c.args in
    let way : packet_route a.e a.p.now a.tables.now ≡ c.route_packet-routed.result.route
    = ap (λ (x : Routed). x.route) (sym c.route_packet-routed.ensures) in
    let here : c.with_target-at.result ≡ targeted a.e (packet_target (request_of a.p.now) a.e a.tables.now)
    = c.with_target-at.ensures ∙ ap (λ (x : Routed). targeted a.e x.target) c.route_packet-routed.ensures in
    let g = packet_target (request_of a.p.now) a.e a.tables.now in
    let s = stores q a.headers.now a.body.now a.reply.now in
    by_route a.e g a.p.now a.tables.now s _ _ (way ∙ c.in-Send.is)
    (sent-turn (targeted a.e g) s _ _ _ _ _ (rw here at c.object_plan.ensures))
