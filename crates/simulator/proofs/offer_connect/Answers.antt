-- `simulator::offer_connect` meets its contract: the bytes are those of the Connect, with the header that asks for SRM or without. Assumes nothing.
use mathlib.Core.Path.{ap, ◌∙◌}
use mathlib.Core.List.{List}
use Prim.Native.Nat.{ℕ}
use Rattle.model.specs.Step.{stores}
use Rattle.model.specs.Calls.{bytes_offered_step}
use Rattle.simulator.proofs.Moves.{connect_with, connect_without}
use Rattle.simulator.proofs.offer_connect.Goals as goal

pub returns-then-srm : goal.returns-then-srm
returns-then-srm c =
    c.bytes_offered.ensures.step
    ∙ ap (λ (l : List ℕ). bytes_offered_step c.args.e l
    (stores c.args.packet.now c.args.headers.now c.args.body.now c.args.reply.now) c.args.tables.now)
    (connect_with c.args.m c.args.srm c.if-srm.true)

pub returns : goal.returns
returns c =
    c.bytes_offered-2.ensures.step
    ∙ ap (λ (l : List ℕ). bytes_offered_step c.args.e l
    (stores c.args.packet.now c.args.headers.now c.args.body.now c.args.reply.now) c.args.tables.now)
    (connect_without c.args.m c.args.srm c.if-srm.false)
