-- `simulator::make_move` meets its contract: each arm makes the call of its move. A call that is not lent the tables leaves them. Assumes nothing.
use native.Mathlib.Omega.{arith}
use Prim.Native.Nat.{ℕ}
use mathlib.Core.List.{List}
use mathlib.Core.Path.{◌≡◌, sym, ap, subst, ◌∙◌}
use lib.ListN.{take, length-take}
use Rattle.journal.specs.Calls.{body_given_of}
use Rattle.model.specs.Step.{Stepped, Called, called, stores}
use Rattle.model.specs.Runs.{State, step_of}
use Rattle.simulator.specs.Play.{state_with, call_for}
use Rattle.simulator.specs.declared.Move.{Move}
use Rattle.simulator.specs.declared.Move.TheVariants as move
use Rattle.simulator.proofs.Parts.{take_min}
use Rattle.simulator.proofs.make_move.Goals as goal

-- the move is `x`, and the call is that of `x`
due : (v x : Move) (z : List ℕ) (s : State) (m : Called) → v ≡ x → m ≡ step_of s (call_for x z) → m ≡ step_of s (call_for v z)
due v x z s m e h = subst (λ (v : Move). m ≡ step_of s (call_for v z)) (sym e) h

pub slice_bounds-body_given-end : goal.slice_bounds-body_given-end
slice_bounds-body_given-end c = omega (arith, length-take c.smaller-n.result c.args.bytes.now, c.smaller-n.ensures)

pub returns-in-Ask : goal.returns-in-Ask
returns-in-Ask c =
    let k = c.args in
    let s = state_with k.e (stores k.packet.now k.headers.now k.body.now k.reply.now) k.tables.now in
    due k.v move.Ask k.bytes.now s _ c.in-Ask.is (ap (λ (m : Stepped). called m k.tables.now) c.bytes_offered.ensures.step)

pub returns-in-Take : goal.returns-in-Take
returns-in-Take c =
    let k = c.args in
    let s = state_with k.e (stores k.packet.now k.headers.now k.body.now k.reply.now) k.tables.now in
    due k.v move.Take k.bytes.now s _ c.in-Take.is (ap (λ (m : Stepped). called m k.tables.now) c.reply_taken.ensures)

pub returns-in-GiveObject : goal.returns-in-GiveObject
returns-in-GiveObject c =
    let k = c.args in
    let s = state_with k.e (stores k.packet.now k.headers.now k.body.now k.reply.now) k.tables.now in
    due k.v move.GiveObject k.bytes.now s _ c.in-GiveObject.is (ap (λ (m : Stepped). called m k.tables.now) c.object_given.ensures)

pub returns-in-GiveBody : goal.returns-in-GiveBody
returns-in-GiveBody c =
    let k = c.args in
    let s = state_with k.e (stores k.packet.now k.headers.now k.body.now k.reply.now) k.tables.now in
    due k.v (move.GiveBody _) k.bytes.now s _ c.in-GiveBody.is
    (ap (λ (m : Stepped). called m k.tables.now) c.body_given.ensures
    ∙ ap (λ (d : List ℕ). step_of s (body_given_of d))
    (ap (λ (n : ℕ). take n k.bytes.now) c.smaller-n.ensures ∙ take_min _ k.bytes.now))

pub returns-in-Stop : goal.returns-in-Stop
returns-in-Stop c =
    let k = c.args in
    let s = state_with k.e (stores k.packet.now k.headers.now k.body.now k.reply.now) k.tables.now in
    due k.v move.Stop k.bytes.now s _ c.in-Stop.is (ap (λ (m : Stepped). called m k.tables.now) c.stream_ended.ensures)
