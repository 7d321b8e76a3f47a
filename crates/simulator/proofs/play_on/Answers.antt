-- `simulator::play_on` meets its contract, by the invariant of its loop. Assumes nothing.
use native.Mathlib.Omega.{arith}
use mathlib.Core.Path.{refl, sym, ap, ◌∙◌}
use Rattle.model.specs.Step.{stores}
use Rattle.simulator.specs.Play.{Moment, moment}
use Rattle.simulator.proofs.Turns.{plays-over}
use Rattle.simulator.proofs.Moves.{turn-counted, plays-none, plays-one}
use Rattle.simulator.proofs.play_on.Goals as goal

pub loop-left-init : goal.loop-left-init
loop-left-init c = (refl, (omega arith, omega arith))

pub returns-then-g : goal.returns-then-g
returns-then-g c =
    let m = moment c.loop-left.g (stores c.loop-left.packet c.loop-left.headers c.loop-left.body c.loop-left.reply) c.args.tables.now in
    sym (plays-over c.args.bytes.now c.loop-left.left m c.if-g.true) ∙ c.loop-left.invariant.0

pub take_turn-g-requires : goal.take_turn-g-requires
take_turn-g-requires c = (omega (arith, c.loop-left.invariant.1.0), omega (arith, c.loop-left.invariant.1.1))

pub overflow_sub-left : goal.overflow_sub-left
overflow_sub-left c = omega arith

pub loop-left-smaller : goal.loop-left-smaller
loop-left-smaller c = omega arith

pub loop-left-preserved : goal.loop-left-preserved
loop-left-preserved c =
    let m = moment c.loop-left.g (stores c.loop-left.packet c.loop-left.headers c.loop-left.body c.loop-left.reply) c.args.tables.now in
    let e = c.take_turn-g.ensures in
    let n = turn-counted c.args.bytes.now m in
    let p = ap (λ (y : Moment). y.game.packets) e in
    let q = ap (λ (y : Moment). y.game.requests) e in (
      plays-one c.args.bytes.now c.loop-left.left m _ (omega arith) c.if-g.false e ∙ c.loop-left.invariant.0,
      (omega (arith, n.packets, p, c.loop-left.invariant.1.0), omega (arith, n.requests, q, c.loop-left.invariant.1.1)),
    )

pub returns : goal.returns
returns c =
    let m = moment c.loop-left.g (stores c.loop-left.packet c.loop-left.headers c.loop-left.body c.loop-left.reply) c.args.tables.now in
    sym (plays-none c.args.bytes.now c.loop-left.left m (omega arith)) ∙ c.loop-left.invariant.0
