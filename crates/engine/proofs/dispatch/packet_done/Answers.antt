-- `engine::dispatch::packet_done` meets its contract: the plan that `act` gives is carried out (proofs/Arrivals.antt). Assumes nothing.
use mathlib.Core.Path.{◌≡◌, sym}
use native.Mathlib.Omega.{arith}
use lib.ListN.{length, take}
use lib.Seq.{length-take-le}
use Rattle.model.specs.Step.{stores, engine_with}
use Rattle.engine.proofs.Arrivals.{done-call}
use Rattle.engine.proofs.dispatch.packet_done.Goals as goal

pub slice_bounds-act-end : goal.slice_bounds-act-end
slice_bounds-act-end c =
    sym (length-take-le c.args.n c.args.packet.now c.requires.1)

pub act-plan-requires : goal.act-plan-requires
unfolding engine_with
act-plan-requires c =
    let w = c.whole-at.ensures in
    let l : length (take c.args.n c.args.packet.now) ≡ c.args.n = length-take-le c.args.n c.args.packet.now c.requires.1 in
    (omega (arith, l, c.requires.0), rw w c.requires.2, c.requires.3, rw w c.requires.4, rw w c.requires.5, c.requires.6, rw w c.requires.7, c.requires.8)

pub carry_out-requires : goal.carry_out-requires
carry_out-requires c =
    omega (arith, c.requires.8)

pub returns : goal.returns
returns c =
    let x = c.act-plan in
    done-call c.args.e c.args.n (stores c.args.packet.now c.args.headers.now c.args.body.now c.args.reply.now)
    c.args.tables.now
    c.whole-at.result x.result x.new.headers x.new.body x.new.reply _ c.whole-at.ensures
    (x.ensures c.args.packet.now)
    c.carry_out.ensures
