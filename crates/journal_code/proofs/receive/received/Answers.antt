-- `journal_code::receive::received` meets its contract: after the end, or with stores that are too short, nothing changes; else it
-- goes by how far the packet has come.
use mathlib.Core.Path.{sym, ap, ◌∙◌}
use native.Mathlib.Omega.{arith}
use lib.Seq.{length-take-le}
use Rattle.journal_code.specs.declared.state.State.{State}
use Rattle.journal_code.proofs.Picks.{on_true, on_false}
use Rattle.journal_code.specs.Receive.{came, received_step}
use Rattle.journal_code.proofs.Calls.{fits, goes_on, too_short, is_whole}
use Rattle.journal_code.proofs.receive.received.Goals as goal

pub returns-then-s : goal.returns-then-s
unfolding received_step
returns-then-s c =
    let k = c in
    ap (λ (r : State). came r c.args.packet.now c.args.headers.now c.args.body.now)
    c.quiet.ensures ∙ on_true _ _ _ c.if-s.true

pub returns-then-not-is_fitting : goal.returns-then-not-is_fitting
unfolding received_step
returns-then-not-is_fitting c =
    let k = c in
    ap (λ (r : State). came r c.args.packet.now c.args.headers.now
    c.args.body.now) c.quiet-then-not-is_fitting.ensures
    ∙ on_false _ _ _ (sym c.is_fitting.ensures ∙ c.if-not-is_fitting.true)
    ∙ on_false _ _ _ c.if-s.false

pub read_packet-f-requires : goal.read_packet-f-requires
read_packet-f-requires c =
    let k = c in
    let w = fits c.args.s _ _ _ _
    (sym c.is_fitting.ensures ∙ c.if-not-is_fitting.false) in
    (w.begun, w.packet)

pub slice_bounds-take_packet-end : goal.slice_bounds-take_packet-end
slice_bounds-take_packet-end c =
    let k = c in
    let l = c in
    omega (
      arith,
      c.read_packet-f.ensures.whole c.in-Whole.is,
      c.packet-1.given,
      (fits c.args.s _ _ _ _
          (sym c.is_fitting.ensures ∙ c.if-not-is_fitting.false)).packet,
    )

pub slice_bounds-take_packet-end-in-Whole : goal.slice_bounds-take_packet-end-in-Whole
slice_bounds-take_packet-end-in-Whole c =
    let k = c in
    let l = c in
    let j = c in
    sym (length-take-le _ _ (omega (
      arith,
      c.read_packet-f.ensures.whole c.in-Whole.is,
      c.packet-1.given,
      (fits c.args.s _ _ _ _ (sym c.is_fitting.ensures
          ∙ c.if-not-is_fitting.false)).packet,
    )))

pub take_packet-requires : goal.take_packet-requires
take_packet-requires c =
    let k = c in
    let l = c in
    let j = c in
    let w = fits c.args.s _ _ _ _
    (sym c.is_fitting.ensures ∙ c.if-not-is_fitting.false) in
    (w.count, w.tables, w.headers, w.body, w.kept, w.within)

pub returns-in-More : goal.returns-in-More
unfolding received_step
returns-in-More c =
    let k = c in
    let l = c in
    let j = c in
    rw c.coming_to.ensures
    (goes_on c.args.s c.args.tables.now c.args.headers.now c.args.body.now _ _ _
    c.read_packet-f.ensures.model c.in-More.is
    ∙ on_true _ _ _ (sym c.is_fitting.ensures
    ∙ c.if-not-is_fitting.false)
    ∙ on_false _ _ _ c.if-s.false)

pub returns-in-Short : goal.returns-in-Short
unfolding received_step
returns-in-Short c =
    let k = c in
    let l = c in
    let j = c in
    rw c.ended_with.ensures
    (too_short c.args.s c.args.tables.now c.args.headers.now c.args.body.now _ _ _
    c.read_packet-f.ensures.model c.in-Short.is
    ∙ on_true _ _ _ (sym c.is_fitting.ensures
    ∙ c.if-not-is_fitting.false)
    ∙ on_false _ _ _ c.if-s.false)

pub returns-in-Whole : goal.returns-in-Whole
unfolding received_step
returns-in-Whole c =
    let k = c in
    let l = c in
    let j = c in
    let m = c in
    is_whole c.args.s c.args.tables.now c.args.headers.now
    c.args.body.now _ _ _ c.read_packet-f.ensures.model
    c.in-Whole.is _ _ _ c.take_packet.ensures
    ∙ on_true _ _ _ (sym c.is_fitting.ensures ∙ c.if-not-is_fitting.false)
    ∙ on_false _ _ _ c.if-s.false
