-- `host::feed::feed` meets its contract: if nothing is left after the refill, the call is the end of the stream; otherwise the part that is
-- left is offered, and since a call takes no more than that, the part moves on within the store. Assumes nothing.
use native.Mathlib.Omega.{arith}
use Rattle.model.specs.Step.{stores}
use Rattle.host.proofs.Feeding.{refilled-within, takes-left, feeds_end, feeds_offer}
use Rattle.host.proofs.feed.feed.Goals as goal

pub returns-then-at-end : goal.returns-then-at-end
returns-then-at-end g c =
    let x = c.args in
    feeds_end x.e x.rest c.refilled-r.result x.input.now (stores x.packet.now x.headers.now x.body.now x.reply.now) x.tables.now _
    c.refilled-r.new.input _ c.refilled-r.ensures
    c.if-at-end.true c.stream_ended-took.ensures

pub slice_bounds-bytes_offered-count : goal.slice_bounds-bytes_offered-count
slice_bounds-bytes_offered-count g c =
    let x = c.args in
    (refilled-within x.rest c.refilled-r.result x.input.now c.refilled-r.new.input c.refilled-r.ensures).0.0

pub slice_bounds-bytes_offered-start : goal.slice_bounds-bytes_offered-start
slice_bounds-bytes_offered-start g c =
    let x = c.args in
    (refilled-within x.rest c.refilled-r.result x.input.now c.refilled-r.new.input c.refilled-r.ensures).0.0

pub slice_bounds-bytes_offered-end : goal.slice_bounds-bytes_offered-end
slice_bounds-bytes_offered-end g c =
    let x = c.args in
    (refilled-within x.rest c.refilled-r.result x.input.now c.refilled-r.new.input c.refilled-r.ensures).0.1

pub overflow_add-result : goal.overflow_add-result
overflow_add-result g c =
    let x = c.args in
    omega (
      arith,
      refilled-within x.rest c.refilled-r.result x.input.now c.refilled-r.new.input c.refilled-r.ensures,
      takes-left x.e x.rest c.refilled-r.result x.input.now (stores x.packet.now x.headers.now x.body.now x.reply.now) x.tables.now _
          c.refilled-r.new.input _ c.refilled-r.ensures c.bytes_offered-took.ensures.step,
    )

pub returns : goal.returns
returns g c =
    let x = c.args in
    feeds_offer x.e x.rest c.refilled-r.result x.input.now (stores x.packet.now x.headers.now x.body.now x.reply.now) x.tables.now _
    c.refilled-r.new.input _ c.refilled-r.ensures
    c.if-at-end.false
    c.bytes_offered-took.ensures.step c.bytes_offered-took.ensures.octets
