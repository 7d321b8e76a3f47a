-- `engine::calls::bytes_offered` meets its contract: the guard and each end of the frame are the model's (proofs/Arrivals.antt).
-- Assumes nothing.
use native.Mathlib.Omega.{arith}
use mathlib.Core.Path.{ap, ◌∙◌}
use Rattle.incoming.proofs.BytesPlaced.{octets-coming}
use Rattle.model.specs.Step.{stores, stepped}
use Rattle.model.specs.Guard.{refuse}
use Rattle.model.specs.Calls.{with_packet, bytes_offered_step}
use Rattle.server.specs.declared.CallResult.{CallResult}
use Rattle.server.specs.declared.Refusal.{Refusal}
use Rattle.server.specs.declared.CallKind.TheVariants as kind
use Rattle.engine.proofs.Guards.{GoesLent, turned-lent, going-lent}
use Rattle.engine.proofs.Arrivals.{framed-call, taken-after, short-took}
use Rattle.engine.proofs.calls.bytes_offered.Goals as goal

pub returns-in-Err : goal.returns-in-Err
unfolding bytes_offered_step
returns-in-Err c =
    let k = c.args in
    let s = stores k.packet.now k.headers.now k.body.now k.reply.now in
    record {
      step =
          ap (λ (r : CallResult). stepped r s) c.refuse.ensures
          ∙ turned-lent kind.FromPeer k.e s _ (λ (q : Refusal). refuse q k.e s) _ _ _ c.guard_lent.ensures c.in-Err.is;
      octets = octets-coming k.packet.now k.e.begun k.placed k.input.now (λ i. (c.slice_known-1.given i).fits) (λ i. (c.shared_slice_known-1.given i).fits);
    }

pub read_packet-f-requires : goal.read_packet-f-requires
read_packet-f-requires c =
    let k = c.args in
    let s = stores k.packet.now k.headers.now k.body.now k.reply.now in
    let g : GoesLent kind.FromPeer k.e s k.tables.now = going-lent kind.FromPeer _ _ _ _ c.guard_lent.ensures c.in_default.is in
    (g.goes.bounds.begun, g.goes.room.packet)

pub packet_done-requires : goal.packet_done-requires
packet_done-requires c =
    let k = c.args in
    let s = stores k.packet.now k.headers.now k.body.now k.reply.now in
    let g : GoesLent kind.FromPeer k.e s k.tables.now = going-lent kind.FromPeer _ _ _ _ c.guard_lent.ensures c.in_default.is in
    let w = c.read_packet-f.ensures.whole c.in-Whole.is in (
      omega (arith, w.0),
      omega (arith, w.1, g.goes.room.packet),
      g.goes.bounds.count,
      g.tables,
      g.goes.bounds.remote,
      g.goes.bounds.operation,
      g.goes.room.headers,
      g.goes.room.body,
      g.goes.room.reply,
    )

pub returns-in-More : goal.returns-in-More
returns-in-More c =
    let k = c.args in
    let s = stores k.packet.now k.headers.now k.body.now k.reply.now in
    let g : GoesLent kind.FromPeer k.e s k.tables.now = going-lent kind.FromPeer _ _ _ _ c.guard_lent.ensures c.in_default.is in
    let read = with_packet s c.read_packet-f.new.packet in
    record {
      step = framed-call _ _ _ _ c.read_packet-f.result _ _ _ g c.read_packet-f.ensures.model c.in-More.is (ap (λ (x : CallResult). stepped x read) c.more.ensures);
      octets = octets-coming k.packet.now k.e.begun k.placed k.input.now (λ i. (c.slice_known-1.given i).fits) (λ i. (c.shared_slice_known-1.given i).fits);
    }

pub returns-in-Short : goal.returns-in-Short
returns-in-Short c =
    let k = c.args in
    let s = stores k.packet.now k.headers.now k.body.now k.reply.now in
    let g : GoesLent kind.FromPeer k.e s k.tables.now = going-lent kind.FromPeer _ _ _ _ c.guard_lent.ensures c.in_default.is in
    let read = with_packet s c.read_packet-f.new.packet in
    record {
      step =
          framed-call _ _ _ _ c.read_packet-f.result _ _ _ g c.read_packet-f.ensures.model c.in-Short.is
          (taken-after _ _ _ read _ c.with_taken.ensures (short-took k.e _ _ read c.took.ensures c.ends.ensures));
      octets = octets-coming k.packet.now k.e.begun k.placed k.input.now (λ i. (c.slice_known-1.given i).fits) (λ i. (c.shared_slice_known-1.given i).fits);
    }

pub returns-in-Whole : goal.returns-in-Whole
returns-in-Whole c =
    let k = c.args in
    let s = stores k.packet.now k.headers.now k.body.now k.reply.now in
    let g : GoesLent kind.FromPeer k.e s k.tables.now = going-lent kind.FromPeer _ _ _ _ c.guard_lent.ensures c.in_default.is in
    let read = with_packet s c.read_packet-f.new.packet in
    record {
      step =
          framed-call _ _ _ _ c.read_packet-f.result _ _ _ g c.read_packet-f.ensures.model c.in-Whole.is
          (taken-after _ _ _ _ _ c.with_taken-in-Whole.ensures c.packet_done.ensures);
      octets = octets-coming k.packet.now k.e.begun k.placed k.input.now (λ i. (c.slice_known-1.given i).fits) (λ i. (c.shared_slice_known-1.given i).fits);
    }
