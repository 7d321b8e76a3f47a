-- `outgoing::object::next_packet` meets its contract: the packet is that of `next_after`, behind what leads it. Assumes nothing.
use native.Mathlib.Omega.{arith}
use mathlib.Core.Path.{◌∙◌}
use Rattle.outgoing.proofs.Fitting.{lead-within, led}
use Rattle.outgoing.proofs.object.next_packet.Goals as goal

pub next_after-requires : goal.next_after-requires
next_after-requires c =
    let k = c in
    let x = c.args in
    (omega (arith, c.put_lead-start.ensures.0, lead-within x.o.lead), omega arith, omega arith, omega arith)

pub returns : goal.returns
returns c =
    let l = c in
    let x = c.args in
    c.next_after.ensures
    ∙ led x.capacity x.o x.headers.now x.reply.now _ _ c.put_lead-start.ensures.0 c.put_lead-start.ensures.1
