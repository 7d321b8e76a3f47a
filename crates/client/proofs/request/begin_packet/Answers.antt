-- `client::request::begin_packet` meets its contract. The prefix stands in front, and the ConnectionID behind it. Assumes nothing.
use native.Mathlib.Omega.{arith}
use mathlib.Core.Path.{sym}
use lib.ListN.{length, length-take}
use lib.Seq.{length-take-le}
use Rattle.client_model.specs.Request.{id_bytes}
use Rattle.client.proofs.Packets.{begun}
use Rattle.client.proofs.request.begin_packet.Goals as goal

pub slice_bounds-copy_into-end : goal.slice_bounds-copy_into-end
slice_bounds-copy_into-end c =
    sym (length-take-le _ _ (omega (arith, c.leading_bytes-lead.ensures.2, c.leading_bytes-lead.ensures.3)))

pub copy_into-requires : goal.copy_into-requires
copy_into-requires c =
    let the-leading-bytes = c.leading_bytes-lead in omega
    (arith, the-leading-bytes.ensures.2, length-take the-leading-bytes.result.count the-leading-bytes.result.bytes)

pub returns : goal.returns
returns c =
    let args = c.args in
    let leading-bytes-says = c.leading_bytes-lead.ensures in
    let n = length (id_bytes args.id) in (
      omega (arith, leading-bytes-says.1),
      omega (arith, leading-bytes-says.2),
      begun args.byte (id_bytes args.id) _ args.request.now _ _ _ _ leading-bytes-says.0 (omega (arith, leading-bytes-says.1))
          c.put_prefix.ensures c.copy_into.ensures
          (omega (arith, leading-bytes-says.1, leading-bytes-says.2)),
    )
