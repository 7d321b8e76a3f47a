-- `client::request::requests_first` meets its contract. The packet is that of `next_after`, behind the headers that lead. Assumes nothing.
use native.Mathlib.Omega.{arith}
use mathlib.Core.Path.{sym}
use lib.ListN.{length-take}
use lib.Seq.{length-take-le}
use Rattle.client.proofs.Packets.{first-call}
use Rattle.client.proofs.request.requests_first.Goals as goal

pub slice_bounds-copy_into-end : goal.slice_bounds-copy_into-end
slice_bounds-copy_into-end c =
    sym (length-take-le _ _ (omega (arith, c.leading_bytes-lead.ensures.2, c.leading_bytes-lead.ensures.3)))

pub copy_into-requires-2 : goal.copy_into-requires-2
copy_into-requires-2 c =
    let the-leading-bytes = c.leading_bytes-lead in omega
    (arith, the-leading-bytes.ensures.2, length-take the-leading-bytes.result.count the-leading-bytes.result.bytes)

pub returns : goal.returns
returns c =
    λ p b.
    let args = c.args in
    let leading-bytes-says = c.leading_bytes-lead.ensures in
    first-call args.c args.kind args.header_bytes.now args.has_body p args.headers.now b args.request.now _ _ _ _ _ _
    _ _ _ leading-bytes-says.0 leading-bytes-says.1
    (omega (arith, c.requires.1, c.requires.2))
    c.copy_into.ensures c.copy_into-2.ensures c.next_after-k.ensures
    c.capacity_of-capacity.ensures.0 c.request_of-o.ensures
    (c.requests.ensures _)
