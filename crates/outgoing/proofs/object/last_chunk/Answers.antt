-- `outgoing::object::last_chunk` meets its contract. EndOfBody in front of what stands there, then the prefix. Assumes nothing.
use Prim.Native.Nat.{◌+◌}
use mathlib.Core.Bool.{true}
use mathlib.Core.Path.{◌∙◌}
use Rattle.outgoing.proofs.Sending.{sending-alike}
use Rattle.outgoing.proofs.object.last_chunk.Goals as goal

pub returns : goal.returns
returns c =
    let k = c in
    let x = c.args in
    c.send.ensures ∙ sending-alike true (x.at + 3 + x.got) c.ahead_none.ensures c.put_head.ensures
