-- `packet::packet::write_packet` meets its contract: `room` decides by the packet's length, and what is granted is laid.
-- Assumes nothing.
use native.Mathlib.Omega.{arith}
use borrow.Author.Tests.{ltb-false}
use Prim.Native.Nat.{ℕ, ◌+◌, ◌≤◌}
use mathlib.Core.Path.{◌≡◌, ◌∙◌, sym, ap}
use mathlib.Core.List.{List}
use lib.ListN.{length, take}
use lib.Seq.{length-take-le}
use lib.Dec.{ltb}
use Rattle.packet.specs.declared.store.LengthField.TheVariants.{TwoBytes}
use Rattle.packet.specs.Packet.{packet_bytes}
use Rattle.packet.specs.PacketWrite.{write_packet}
use borrow.Enum.Refused.{opened}
use Rattle.packet.proofs.Laid.{granted, placed-written, placed-refused}
use Rattle.packet.proofs.PacketWrites.{packet-length}
use Rattle.packet.proofs.packet.write_packet.Goals as goal

-- so many fields are taken, and the packet is as long as the code says
size : (byte n : ℕ) (fields headers : List ℕ) → n ≤ length fields
    → length (packet_bytes byte (take n fields) headers) ≡ 3 + n + length headers
size byte n fields headers h =
    packet-length byte (take n fields) headers ∙ ap (λ (n : ℕ). 3 + n + length headers) (length-take-le n fields h)

pub returns-in_default : goal.returns-in_default
unfolding write_packet
returns-in_default c =
    let x = c.args in
    let p = packet_bytes x.byte (take x.n x.fields) x.headers.now in
    let s : length p ≡ 3 + x.n + length x.headers.now = size x.byte x.n x.fields x.headers.now (omega arith) in
    placed-refused x.store.now p 0 _ TwoBytes (ltb 65535 (length p)) _ _ (opened c.in_default.in_default-own.keys2) s (sym (ap (ltb 65535) s))
    c.room-answer.ensures

pub put_packet-requires : goal.put_packet-requires
put_packet-requires c =
    let x = c.args in
    let need = 3 + x.n + length x.headers.now in
    let g = granted (length x.store.now) 0 need _ TwoBytes (ltb 65535 need) (sym c.in-Written.is ∙ c.room-answer.ensures) in
    let t : length (take x.n x.fields) ≡ x.n = length-take-le x.n x.fields (omega arith) in
    (omega (arith, g.fits), omega (arith, ltb-false 65535 need g.allowed))

pub returns : goal.returns
unfolding write_packet
returns c =
    let x = c.args in
    let p = packet_bytes x.byte (take x.n x.fields) x.headers.now in
    let s : length p ≡ 3 + x.n + length x.headers.now = size x.byte x.n x.fields x.headers.now (omega arith) in
    placed-written x.store.now p _ 0 _ _ TwoBytes (ltb 65535 (length p)) _ s (sym (ap (ltb 65535) s))
    (sym c.in-Written.is ∙ c.room-answer.ensures) c.put_packet.ensures
