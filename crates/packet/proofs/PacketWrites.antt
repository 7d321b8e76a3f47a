-- The writers of packets: what each step leaves in the store, and that what is written reads back. Assumes nothing.
use mathlib.Core.Path.{◌≡◌, refl, sym, ap, ap₂, ◌∙◌}
use mathlib.Core.Bool.{Bool, ◌||◌}
use mathlib.Core.List.{List, [], ◌∷◌, ◌++◌}
use mathlib.Core.Option.{some}
use Prim.Native.Nat.{ℕ, ◌+◌, ◌-◌, ◌≤◌}
use native.Mathlib.Omega.{arith}
use lib.ListN.{length, get_or, take, drop, replicate, length-append}
use lib.Seq.{take_at, drop_at, take-append_seam}
use lib.Dec.{T}
use borrow.Author.Tests.{le-ltb}
use Rattle.base.specs.Bytes.{be16, bytes16}
use Rattle.text.specs.Unicode.{Octets}
use Rattle.packet.specs.declared.opcode.Opcode.{Opcode}
use Rattle.packet.specs.declared.opcode.Opcode.TheVariants.{Connect, Disconnect, Put, Get, SetPath, Action, Session, Abort, UserDefined}
use Rattle.packet.specs.declared.packet.ConnectParameters.{ConnectParameters}
use Rattle.packet.specs.declared.packet.SetPathFlags.{SetPathFlags}
use Rattle.packet.specs.declared.packet.Fields.{Fields}
use Rattle.packet.specs.declared.packet.Fields.TheVariants as fields
use Rattle.std.specs.Prelude.{Option as Maybe}
use Rattle.packet.specs.declared.opcode.FirstByte.{FirstByte}
use Rattle.packet.specs.FirstByte.{first_byte, always_final, byte_of}
use Rattle.packet.specs.Header.{Header, read_headers}
use Rattle.packet.specs.Packet.{fields_of, prefix_of, request_by, request_of, request_at, connect_limit, backup, no_create_of, packet_bytes}
use Rattle.packet.specs.Placed.{laid}
use Rattle.packet.specs.PacketWrite.{connect_bytes, field_bytes, filled4, write_packet}
use Rattle.packet.proofs.OpcodeLaws.{fair, read_back}
use Rattle.packet.proofs.HeaderBytes.{header-bytes}
use Rattle.packet.proofs.HeaderWrites.{read-written, read_shaped}
use Rattle.packet.proofs.LowBits.{flags-read}
use Rattle.packet.proofs.Laid.{length-laid, laid-append}

-- ---- the store

pub packet-length : (b : ℕ) (f h : List ℕ) → length (packet_bytes b f h) ≡ 3 + length f + length h
unfolding packet_bytes
packet-length b f h = omega (arith, length-append f h)

-- prefix, fields and headers, one after the other
pub packet-laid : (d s₁ s₂ s₃ f h : List ℕ) (b : ℕ) → 3 + length f + length h ≤ length d → s₁ ≡ laid d 0 (b ∷ bytes16 (3 + length f + length h))
    → s₂ ≡ laid s₁ 3 f → s₃ ≡ laid s₂ (3 + length f) h → s₃ ≡ laid d 0 (packet_bytes b f h)
unfolding packet_bytes
packet-laid d s₁ s₂ s₃ f h b l e₁ e₂ e₃ =
    let x : List ℕ = b ∷ bytes16 (3 + length f + length h) in
    let l₁ : length s₁ ≡ length d = ap length e₁ ∙ length-laid d x 0 (omega arith) in
    e₃
    ∙ ap (λ (s : List ℕ). laid s (3 + length f) h) e₂
    ∙ laid-append s₁ f h 3 (3 + length f) refl (omega arith)
    ∙ ap (λ (s : List ℕ). laid s 3 (f ++ h)) e₁
    ∙ laid-append d x (f ++ h) 0 3 refl (omega (arith, length-append f h))

-- ---- the fields

connect_length_lem : (f : Fields) → length (connect_bytes f) ≡ 4
connect_length_lem fields.Default = refl
connect_length_lem (fields.Connect c) = refl
connect_length_lem (fields.SetPath s) = refl

pub fields_length : (o : Opcode) (f : Fields) → length (field_bytes o f) ≡ fields_of o
fields_length Connect f = connect_length_lem f
fields_length Disconnect f = refl
fields_length Put f = refl
fields_length Get f = refl
fields_length SetPath f = refl
fields_length Action f = refl
fields_length Session f = refl
fields_length Abort f = refl
fields_length (UserDefined x) f = refl

-- the fields stand in front of the zeros
front : (l bytes : List ℕ) (n : ℕ) → bytes ≡ filled4 l → n ≡ length l → take n bytes ≡ l
front l bytes n e q = ap (take n) e ∙ take_at l (replicate (4 - length l) 0) n (sym q)

-- so a packet with these taken from there has them as its fields
pub writes-front : (store headers l bytes : List ℕ) (a b n : ℕ) → a ≡ b → bytes ≡ filled4 l → n ≡ length l
    → write_packet store (packet_bytes a (take n bytes) headers) ≡ write_packet store (packet_bytes b l headers)
writes-front store headers l bytes a b n e f q =
    ap₂ (λ (x : ℕ) (y : List ℕ). write_packet store (packet_bytes x y headers)) e (front l bytes n f q)

-- ---- what is written reads back

-- the length field says the length
length_back : (b : ℕ) (g h rest : List ℕ) → be16 (packet_bytes b g h ++ rest) 1 ≡ length (packet_bytes b g h)
unfolding packet_bytes
length_back b g h rest = omega (arith, length-append g h)

-- a packet behind its fields is its headers
after_fields : (o : Opcode) (f : Fields) (b : ℕ) (h : List ℕ) → drop (prefix_of o) (packet_bytes b (field_bytes o f) h) ≡ h
unfolding packet_bytes
after_fields o f b h =
    let g = field_bytes o f in
    drop_at (b ∷ (bytes16 (3 + length g + length h) ++ g)) h (prefix_of o) (omega (arith, fields_length o f))

-- and its headers read as they did alone
headers-back : (o : Opcode) (f : Fields) (b : ℕ) (h : List ℕ) (hs : List Header) → Octets h → read_headers h 0 ≡ some hs
    → read_headers (packet_bytes b (field_bytes o f) h) (prefix_of o) ≡ some hs
headers-back o f b h hs oct e =
    read-written hs (packet_bytes b (field_bytes o f) h) (prefix_of o) (read_shaped h 0 hs e) (after_fields o f b h ∙ sym (header-bytes h 0 hs oct e))

-- its first byte is the one written
first_back : (b : ℕ) (g h : List ℕ) → first_byte (get_or (packet_bytes b g h) 0 0) ≡ first_byte b
unfolding packet_bytes
first_back b g h = refl

-- the whole packet
packet-back : (o : Opcode) (final : Bool) (f : Fields) (h : List ℕ) (hs : List Header) → T (fair o) → Octets h → read_headers h 0 ≡ some hs
    → let p = packet_bytes (byte_of o final) (field_bytes o f) h in
    request_of p ≡ some (record { opcode = o; final = final || always_final o; bytes = p; headers = hs })
unfolding request_of
packet-back o final f h hs t oct e =
    let p = packet_bytes (byte_of o final) (field_bytes o f) h in
    ap (λ (b : Maybe FirstByte). request_by b p) (first_back (byte_of o final) (field_bytes o f) h ∙ read_back o final t)
    ∙ rw (
      le-ltb (length p) (prefix_of o) (omega (arith, packet-length (byte_of o final) (field_bytes o f) h, fields_length o f)),
      headers-back o f (byte_of o final) h hs oct e,
    )

-- a request that was written, whatever follows it, reads as the request: final where that was given or the opcode is always so
pub request-back : (o : Opcode) (final : Bool) (f : Fields) (h rest : List ℕ) (hs : List Header) → T (fair o) → Octets h → read_headers h 0 ≡ some hs
    → let p = packet_bytes (byte_of o final) (field_bytes o f) h in
    request_at (p ++ rest) ≡ some (record { opcode = o; final = final || always_final o; bytes = p; headers = hs })
unfolding request_at
request-back o final f h rest hs t oct e =
    let b = byte_of o final in
    let g = field_bytes o f in
    let p = packet_bytes b g h in
    let s = p ++ rest in
    let n = packet-length b g h in
    let l : length s ≡ length p + length rest = length-append p rest in
    let q : be16 s 1 ≡ length p = length_back b g h rest in
    rw (
      le-ltb (length s) 3 (omega arith),
      q,
      le-ltb (length p) 3 (omega arith),
      le-ltb (length s) (length p) (omega arith),
      take-append_seam p rest,
    ) (packet-back o final f h hs t oct e)

-- Connect's limit and SetPath's flags
pub limit-back : (b : ℕ) (c : ConnectParameters) (h : List ℕ)
    → connect_limit (packet_bytes b (field_bytes Connect (fields.Connect c)) h) ≡ c.max_packet_length
unfolding connect_limit packet_bytes
limit-back b c h = omega arith

pub flags-back : (b : ℕ) (f : SetPathFlags) (h : List ℕ)
    → let p = packet_bytes b (field_bytes SetPath (fields.SetPath f)) h in (backup p ≡ f.backup) × (no_create_of p ≡ f.no_create)
unfolding backup no_create_of packet_bytes
flags-back b f h = flags-read f.backup f.no_create
