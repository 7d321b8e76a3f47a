-- The bytes of the headers that are read are the bytes that they were read from: a length field is what its two bytes say, and each header
-- ends where the next begins. Assumes nothing.
use mathlib.Core.Path.{◌≡◌, refl, sym, ap, ◌∙◌}
use mathlib.Core.List.{List, [], ◌∷◌, ◌++◌}
use mathlib.Core.Bool.{Bool, true, false}
use mathlib.Core.Option.{Option, none, some}
use Prim.Native.Nat.{ℕ, zero, suc, ◌+◌, ◌-◌, ◌*◌, ◌/◌, ◌%◌, ◌≤◌, ◌<◌}
use native.Mathlib.Omega.{arith}
use native.Mathlib.Numerals.{add-one}
use lib.ListN.{length, get_or, drop, length-take, length-drop, take-append-drop, drop_of_length-le}
use lib.Seq.{drop-cons, drop-drop}
use lib.Dec.{ltb, leb}
use borrow.Author.Tests.{leb-true, leb-false, ltb-false}
use Rattle.base.specs.Pick.{pick}
use Rattle.base.specs.Bytes.{be16, bytes16}
pub use Rattle.text.specs.Unicode.{Octets}
use Rattle.packet.specs.declared.header.HeaderEncoding.{HeaderEncoding}
use Rattle.packet.specs.declared.header.HeaderEncoding.TheVariants.{Unicode, Bytes, U8, U32}
use Rattle.packet.specs.declared.header.HeaderAt.{HeaderAt}
use Rattle.packet.specs.declared.header.HeaderAt.TheVariants.{At, Unreadable, End}
use Rattle.packet.specs.declared.opcode.Opcode.{Opcode}
use Rattle.packet.specs.declared.opcode.FirstByte.{FirstByte}
use Rattle.std.specs.Prelude.{Option as Maybe, Some, None}
use Rattle.packet.specs.FirstByte.{first_byte}
use Rattle.packet.specs.Header.{encoding_of, lead_of, size_at, allowed, part, encoded_at, header_at_of, Header, push, walk_from, walk, read_headers, length_field, bytes_of, all_bytes}
use Rattle.packet.specs.Packet.{Request, prefix_of, request_with, request_by, request_of}

-- a `pick` that is not its first case is its second, and its test is false
pub pick_no {ℓ} : {A : Type ℓ} (t : Bool) (x y z : A) → pick t x y ≡ z → (x ≡ z → ⊥) → (t ≡ false) × (y ≡ z)
pick_no true x y z e h = absurd (h e)
pick_no false x y z e h = (refl, e)

-- and one that is not its second case is its first
pub pick_yes {ℓ} : {A : Type ℓ} (t : Bool) (x y z : A) → pick t x y ≡ z → (y ≡ z → ⊥) → (t ≡ true) × (x ≡ z)
pick_yes true x y z e h = (refl, e)
pick_yes false x y z e h = absurd (h e)

-- ---- parts of a list

-- a part by its first byte
pub part-cons : (s : List ℕ) (at to : ℕ) → at < to → to ≤ length s → part s at to ≡ get_or s at 0 ∷ part s (at + 1) to
part-cons s at to h k =
    let e : to - at ≡ suc (to - (at + 1)) = omega arith in
    rw (e, drop-cons s at 0 (omega arith), add-one at)

pub part_length : (s : List ℕ) (from to : ℕ) → to ≤ length s → length (part s from to) ≡ to - from
part_length s from to h = simp (length-take, length-drop) (omega arith)

-- a part and the rest
pub part-drop : (s : List ℕ) (at to : ℕ) → at ≤ to → part s at to ++ drop to s ≡ drop at s
part-drop s at to h =
    let e : to ≡ at + (to - at) = omega arith in
    ap (λ (l : List ℕ). part s at to ++ l) (ap (λ (n : ℕ). drop n s) e ∙ sym (drop-drop (to - at) at s))
    ∙ take-append-drop (to - at) (drop at s)

-- ---- the header at a place

pub record Stands (s : List ℕ) (at id : ℕ) (e : HeaderEncoding) (from to : ℕ) : Type 0 where
  pub id_is : id ≡ get_or s at 0
  pub encoding : e ≡ encoding_of id
  pub start : from ≡ at + lead_of e
  pub stop : to ≡ at + size_at e s at
  pub past : from ≤ to
  pub fits : to ≤ length s

-- what is not unreadable is whole
encoded_is : (n : ℕ) (c : HeaderEncoding) (s : List ℕ) (at : ℕ) (z : HeaderAt) → encoded_at n c s at ≡ z → (Unreadable ≡ z → ⊥)
    → (lead_of c ≤ size_at c s at) × (size_at c s at ≤ length s - at) × (At n c (at + lead_of c) (at + size_at c s at) ≡ z)
unfolding encoded_at
encoded_is n c s at z h bad =
    let from = at + lead_of c in
    let to = at + size_at c s at in
    let p1 = pick_no (ltb (length s - at) (lead_of c)) Unreadable _ z h bad in
    let p2 = pick_no (ltb (size_at c s at) (lead_of c)) Unreadable _ z p1.1 bad in
    let p3 = pick_no (ltb (length s - at) (size_at c s at)) Unreadable _ z p2.1 bad in
    (ltb-false _ _ p2.0, ltb-false _ _ p3.0, (pick_yes (allowed n (part s from to)) (At n c from to) Unreadable z p3.1 bad).1)

pub stands : (s : List ℕ) (at id : ℕ) (e : HeaderEncoding) (from to : ℕ) → header_at_of s at ≡ At id e from to → Stands s at id e from to
unfolding header_at_of
stands s at id e from to h =
    let n = get_or s at 0 in
    let c = encoding_of n in
    let z = At id e from to in
    let p = pick_no (leb (length s) at) End _ z h (λ w. let q : ◌≡◌ {A = ℕ} 0 1 = cc in omega arith) in
    let w = encoded_is n c s at z p.1 (λ w. let q : ◌≡◌ {A = ℕ} 0 1 = cc in omega arith) in
    let q = w.2 in
    let q0 : n ≡ id = cc in
    let q1 : c ≡ e = cc in
    let q2 : at + lead_of c ≡ from = cc in
    let q3 : at + size_at c s at ≡ to = cc in
    let l : at < length s = leb-false _ _ p.0 in
    record {
      id_is = sym q0;
      encoding = sym q1 ∙ ap encoding_of q0;
      start = sym q2 ∙ ap (λ (k : HeaderEncoding). at + lead_of k) q1;
      stop = sym q3 ∙ ap (λ (k : HeaderEncoding). at + size_at k s at) q1;
      past = omega (arith, w.0);
      fits = omega (arith, w.1);
    }

-- id and length field are the three bytes before the value
sized-bytes : (s : List ℕ) (at to : ℕ) → Octets s → to ≡ at + be16 s (at + 1) → at + 3 ≤ to → to ≤ length s
    → get_or s at 0 ∷ (bytes16 (3 + length (part s (at + 3) to)) ++ part s (at + 3) to) ≡ part s at to
sized-bytes s at to o e h k =
    let t : at + 3 ≡ at + 1 + 1 + 1 = omega arith in
    let a = get_or s (at + 1) 0 in
    let b = get_or s (at + 1 + 1) 0 in
    let n : 3 + length (part s (at + 1 + 1 + 1) to) ≡ a * 256 + b = omega (arith, part_length s (at + 1 + 1 + 1) to k) in
    let high : (a * 256 + b) / 256 ≡ a = omega (arith, o (at + 1 + 1)) in
    let low : (a * 256 + b) % 256 ≡ b = omega (arith, o (at + 1 + 1)) in
    rw (t, n, high, low)
    (sym
    (part-cons s at to (omega arith) k
    ∙ ap (λ (l : List ℕ). get_or s at 0 ∷ l)
    (part-cons s (at + 1) to (omega arith) k
    ∙ ap (λ (l : List ℕ). get_or s (at + 1) 0 ∷ l) (part-cons s (at + 1 + 1) to (omega arith) k))))

-- a header's bytes, by its encoding
encoded-bytes : (s : List ℕ) (at id : ℕ) (e : HeaderEncoding) (from to : ℕ) → Octets s → Stands s at id e from to
    → id ∷ (length_field e (part s from to) ++ part s from to) ≡ part s at to
encoded-bytes s at id Unicode from to o w = rw (w.start, w.id_is) (sized-bytes s at to o w.stop (omega arith) w.fits)
encoded-bytes s at id Bytes from to o w = rw (w.start, w.id_is) (sized-bytes s at to o w.stop (omega arith) w.fits)
encoded-bytes s at id U8 from to o w = rw (w.start, w.id_is) (sym (part-cons s at to (omega arith) w.fits))
encoded-bytes s at id U32 from to o w = rw (w.start, w.id_is) (sym (part-cons s at to (omega arith) w.fits))

pub header_at_bytes : (s : List ℕ) (at id : ℕ) (e : HeaderEncoding) (from to : ℕ) → Octets s → header_at_of s at ≡ At id e from to
    → bytes_of (record { id = id; value = part s from to }) ≡ part s at to
unfolding bytes_of
header_at_bytes s at id e from to o h =
    let w = stands s at id e from to h in
    rw (← w.encoding) (encoded-bytes s at id e from to o w)

-- it takes at least one byte, and ends within the packet
pub lead-some : (e : HeaderEncoding) → 1 ≤ lead_of e
lead-some Unicode = omega arith
lead-some Bytes = omega arith
lead-some U8 = omega arith
lead-some U32 = omega arith

pub header_at_within : (s : List ℕ) (at id : ℕ) (e : HeaderEncoding) (from to : ℕ) → header_at_of s at ≡ At id e from to → (at < to) × (to ≤ length s)
header_at_within s at id e from to h =
    let w = stands s at id e from to h in
    (omega (arith, lead-some e), w.fits)

-- where no header starts, the packet ends
pub header_at_end : (s : List ℕ) (at : ℕ) → header_at_of s at ≡ End → length s ≤ at
unfolding header_at_of
header_at_end s at h =
    leb-true _ _
    (pick_yes (leb (length s) at) End _ End h
    (λ p.
    let w = encoded_is (get_or s at 0) (encoding_of (get_or s at 0)) s at End p (λ w. let q : ◌≡◌ {A = ℕ} 0 1 = cc in omega arith) in
    let v = w.2 in
    let q : ◌≡◌ {A = ℕ} 0 1 = cc in
    omega arith)
    ).0

-- ---- all headers

walk-bytes : (k : ℕ) (s : List ℕ) (at : ℕ) (hs : List Header) → Octets s → walk k s at ≡ some hs → all_bytes hs ≡ drop at s
unfolding walk all_bytes
walk-bytes zero s at hs o e = absurd (let q : ◌≡◌ {A = ℕ} 0 1 = cc in omega arith)
walk-bytes (suc k) s at hs o e = go (header_at_of s at) refl (λ to r q. walk-bytes k s to r o q) e
  where
    more : (id from to : ℕ) (c : HeaderEncoding) → header_at_of s at ≡ At id c from to → (r : Option (List Header))
        → ((l : List Header) → r ≡ some l → all_bytes l ≡ drop to s)
        → push (record { id = id; value = part s from to }) r ≡ some hs → all_bytes hs ≡ drop at s
    more id from to c h none ih w = absurd (let z : ◌≡◌ {A = ℕ} 0 1 = cc in omega arith)
    more id from to c h (some r) ih w =
        let a : hs ≡ record { id = id; value = part s from to } ∷ r = cc in
        rw (a, header_at_bytes s at id c from to o h, ih r refl) (part-drop s at to (omega (arith, header_at_within s at id c from to h)))

    go : (a : HeaderAt) → header_at_of s at ≡ a → ((to : ℕ) (l : List Header) → walk k s to ≡ some l → all_bytes l ≡ drop to s)
        → walk_from s a (λ n. walk k s n) ≡ some hs → all_bytes hs ≡ drop at s
    go End h ih w = let a : hs ≡ [] = cc in rw (a, drop_of_length-le s {i = at} (header_at_end s at h))
    go Unreadable h ih w = absurd (let q : ◌≡◌ {A = ℕ} 0 1 = cc in omega arith)
    go (At id c from to) h ih w = more id from to c h (walk k s to) (ih to) w

pub header-bytes : (p : List ℕ) (from : ℕ) (hs : List Header) → Octets p → read_headers p from ≡ some hs → all_bytes hs ≡ drop from p
unfolding read_headers
header-bytes p from hs o e = walk-bytes (suc (length p)) p from hs o e

-- how many bytes they are
pub header-length : (p : List ℕ) (from : ℕ) (hs : List Header) → Octets p → from ≤ length p → read_headers p from ≡ some hs
    → length (all_bytes hs) + from ≡ length p
header-length p from hs o h e = omega (arith, ap length (header-bytes p from hs o e), length-drop from p)

-- a request's headers are no longer than the request
pub request-headers : (p : List ℕ) (r : Request) → Octets p → request_of p ≡ some r → length (all_bytes r.headers) ≤ length p
unfolding request_of
request-headers p r o e = go (first_byte (get_or p 0 0)) e
  where
    none-some : none ≡ some r → ⊥
    none-some w = let q : ◌≡◌ {A = ℕ} 0 1 = cc in omega arith

    with_headers_lem : (c : Opcode) (f : Bool) (hs : Option (List Header)) → read_headers p (prefix_of c) ≡ hs → prefix_of c ≤ length p
        → request_with c f p hs ≡ some r → length (all_bytes r.headers) ≤ length p
    with_headers_lem c f none e h w = absurd (none-some w)
    with_headers_lem c f (some hs) e h w =
        let a : r ≡ record { opcode = c; final = f; bytes = p; headers = hs } = cc in
        rw a (omega (arith, header-length p (prefix_of c) hs o h e))

    go : (b : Maybe FirstByte) → request_by b p ≡ some r → length (all_bytes r.headers) ≤ length p
    go None w = absurd (none-some w)
    go (Some b) w =
        let q = pick_no (ltb (length p) (prefix_of b.opcode)) none _ (some r) w none-some in
        with_headers_lem b.opcode b.is_final (read_headers p (prefix_of b.opcode)) refl (ltb-false _ _ q.0) q.1
