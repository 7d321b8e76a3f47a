-- The writer against the reader: the bytes of headers that a packet can hold read as those headers. Assumes nothing.
use mathlib.Core.Path.{◌≡◌, refl, sym, ap, ◌∙◌}
use mathlib.Core.Bool.{true}
use mathlib.Core.List.{List, [], ◌∷◌, ◌++◌}
use mathlib.Core.Option.{some}
use Prim.Native.Nat.{ℕ, zero, suc, ◌+◌, ◌-◌, ◌/◌, ◌%◌, ◌≤◌, ◌<◌}
use native.Mathlib.Omega.{arith}
use lib.ListN.{length, get_or, drop, length-append, length-drop}
use lib.Seq.{drop-drop, get_or-drop, take-append_seam, drop-append_seam}
use borrow.Author.Tests.{le-leb, lt-leb}
use Rattle.base.specs.Pick.{pick}
use Rattle.base.specs.Bytes.{be16, bytes16}
use Rattle.text.specs.Unicode.{Octets}
use Rattle.packet.specs.declared.header.HeaderEncoding.{HeaderEncoding}
use Rattle.packet.specs.declared.header.HeaderEncoding.TheVariants.{Unicode, Bytes, U8, U32}
use Rattle.packet.specs.declared.header.HeaderAt.{HeaderAt}
use Rattle.packet.specs.declared.header.HeaderAt.TheVariants.{At, Unreadable, End}
use Rattle.packet.specs.Header.{encoding_of, lead_of, size_at, allowed, part, encoded_at, header_at_of, Header, push, read_headers, length_field, bytes_of, all_bytes}
use Rattle.packet.specs.HeaderList.{Fits, Writable, AllWritable}
use Rattle.packet.proofs.TextForms.{octets-take}
use Rattle.packet.proofs.HeaderBytes.{Stands, stands, header_at_within, pick_yes, part_length}
use Rattle.packet.proofs.HeaderLaws.{whole_at, by_cursor_lem, first_of}

-- ---- headers that read back: a value as long as the encoding says, where it says, and that the id allows

abbrev pub Sized : HeaderEncoding → ℕ → Type 0
Sized Unicode n = Unit {0}
Sized Bytes n = Unit {0}
Sized U8 n = n ≡ 1
Sized U32 n = n ≡ 4

pub record Shaped (h : Header) : Type 0 where
  pub sized : Sized (encoding_of h.id) (length h.value)
  pub is_allowed : allowed h.id h.value ≡ true

abbrev pub AllShaped : List Header → Type 0
AllShaped [] = Unit {0}
AllShaped (h ∷ hs) = Shaped h × AllShaped hs

-- those that a packet can hold are such
fits-sized : (e : HeaderEncoding) (n : ℕ) → Fits e n → Sized e n
fits-sized Unicode n f = tt
fits-sized Bytes n f = tt
fits-sized U8 n f = f
fits-sized U32 n f = f

all_shaped : (hs : List Header) → AllWritable hs → AllShaped hs
all_shaped [] w = tt
all_shaped (h ∷ hs) w = (
  record {
    sized = fits-sized (encoding_of h.id) (length h.value)
        w.0.fits;
    is_allowed = w.0.is_allowed;
  },
  all_shaped hs w.1,
)

-- ---- the bytes of a header, and then others

-- the byte k after a place, of what is there
byte_at : (s l : List ℕ) (at k : ℕ) → drop at s ≡ l → get_or s (at + k) 0 ≡ get_or l k 0
byte_at s l at k q = sym (get_or-drop at s k 0) ∙ ap (λ (l : List ℕ). get_or l k 0) q

skip : (s l : List ℕ) (at k : ℕ) → drop at s ≡ l → drop (at + k) s ≡ drop k l
skip s l at k q = sym (drop-drop k at s) ∙ ap (drop k) q

-- a length field says the length
says : (s v r : List ℕ) (at id : ℕ) → drop at s ≡ id ∷ (bytes16 (3 + length v) ++ v ++ r) → be16 s (at + 1) ≡ 3 + length v
says s v r at id q =
    let t : at + 1 + 1 ≡ at + 2 = omega arith in
    let n = 3 + length v in
    let h : get_or s (at + 1) 0 ≡ n / 256 = byte_at s _ at 1 q in
    let l : get_or s (at + 2) 0 ≡ n % 256 = byte_at s _ at 2 q in
    rw (t, h, l) (omega arith)

record Follows (e : HeaderEncoding) (v r s : List ℕ) (at : ℕ) : Type 0 where
  size : size_at e s at ≡ lead_of e + length v
  after : drop (at + lead_of e) s ≡ v ++ r
  room : lead_of e + length v ≤ length s - at

follows : (id : ℕ) (e : HeaderEncoding) (v r s : List ℕ) (at : ℕ) → Sized e (length v) → drop at s ≡ id ∷ (length_field e v ++ v ++ r)
    → Follows e v r s at
follows id Unicode v r s at f q =
    record { size = says s v r at id q; after = skip s _ at 3 q; room = omega (arith, ap length q, length-drop at s, length-append v r) }
follows id Bytes v r s at f q =
    record { size = says s v r at id q; after = skip s _ at 3 q; room = omega (arith, ap length q, length-drop at s, length-append v r) }
follows id U8 v r s at f q =
    record { size = omega arith; after = skip s _ at 1 q; room = omega (arith, ap length q, length-drop at s, length-append v r) }
follows id U32 v r s at f q =
    record { size = omega arith; after = skip s _ at 1 q; room = omega (arith, ap length q, length-drop at s, length-append v r) }

-- what the cursor finds where the bytes of a header stand
record Written (h : Header) (r s : List ℕ) (at to : ℕ) : Type 0 where
  found : header_at_of s at ≡ At h.id (encoding_of h.id) (at + lead_of (encoding_of h.id)) to
  value_is : part s (at + lead_of (encoding_of h.id)) to ≡ h.value
  rest : drop to s ≡ r

-- the value, and what follows it, of what stands after the lead
value-part : (v r s : List ℕ) (from to : ℕ) → to ≡ from + length v → drop from s ≡ v ++ r → part s from to ≡ v
value-part v r s from to e q =
    let m : to - from ≡ length v = omega arith in
    rw (m, q) (take-append_seam v r)

value-rest : (v r s : List ℕ) (from to : ℕ) → to ≡ from + length v → drop from s ≡ v ++ r → drop to s ≡ r
value-rest v r s from to e q = rw e (sym (drop-drop (length v) from s) ∙ ap (drop (length v)) q ∙ drop-append_seam v r)

written : (h : Header) (r s : List ℕ) (at : ℕ) → Shaped h → drop at s ≡ bytes_of h ++ r
    → Written h r s at (at + size_at (encoding_of h.id) s at)
unfolding header_at_of bytes_of
written h r s at w q =
    let id = h.id in
    let v = h.value in
    let e = encoding_of id in
    let k = follows id e v r s at w.sized q in
    let to = at + size_at e s at in
    let t : to ≡ at + lead_of e + length v = omega (arith, k.size) in
    let z : at + 0 ≡ at = omega arith in
    let i : get_or s at 0 ≡ id = rw z at (byte_at s (id ∷ (length_field e v ++ v ++ r)) at 0 q) in
    let l : length s - at ≡ suc (length (length_field e v ++ v ++ r)) = sym (length-drop at s) ∙ ap length q in
    let p : part s (at + lead_of e) to ≡ v = value-part v r s (at + lead_of e) to t k.after in
    record {
      found =
          rw (lt-leb (length s) at (omega arith), i)
          (whole_at id e s at (lead_of e) (size_at e s at) true
          (record { lead = refl; all = refl; past = omega (arith, k.size); fits = omega (arith, k.size, k.room) })
          (ap (allowed id) p ∙ w.is_allowed));
      value_is = p;
      rest = value-rest v r s (at + lead_of e) to t k.after;
    }

-- ---- there and back

ends : (s : List ℕ) (at : ℕ) → drop at s ≡ [] → header_at_of s at ≡ End
unfolding header_at_of
ends s at q =
    let l : length s - at ≡ 0 = sym (length-drop at s) ∙ ap length q in
    rw (le-leb (length s) at (omega arith))

-- headers' bytes to the end of a packet read as those headers
pub read-written : (hs : List Header) (s : List ℕ) (at : ℕ) → AllShaped hs → drop at s ≡ all_bytes hs → read_headers s at ≡ some hs
unfolding all_bytes
read-written [] s at w q = (by_cursor_lem s at End (ends s at q)).1
read-written (h ∷ hs) s at w q =
    let e = encoding_of h.id in
    let to = at + size_at e s at in
    let k = written h (all_bytes hs) s at w.0 q in
    (by_cursor_lem s at (At h.id e (at + lead_of e) to) k.found).list
    ∙ ap (push (record { id = h.id; value = part s (at + lead_of e) to })) (read-written hs s to w.1 k.rest)
    ∙ ap (λ (v : List ℕ). some (record { id = h.id; value = v } ∷ hs)) k.value_is

-- what is written of headers that a packet can hold reads as those headers
pub write_read : (hs : List Header) → AllWritable hs → read_headers (all_bytes hs) 0 ≡ some hs
write_read hs w = read-written hs (all_bytes hs) 0 (all_shaped hs w) refl

-- ---- what is read reads back

-- the value is one that the id allows
allowed_at : (s : List ℕ) (at id : ℕ) (e : HeaderEncoding) (from to : ℕ) → header_at_of s at ≡ At id e from to → allowed id (part s from to)
    ≡ true
unfolding header_at_of
allowed_at s at id e from to h =
    let w = stands s at id e from to h in
    let b = at + lead_of e in
    let t = at + size_at e s at in
    let x = allowed id (part s b t) in
    let i : get_or s at 0 ≡ id = sym w.id_is in
    let c : encoding_of id ≡ e = sym w.encoding in
    let l = header_at_within s at id e from to h in
    let q : encoded_at id e s at ≡ pick x (At id e b t) Unreadable =
    whole_at id e s at (lead_of e) (size_at e s at) x
    (record {
      lead = refl;
      all = refl;
      past = omega (arith, w.past, w.start, w.stop);
      fits = omega
          (arith, w.fits, w.stop);
    }) refl in
    let r : header_at_of s at ≡ encoded_at id e s at = rw (lt-leb (length s) at (omega arith), i, c) in
    let p = pick_yes x (At id e b t) Unreadable (At id e from to) (sym q ∙ sym r ∙ h) (λ v. let z : ◌≡◌ {A = ℕ} 0 1 = cc in omega arith) in
    rw (w.start, w.stop) p.0

sized_at : (s : List ℕ) (at id : ℕ) (e : HeaderEncoding) (from to : ℕ) → Stands s at id e from to → Sized e (length (part s from to))
sized_at s at id Unicode from to w = tt
sized_at s at id Bytes from to w = tt
sized_at s at id U8 from to w = part_length s from to w.fits ∙ omega (arith, w.start, w.stop)
sized_at s at id U32 from to w = part_length s from to w.fits ∙ omega (arith, w.start, w.stop)

shaped_at : (s : List ℕ) (at id : ℕ) (e : HeaderEncoding) (from to : ℕ) → header_at_of s at ≡ At id e from to
    → Shaped (record { id = id; value = part s from to })
shaped_at s at id e from to h =
    let w = stands s at id e from to h in
    record { sized = rw w.encoding at (sized_at s at id e from to w); is_allowed = allowed_at s at id e from to h }

-- what holds of each header read
pub all_read : (P : Header → Type 0) (All : List Header → Type 0) → All [] → ((h : Header) (hs : List Header) → P h → All hs → All (h ∷ hs))
    → (s : List ℕ) → ((at id : ℕ) (e : HeaderEncoding) (from to : ℕ) → header_at_of s at ≡ At id e from to
    → P (record { id = id; value = part s from to }))
    → (from : ℕ) (hs : List Header) → read_headers s from ≡ some hs → All hs
all_read P All none_of one_more s each from hs = go (suc (length s)) from hs (omega arith)
  where
    by : (at : ℕ) (hs : List Header) → ((to : ℕ) (rest : List Header) → length s - to < length s - at → read_headers s to ≡ some rest
        → All rest)
        → read_headers s at ≡ some hs → (a : HeaderAt) → header_at_of s at ≡ a → All hs
    by at hs on e End h =
        let w = (by_cursor_lem s at End h).1 in
        let q : hs ≡ [] = cc in
        rw q none_of
    by at hs on e Unreadable h =
        let w = by_cursor_lem s at Unreadable h in
        let z : ◌≡◌ {A = ℕ} 0 1 = cc in
        absurd (omega arith)
    by at hs on e (At i c b t) h =
        let w = by_cursor_lem s at (At i c b t) h in
        let v : Header = record { id = i; value = part s b t } in
        let k = first_of v (read_headers s t) hs (sym w.list ∙ e) in
        rw k.is (one_more v k.rest (each at i c b t h) (on t k.rest (omega (arith, w.next, w.stands.fits)) k.of))

    go : (n at : ℕ) (hs : List Header) → length s - at < n → read_headers s at ≡ some hs → All hs
    go zero at hs l e = absurd (omega arith)
    go (suc n) at hs l e = by at hs (λ to rest m. go n to rest (omega arith)) e (header_at_of s at) refl

pub read_shaped : (s : List ℕ) (from : ℕ) (hs : List Header) → read_headers s from ≡ some hs → AllShaped hs
read_shaped s = all_read Shaped AllShaped tt (λ h hs p q. (p, q)) s (shaped_at s)

-- from bytes, headers that a packet can hold
fits_at_lem : (s : List ℕ) (at id : ℕ) (e : HeaderEncoding) (from to : ℕ) → Octets s → Stands s at id e from to
    → Fits e (length (part s from to))
fits_at_lem s at id Unicode from to o w =
    omega (arith, part_length s from to w.fits, w.start, w.stop, o (at + 1), o (at + 1 + 1))
fits_at_lem s at id Bytes from to o w =
    omega (arith, part_length s from to w.fits, w.start, w.stop, o (at + 1), o (at + 1 + 1))
fits_at_lem s at id U8 from to o w = sized_at s at id U8 from to w
fits_at_lem s at id U32 from to o w = sized_at s at id U32 from to w

writable_at : (s : List ℕ) → Octets s → (at id : ℕ) (e : HeaderEncoding) (from to : ℕ) → header_at_of s at ≡ At id e from to
    → Writable (record { id = id; value = part s from to })
writable_at s o at id e from to h =
    let w = stands s at id e from to h in
    record {
      id_byte = omega (arith, w.id_is, o at);
      fits = rw w.encoding at (fits_at_lem s at id e from to o w);
      octets = octets-take (drop from s) (to - from) (λ k. rw (get_or-drop from s k 0) (o (from + k)));
      is_allowed = allowed_at s at id e from to h;
    }

pub read_writable : (s : List ℕ) → Octets s → (from : ℕ) (hs : List Header) → read_headers s from ≡ some hs → AllWritable hs
read_writable s o = all_read Writable AllWritable tt (λ h hs p q. (p, q)) s (writable_at s o)

-- and their bytes are bytes
octets-append : (a b : List ℕ) → Octets a → Octets b → Octets (a ++ b)
octets-append [] b p q k = q k
octets-append (x ∷ a) b p q zero = p zero
octets-append (x ∷ a) b p q (suc k) = octets-append a b (λ k. p (suc k)) q k

octets-cons : (x : ℕ) (l : List ℕ) → x < 256 → Octets l → Octets (x ∷ l)
octets-cons x l p q zero = p
octets-cons x l p q (suc k) = q k

octets-none : Octets []
octets-none k = omega arith

two-octets : (n : ℕ) → n < 65536 → Octets (bytes16 n)
two-octets n h = octets-cons (n / 256) (n % 256 ∷ []) (omega arith) (octets-cons (n % 256) [] (omega arith) octets-none)

field-octets : (e : HeaderEncoding) (v : List ℕ) → Fits e (length v) → Octets (length_field e v)
field-octets Unicode v f = two-octets (3 + length v) (omega arith)
field-octets Bytes v f = two-octets (3 + length v) (omega arith)
field-octets U8 v f = octets-none
field-octets U32 v f = octets-none

pub written-octets : (hs : List Header) → AllWritable hs → Octets (all_bytes hs)
unfolding all_bytes bytes_of
written-octets [] w = octets-none
written-octets (h ∷ hs) w =
    octets-append (bytes_of h) (all_bytes hs)
    (octets-cons h.id (length_field (encoding_of h.id) h.value ++ h.value) w.0.id_byte
    (octets-append (length_field (encoding_of h.id) h.value) h.value (field-octets (encoding_of h.id) h.value w.0.fits)
    w.0.octets))
    (written-octets hs w.1)
