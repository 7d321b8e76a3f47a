-- A header in a store: what stands before the value, and then the value, are laid at once; the answer goes by numbers alone.
-- Assumes nothing.
use mathlib.Core.Path.{◌≡◌, refl, sym, ap, ◌∙◌, subst}
use mathlib.Core.Bool.{Bool, true, false}
use mathlib.Core.List.{List, [], ◌∷◌, ◌++◌}
use Prim.Native.Nat.{ℕ, ◌+◌, ◌-◌, ◌^◌, ◌≤◌, ◌<◌, min}
use native.Mathlib.Omega.{arith}
use lib.Dec.{ltb}
use lib.ListN.{length, length-append}
use lib.Seq.{sets}
use denote.Enum.Declared.{tag_of}
use types.Run.{OneOf}
use borrow.Author.Tests.{lt-ltb, ltb-true, ltb-false}
use Rattle.base.specs.Pick.{pick}
use Rattle.base.specs.Bytes.{bytes16}
use Rattle.packet.specs.declared.header.HeaderEncoding.{HeaderEncoding}
use Rattle.packet.specs.declared.header.HeaderEncoding.TheVariants.{Unicode, Bytes, U8, U32}
use Rattle.packet.specs.contracts.tlv.Wrote.{the_type}
use Rattle.packet.specs.declared.tlv.Wrote.{Wrote}
use Rattle.packet.specs.declared.tlv.Wrote.TheVariants.{Written, TooLong, BadValue, Short}
use Rattle.packet.specs.declared.store.LengthField.TheVariants.{TwoBytes}
use Rattle.packet.specs.Placed.{Putting, putting, laid, room_of, placed}
use Rattle.packet.specs.Header.{Header, encoding_of, lead_of, length_field, bytes_of}
use Rattle.packet.specs.HeaderWriter.{too_long_of, put_header, room_for, lead_bytes, start_by, start_header}
use Rattle.packet.proofs.HeaderBytes.{lead-some}
use Rattle.packet.proofs.Laid.{granted, sets-laid, written-not}

-- ---- what stands before the value

lead-field : (e : HeaderEncoding) (id : ℕ) (v : List ℕ) → id ∷ (length_field e v ++ v) ≡ lead_bytes e id (length v) ++ v
lead-field Unicode id v = refl
lead-field Bytes id v = refl
lead-field U8 id v = refl
lead-field U32 id v = refl

pub bytes-lead : (h : Header) → bytes_of h ≡ lead_bytes (encoding_of h.id) h.id (length h.value) ++ h.value
unfolding bytes_of
bytes-lead h = lead-field (encoding_of h.id) h.id h.value

pub lead-length : (e : HeaderEncoding) (id n : ℕ) → length (lead_bytes e id n) ≡ lead_of e
lead-length Unicode id n = refl
lead-length Bytes id n = refl
lead-length U8 id n = refl
lead-length U32 id n = refl

-- the id alone
pub lead-one : (e : HeaderEncoding) (id n : ℕ) → lead_of e ≡ 1 → lead_bytes e id n ≡ id ∷ []
lead-one Unicode id n q = absurd (omega arith)
lead-one Bytes id n q = absurd (omega arith)
lead-one U8 id n q = refl
lead-one U32 id n q = refl

-- or a length field after it, of two bytes
pub record Three (e : HeaderEncoding) (id n : ℕ) : Type 0 where
  pub three : lead_of e ≡ 3
  pub bytes : lead_bytes e id n ≡ id ∷ bytes16 (3 + n)
  pub small : 3 + n ≤ 65535

pub lead_three : (e : HeaderEncoding) (id n : ℕ) → (lead_of e ≡ 1 → ⊥) → too_long_of e n ≡ false → Three e id n
lead_three Unicode id n q f = record { three = refl; bytes = refl; small = ltb-false 65535 (3 + n) f }
lead_three Bytes id n q f = record { three = refl; bytes = refl; small = ltb-false 65535 (3 + n) f }
lead_three U8 id n q f = absurd (q refl)
lead_three U32 id n q f = absurd (q refl)

pub bytes-length : (h : Header) → length (bytes_of h) ≡ lead_of (encoding_of h.id) + length h.value
bytes-length h =
    let e = encoding_of h.id in
    let l = lead_bytes e h.id (length h.value) in
    ap length (bytes-lead h) ∙ length-append l h.value
    ∙ ap (λ (n : ℕ). n + length h.value) (lead-length e h.id (length h.value))

-- ---- the answer

-- what becomes of the store, by the answer
abbrev pub put_by : Wrote → List ℕ → ℕ → List ℕ → Putting
put_by (Written n) d at bytes = putting (Written n) (laid d at bytes)
put_by TooLong d at bytes = putting TooLong d
put_by BadValue d at bytes = putting BadValue d
put_by Short d at bytes = putting Short d

pick_put : (x y : Bool) (n : ℕ) (d : List ℕ) (at : ℕ) (bytes : List ℕ)
    → pick x (putting Short d) (pick y (putting TooLong d) (putting (Written n) (laid d at bytes)))
    ≡ put_by (pick x Short (pick y TooLong (Written n))) d at bytes
pick_put true y n d at bytes = refl
pick_put false true n d at bytes = refl
pick_put false false n d at bytes = refl

pub put-room : (d : List ℕ) (at : ℕ) (h : Header)
    → put_header d at h ≡ put_by (room_for (encoding_of h.id) (length d) at (length h.value)) d at (bytes_of h)
unfolding put_header placed room_for room_of
put-room d at h =
    let e = encoding_of h.id in
    let n = lead_of e + length h.value in
    ap (λ (m : ℕ). pick (ltb (length d) (at + m)) (putting Short d)
    (pick (too_long_of e (length h.value)) (putting TooLong d) (putting (Written (at + m)) (laid d at (bytes_of h))))) (bytes-length h)
    ∙ pick_put (ltb (length d) (at + n)) (too_long_of e (length h.value)) (at + n) d at (bytes_of h)

-- a header that is written fits
pub record Fitting (e : HeaderEncoding) (len at n end : ℕ) : Type 0 where
  pub ends : end ≡ at + lead_of e + n
  pub fits : end ≤ len
  pub short : too_long_of e n ≡ false

pub room-written : (e : HeaderEncoding) (len at n end : ℕ) → room_for e len at n ≡ Written end → Fitting e len at n end
unfolding room_for
room-written e len at n end q =
    let g = granted len at (lead_of e + n) end TwoBytes (too_long_of e n) (sym q) in
    record { ends = omega (arith, g.next_is); fits = omega (arith, g.next_is, g.fits); short = g.allowed }

-- values longer than any store
none_for : (e : HeaderEncoding) (len at m n : ℕ) → len < 2 ^ 64 → 2 ^ 64 - 1 ≤ m → 2 ^ 64 - 1 ≤ n → room_for e len at m ≡ room_for e len at n
unfolding room_for room_of
none_for e len at m n h j k =
    let s = lead-some e in
    simp (lt-ltb len (at + (lead_of e + m)) (omega arith), lt-ltb len (at + (lead_of e + n)) (omega arith))

-- a value longer than any store is as short of room as the longest that can be counted
pub room_most : (e : HeaderEncoding) (len at n : ℕ) → len < 2 ^ 64 → room_for e len at (min n (2 ^ 64 - 1)) ≡ room_for e len at n
room_most e len at n h = by (ltb (2 ^ 64 - 1) n) refl
  where
    by : (x : Bool) → ltb (2 ^ 64 - 1) n ≡ x → room_for e len at (min n (2 ^ 64 - 1)) ≡ room_for e len at n
    by true q =
        let k = ltb-true (2 ^ 64 - 1) n q in
        let m : min n (2 ^ 64 - 1) ≡ 2 ^ 64 - 1 = omega arith in
        rw m (none_for e len at (2 ^ 64 - 1) n h (omega arith) (omega arith))
    by false q =
        let k = ltb-false (2 ^ 64 - 1) n q in
        let m : min n (2 ^ 64 - 1) ≡ n = omega arith in
        rw m refl

pub refused-start : (d : List ℕ) (at : ℕ) (lead : List ℕ) (a r : Wrote) → OneOf (1 ∷ 2 ∷ 3 ∷ []) (tag_of the_type r) → a ≡ r
    → putting r d ≡ start_by a d at lead
refused-start d at lead a (Written end) k q = absurd (written-not end k)
refused-start d at lead a TooLong k q = rw q refl
refused-start d at lead a BadValue k q = rw q refl
refused-start d at lead a Short k q = rw q refl

-- ---- a header started: what stands before its value, and room for it

pub record Started (d d₁ : List ℕ) (at : ℕ) (h : Header) (n end : ℕ) : Type 0 where
  pub size : n ≡ length h.value
  pub ends : end ≡ at + lead_of (encoding_of h.id) + length h.value
  pub fits : end ≤ length d
  pub room_is : room_for (encoding_of h.id) (length d) at (length h.value) ≡ Written end
  pub store_is : d₁ ≡ sets d at (lead_bytes (encoding_of h.id) h.id (length h.value))

module _ (d d₁ : List ℕ) (at : ℕ) (h : Header) (n : ℕ) (r : Wrote) (s : putting r d₁ ≡ start_header d at h.id n)
    (m : n ≡ min (length h.value) (2 ^ 64 - 1)) (l : length d < 2 ^ 64) where
  room-same : room_for (encoding_of h.id) (length d) at n ≡ room_for (encoding_of h.id) (length d) at (length h.value)
  room-same = rw m (room_most (encoding_of h.id) (length d) at (length h.value) l)

  pub started : (end : ℕ) → r ≡ Written end → Started d d₁ at h n end
  unfolding start_header
  started end q = by (room_for e (length d) at n) refl (ap (λ (p : Putting). p.answer) s) (ap (λ (p : Putting). p.store) s)
    where
      e : HeaderEncoding
      e = encoding_of h.id

      by : (a : Wrote) → room_for e (length d) at n ≡ a → r ≡ (start_by a d at (lead_bytes e h.id n)).answer
          → d₁ ≡ (start_by a d at (lead_bytes e h.id n)).store → Started d d₁ at h n end
      by (Written to) w x y =
          let f = room-written e (length d) at n to w in
          let k : to ≡ end = cc in
          let size : n ≡ length h.value = omega (arith, m, f.ends, f.fits, lead-some e) in
          record {
            size = size;
            ends = omega (arith, f.ends);
            fits = omega (arith, f.fits);
            room_is = sym room-same ∙ w ∙ ap Written k;
            store_is = y ∙ ap (λ (n : ℕ). sets d at (lead_bytes e h.id n)) size;
          }
      by TooLong w x y = let z : ◌≡◌ {A = ℕ} 0 1 = cc in absurd (omega arith)
      by BadValue w x y = let z : ◌≡◌ {A = ℕ} 0 1 = cc in absurd (omega arith)
      by Short w x y = let z : ◌≡◌ {A = ℕ} 0 1 = cc in absurd (omega arith)

  -- a header that is refused changes nothing
  pub put_refused : OneOf (1 ∷ 2 ∷ 3 ∷ []) (tag_of the_type r) → putting r d₁ ≡ put_header d at h
  unfolding start_header
  put_refused k = by (room_for e (length d) at n) refl (ap (λ (p : Putting). p.answer) s) (ap (λ (p : Putting). p.store) s)
    where
      e : HeaderEncoding
      e = encoding_of h.id

      refused : (a : Wrote) → room_for e (length d) at n ≡ a → putting r d₁ ≡ put_by a d at (bytes_of h) → putting r d₁ ≡ put_header d at h
      refused a w q = q ∙ sym (put-room d at h ∙ ap (λ (r : Wrote). put_by r d at (bytes_of h)) (sym room-same ∙ w))

      by : (a : Wrote) → room_for e (length d) at n ≡ a → r ≡ (start_by a d at (lead_bytes e h.id n)).answer
          → d₁ ≡ (start_by a d at (lead_bytes e h.id n)).store → putting r d₁ ≡ put_header d at h
      by (Written m) w x y = absurd (written-not m (subst (λ (r : Wrote). OneOf (1 ∷ 2 ∷ 3 ∷ []) (tag_of the_type r)) x k))
      by TooLong w x y = refused TooLong w (rw (x, y) refl)
      by BadValue w x y = refused BadValue w (rw (x, y) refl)
      by Short w x y = refused Short w (rw (x, y) refl)

-- a header that is written: the value after what stands before it
pub put_written : (d d₁ d₂ : List ℕ) (at : ℕ) (h : Header) (n end : ℕ) → Started d d₁ at h n end → d₂ ≡ laid d₁ (end - n) h.value
    → putting (Written end) d₂ ≡ put_header d at h
put_written d d₁ d₂ at h n end w s =
    let e = encoding_of h.id in
    let v = h.value in
    let l = lead_bytes e h.id (length v) in
    let k : at + length l ≡ end - n = omega (arith, w.ends, w.size, lead-length e h.id (length v)) in
    let p : d₂ ≡ laid d at (bytes_of h) =
    s ∙ ap (λ (d : List ℕ). laid d (end - n) v) w.store_is
    ∙ sets-laid d l v at (end - n) k (omega (arith, w.ends, w.size, w.fits))
    ∙ ap (laid d at) (sym (bytes-lead h)) in
    ap (putting (Written end)) p ∙ sym (put-room d at h ∙ ap (λ (r : Wrote). put_by r d at (bytes_of h)) w.room_is)
