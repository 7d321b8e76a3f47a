-- UTF-16: what the unit at a place starts, and the pieces after it. Assumes nothing.
use mathlib.Core.Path.{◌≡◌, refl, sym, ap, ◌∙◌}
use mathlib.Core.Bool.{Bool, true, false, ◌&&◌, and-eq-true_iff, and-false}
use mathlib.Core.List.{List, [], ◌∷◌}
use Prim.Native.Nat.{ℕ, zero, suc, ◌+◌, ◌-◌, ◌*◌, ◌≤◌, ◌<◌}
use native.Mathlib.Numerals.{add-one}
use native.Mathlib.Omega.{arith}
use borrow.Author.Tests.{leb-true, ltb-true}
use lib.Dec.{leb, ltb}
use lib.ListN.{length, get_or, drop, length-drop}
use lib.Seq.{drop-cons, drop-drop}
use Rattle.base.specs.Pick.{pick}
use Rattle.text.specs.declared.Piece.{Piece}
use Rattle.text.specs.declared.Form.TheVariants.{Utf16}
use Rattle.text.specs.Unicode.{up_to_zero_of, keeps, replaces, units, is_pair, first16, paired, pieces16}
use Rattle.text.specs.Pieces.{ReadsOne}

-- ---- units

units-short : (s : List ℕ) → length s < 2 → units s ≡ []
unfolding units
units-short [] h = refl
units-short (a ∷ []) h = refl
units-short (a ∷ b ∷ r) h = absurd (omega arith)

pub unit_none : (s : List ℕ) (at : ℕ) → length s < at + 2 → 0 ≡ get_or (units (drop at s)) 0 0
unit_none s at h = rw (units-short (drop at s) (omega (arith, length-drop at s)))

pub unit_some : (s : List ℕ) (at : ℕ) → at + 2 ≤ length s → get_or s at 0 * 256 + get_or s (at + 1) 0 ≡ get_or (units (drop at s)) 0 0
unfolding units
unit_some s at h =
    sym (ap (λ (l : List ℕ). get_or (units l) 0 0)
    (drop-cons s at 0 (omega arith) ∙ ap (λ (l : List ℕ). get_or s at 0 ∷ l) (drop-cons s (suc at) 0 (omega arith)))
    ∙ rw (add-one at))

units-rest : (r : List ℕ) → units (drop 2 r) ≡ drop 1 (units r)
unfolding units
units-rest [] = refl
units-rest (a ∷ []) = refl
units-rest (a ∷ b ∷ r) = refl

-- ---- pairs

pub pair_range : (u v : ℕ) → is_pair u v ≡ true → (0xD800 ≤ u) × (u < 0xDC00) × (0xDC00 ≤ v) × (v < 0xE000)
unfolding is_pair
pair_range u v e =
    let p = (and-eq-true_iff (leb 0xD800 u && ltb u 0xDC00) (leb 0xDC00 v && ltb v 0xE000)).0 e in
    let a = (and-eq-true_iff (leb 0xD800 u) (ltb u 0xDC00)).0 p.0 in
    let b = (and-eq-true_iff (leb 0xDC00 v) (ltb v 0xE000)).0 p.1 in
    (leb-true 0xD800 u a.0, ltb-true u 0xDC00 a.1, leb-true 0xDC00 v b.0, ltb-true v 0xE000 b.1)

pub no_pair : (u : ℕ) → is_pair u 0 ≡ false
unfolding is_pair
no_pair u = and-false (leb 0xD800 u && ltb u 0xDC00)

-- what a unit starts, by whether it is in a pair
pub first-pair : (u v : ℕ) → is_pair u v ≡ true → first16 u v ≡ keeps (0x10000 + (u - 0xD800) * 0x400 + (v - 0xDC00)) 4
unfolding first16
first-pair u v e = rw e

pub first_single : (u v : ℕ) → is_pair u v ≡ false → first16 u v ≡ pick (leb 0xD800 u && ltb u 0xE000) (replaces 2) (keeps u 2)
unfolding first16
first_single u v e = rw e

pub single_size : (b : Bool) (u : ℕ) → (pick b (replaces 2) (keeps u 2)).size ≡ 2
single_size true u = refl
single_size false u = refl

single_low : (b : Bool) (u : ℕ) → u < 65536 → (pick b (replaces 2) (keeps u 2)).code < 0x110000
single_low true u h = omega arith
single_low false u h = omega arith

-- ---- the pieces

paired-first : (u : ℕ) (us : List ℕ)
    → paired (u ∷ up_to_zero_of us) ≡ first16 u (get_or us 0 0) ∷ pick (is_pair u (get_or us 0 0)) (paired (up_to_zero_of (drop 1 us))) (paired (up_to_zero_of us))
unfolding paired up_to_zero_of
paired-first u [] = rw (no_pair u)
paired-first u (zero ∷ r) = rw (no_pair u)
paired-first u (suc v ∷ r) = refl

pub up_some : (u : ℕ) (us : List ℕ) → (u ≡ 0 → ⊥) → up_to_zero_of (u ∷ us) ≡ u ∷ up_to_zero_of us
unfolding up_to_zero_of
up_some zero us h = absurd (h refl)
up_some (suc u) us h = refl

pub end16 : (t : List ℕ) → get_or (units t) 0 0 ≡ 0 → pieces16 t ≡ []
unfolding pieces16 units up_to_zero_of paired
end16 [] e = refl
end16 (a ∷ []) e = refl
end16 (a ∷ b ∷ r) e = rw e

-- the front of a list: its first unit, not 0, and the one after it
module _ (a b : ℕ) (r : List ℕ) (nz : a * 256 + b ≡ 0 → ⊥) where
  pub front : pieces16 (a ∷ b ∷ r)
      ≡ first16 (a * 256 + b) (get_or (units r) 0 0) ∷ pick (is_pair (a * 256 + b) (get_or (units r) 0 0)) (pieces16 (drop 2 r)) (pieces16 r)
  unfolding pieces16 units
  front = rw (up_some (a * 256 + b) (units r) nz, paired-first (a * 256 + b) (units r), units-rest r)

pub unit_there : (r : List ℕ) → 0 < get_or (units r) 0 0 → 2 ≤ length r
unfolding units
unit_there [] h = absurd (omega arith)
unit_there (a ∷ []) h = absurd (omega arith)
unit_there (a ∷ b ∷ r) h = omega arith

-- a piece p at the front of t, and the others after it
pub record Front (t : List ℕ) (p : Piece) : Type 0 where
  pub first : pieces16 t ≡ p ∷ pieces16 (drop p.size t)
  pub some : 1 ≤ p.size
  pub within : p.size ≤ length t
  pub scalar : p.code < 0x110000

front_by : (a b : ℕ) (r : List ℕ) → (a * 256 + b ≡ 0 → ⊥) → a * 256 + b < 65536 → (t : Bool) → is_pair (a * 256 + b) (get_or (units r) 0 0) ≡ t
    → Front (a ∷ b ∷ r) (first16 (a * 256 + b) (get_or (units r) 0 0))
front_by a b r nz low true e =
    let u = a * 256 + b in
    let v = get_or (units r) 0 0 in
    let p = pair_range u v e in
    let f = first-pair u v e in
    let l = unit_there r (omega arith) in
    record {
      first = front a b r nz ∙ rw (e, f);
      some = rw f (omega arith);
      within = rw f (omega arith);
      scalar = rw f (omega arith);
    }
front_by a b r nz low false e =
    let u = a * 256 + b in
    let f = first_single u (get_or (units r) 0 0) e in
    let s = leb 0xD800 u && ltb u 0xE000 in
    let z : (first16 u (get_or (units r) 0 0)).size ≡ 2 = ap (λ (p : Piece). p.size) f ∙ single_size s u in
    record {
      first = front a b r nz ∙ rw (e, z);
      some = omega arith;
      within = rw z (omega arith);
      scalar = rw f (single_low s u low);
    }

pub front16 : (t : List ℕ) → (get_or (units t) 0 0 ≡ 0 → ⊥) → get_or (units t) 0 0 < 65536
    → Front t (first16 (get_or (units t) 0 0) (get_or (units (drop 2 t)) 0 0))
unfolding units
front16 [] nz low = absurd (nz refl)
front16 (a ∷ []) nz low = absurd (nz refl)
front16 (a ∷ b ∷ r) nz low = front_by a b r nz low (is_pair (a * 256 + b) (get_or (units r) 0 0)) refl

-- what `next16` promises, from what `unit_at` gives
pub reads16 : (s : List ℕ) (at u v : ℕ) → u ≡ get_or (units (drop at s)) 0 0 → v ≡ get_or (units (drop (at + 2) s)) 0 0 → (u ≡ 0 → ⊥) → u < 65536
    → ReadsOne Utf16 s at (first16 u v)
reads16 s at u v hu hv nz low =
    let f = front16 (drop at s) (λ (e : get_or (units (drop at s)) 0 0 ≡ 0). nz (hu ∙ e)) (rw hu at low) in
    let g : Front (drop at s) (first16 u v) = rw (hu, hv, ← drop-drop 2 at s) f in
    record {
      first = g.first ∙ rw (drop-drop (first16 u v).size at s);
      some = g.some;
      within = omega (arith, g.within, g.some, length-drop at s);
      scalar = g.scalar;
    }
