-- UTF-16 written and read again, and read and written again. Assumes nothing.
use mathlib.Core.Path.{◌≡◌, refl, ap, ◌∙◌}
use mathlib.Core.Bool.{Bool, true, false, ◌&&◌, and-eq-true_iff}
use mathlib.Core.List.{List, [], ◌∷◌, ◌++◌}
use Prim.Native.Nat.{ℕ, zero, suc, ◌+◌, ◌-◌, ◌*◌, ◌/◌, ◌%◌, ◌≤◌, ◌<◌}
use native.Mathlib.Omega.{arith}
use borrow.Author.Tests.{leb-true, leb-false, ltb-true, ltb-false, eqb-true, eq-eqb, le-leb, lt-ltb, le-ltb}
use lib.Dec.{eqb, leb, ltb}
use lib.ListN.{length, get_or, take, drop, length-append, length-drop, take-append-drop}
use lib.Seq.{get_or-drop}
use Rattle.base.specs.Pick.{pick}
use Rattle.text.specs.declared.Piece.{Piece}
use Rattle.text.specs.Unicode.{up_to_zero_of, keeps, replaces, codes, all_kept, sizes, whole, units, is_pair, first16, paired, pieces16, scalars16, well_formed16, Scalar, Each, Scalars, NoZero, Octets, utf16, joined, utf16be}
use Rattle.text.proofs.Widths.{utf16_1, utf16_2}
use Rattle.text.proofs.Pairs.{pair_range, first-pair, first_single, front, end16, Front, front16}

-- ---- a unit that is no surrogate, and a pair

module _ (c : ℕ) (s : Scalar c) where
  plain_by : (t : Bool) (n : ℕ) → leb 0xD800 c ≡ t → n ≤ 0xE000 → (leb 0xD800 c && ltb c n) ≡ false
  plain_by true n e h = let l = s.apart (leb-true 0xD800 c e) in rw (e, le-ltb c n (omega arith))
  plain_by false n e h = rw e

  plain : (n : ℕ) → n ≤ 0xE000 → (leb 0xD800 c && ltb c n) ≡ false
  plain n h = plain_by (leb 0xD800 c) n refl h

  no_pair : (v : ℕ) → is_pair c v ≡ false
  unfolding is_pair
  no_pair v = rw (plain 0xDC00 (omega arith))

  first_plain : (v : ℕ) → first16 c v ≡ keeps c 2
  first_plain v = first_single c v (no_pair v) ∙ rw (plain 0xE000 (omega arith))

pair_yes : (u v : ℕ) → 0xD800 ≤ u → u < 0xDC00 → 0xDC00 ≤ v → v < 0xE000 → is_pair u v ≡ true
unfolding is_pair
pair_yes u v a b c d = rw (le-leb 0xD800 u a, lt-ltb u 0xDC00 b, le-leb 0xDC00 v c, lt-ltb v 0xE000 d)

-- ---- written and read

module _ (c : ℕ) (r : List ℕ) (s : Scalar c) (nz : 0 < c) where
  one_unit : c < 0x10000 → pieces16 (utf16 c ++ r) ≡ keeps c (length (utf16 c)) ∷ pieces16 r
  one_unit h =
      let q : c / 0x100 * 256 + c % 0x100 ≡ c = omega arith in
      let f = front (c / 0x100) (c % 0x100) r (λ (z : c / 0x100 * 256 + c % 0x100 ≡ 0). omega arith) in
      rw (utf16_1 c h) (f ∙ rw (q, first_plain c s (get_or (units r) 0 0), no_pair c s (get_or (units r) 0 0)))

  two-units : 0x10000 ≤ c → pieces16 (utf16 c ++ r) ≡ keeps c (length (utf16 c)) ∷ pieces16 r
  unfolding units
  two-units h =
      let u = 0xD800 + (c - 0x10000) / 0x400 in
      let v = 0xDC00 + (c - 0x10000) % 0x400 in
      let l = s.small in
      let p : u / 0x100 * 256 + u % 0x100 ≡ u = omega arith in
      let q : v / 0x100 * 256 + v % 0x100 ≡ v = omega arith in
      let y : is_pair u v ≡ true = pair_yes u v (omega arith) (omega arith) (omega arith) (omega arith) in
      let z : 0x10000 + (u - 0xD800) * 0x400 + (v - 0xDC00) ≡ c = omega arith in
      let f = front (u / 0x100) (u % 0x100) (v / 0x100 ∷ v % 0x100 ∷ r) (λ (e : u / 0x100 * 256 + u % 0x100 ≡ 0). omega arith) in
      rw (utf16_2 c h) (f ∙ rw (p, q, first-pair u v y, y, z))

  pub plain16 : pieces16 (utf16 c ++ r) ≡ keeps c (length (utf16 c)) ∷ pieces16 r
  plain16 = by (ltb c 0x10000) refl
    where
      by : (t : Bool) → ltb c 0x10000 ≡ t → pieces16 (utf16 c ++ r) ≡ keeps c (length (utf16 c)) ∷ pieces16 r
      by true e = one_unit (ltb-true c 0x10000 e)
      by false e = two-units (ltb-false c 0x10000 e)

pub scalars16-utf16be : (cs : List ℕ) → Scalars cs → NoZero cs → scalars16 (utf16be cs) ≡ cs
unfolding scalars16 codes joined pieces16 units up_to_zero_of paired
scalars16-utf16be [] s z = refl
scalars16-utf16be (c ∷ cs) s z =
    ap codes (plain16 c (utf16be cs) s.0 z.0) ∙ ap (λ (l : List ℕ). c ∷ l) (scalars16-utf16be cs s.1 z.1)

-- ---- what is read is a list of scalar values, none of them zero

module _ (P Q : ℕ → Type 0) (each : (u v : ℕ) → P u → Q (first16 u v).code) where
  either_way : (t : Bool) (x y : List Piece) → Each Q (codes x) → Each Q (codes y) → Each Q (codes (pick t x y))
  either_way true x y h k = h
  either_way false x y h k = k

  paired_each : (us : List ℕ) → Each P us → Each Q (codes (paired us))
  unfolding codes paired
  paired_each [] h = tt
  paired_each (u ∷ []) h = (each u 0 h.0, tt)
  paired_each (u ∷ v ∷ r) h =
      (each u v h.0, either_way (is_pair u v) (paired r) (paired (v ∷ r)) (paired_each r h.1.1) (paired_each (v ∷ r) h.1))

first_by : (u v : ℕ) (t : Bool) → is_pair u v ≡ t → u < 65536 → Scalar (first16 u v).code
first_by u v true e h =
    let p = pair_range u v e in
    rw (first-pair u v e) (record { small = omega arith; apart = λ (l : 0xD800 ≤ 0x10000 + (u - 0xD800) * 0x400 + (v - 0xDC00)). omega arith })
first_by u v false e h = rw (first_single u v e) (by (leb 0xD800 u) (ltb u 0xE000) refl refl)
  where
    by : (a b : Bool) → leb 0xD800 u ≡ a → ltb u 0xE000 ≡ b → Scalar (pick (a && b) (replaces 2) (keeps u 2)).code
    by true true p q = record { small = omega arith; apart = λ (l : 0xD800 ≤ 0xFFFD). omega arith }
    by true false p q = record { small = omega arith; apart = λ (l : 0xD800 ≤ u). ltb-false u 0xE000 q }
    by false b p q = let z = leb-false 0xD800 u p in record { small = omega arith; apart = λ (l : 0xD800 ≤ u). omega arith }

nonzero_by : (u v : ℕ) (t : Bool) → is_pair u v ≡ t → 0 < u → 0 < (first16 u v).code
nonzero_by u v true e h = rw (first-pair u v e) (omega arith)
nonzero_by u v false e h = rw (first_single u v e) (by (leb 0xD800 u && ltb u 0xE000))
  where
    by : (t : Bool) → 0 < (pick t (replaces 2) (keeps u 2)).code
    by true = omega arith
    by false = h

cut-each : (P : ℕ → Type 0) (us : List ℕ) → Each P us → Each P (up_to_zero_of us)
unfolding up_to_zero_of
cut-each P [] h = tt
cut-each P (zero ∷ r) h = tt
cut-each P (suc u ∷ r) h = (h.0, cut-each P r h.1)

pub cut_nonzero : (us : List ℕ) → NoZero (up_to_zero_of us)
unfolding up_to_zero_of
cut_nonzero [] = tt
cut_nonzero (zero ∷ r) = tt
cut_nonzero (suc u ∷ r) = (omega arith, cut_nonzero r)

units-each : (s : List ℕ) → Octets s → Each (λ (u : ℕ). u < 65536) (units s)
unfolding units
units-each [] h = tt
units-each (a ∷ []) h = tt
units-each (a ∷ b ∷ r) h = let x : a < 256 = h 0 in let y : b < 256 = h 1 in (omega arith, units-each r (λ k. h (suc (suc k))))

pub scalars16_valid : (s : List ℕ) → Octets s → Scalars (scalars16 s)
unfolding scalars16 pieces16
scalars16_valid s h =
    paired_each (λ (u : ℕ). u < 65536) Scalar (λ u v l. first_by u v (is_pair u v) refl l) (up_to_zero_of (units s))
    (cut-each (λ (u : ℕ). u < 65536) (units s) (units-each s h))

pub scalars16_nonzero : (s : List ℕ) → NoZero (scalars16 s)
unfolding scalars16 pieces16
scalars16_nonzero s =
    paired_each (λ (u : ℕ). 0 < u) (λ (c : ℕ). 0 < c) (λ u v l. nonzero_by u v (is_pair u v) refl l) (up_to_zero_of (units s)) (cut_nonzero (units s))

-- ---- read and written

-- the first piece of bytes that are whole is kept, and the others are whole
pub whole-first : (p : Piece) (ps : List Piece) (n : ℕ) → whole (p ∷ ps) n ≡ true → (p.kept ≡ true) × (whole ps (n - p.size) ≡ true)
unfolding whole all_kept sizes
whole-first p ps n e =
    let a = (and-eq-true_iff (p.kept && all_kept ps) (eqb (p.size + sizes ps) n)).0 e in
    let b = (and-eq-true_iff p.kept (all_kept ps)).0 a.0 in
    let c = eqb-true (p.size + sizes ps) n a.1 in
    (b.0, rw b.1 (eq-eqb (sizes ps) (n - p.size) (omega arith)))

pub whole-none : (n : ℕ) → whole [] n ≡ true → 0 ≡ n
unfolding whole all_kept sizes
whole-none n e = eqb-true 0 n e

-- the bytes of a kept piece
pair-bytes : (a b : ℕ) (r : List ℕ) → a < 256 → b < 256 → Octets r → is_pair (a * 256 + b) (get_or (units r) 0 0) ≡ true
    → utf16 (first16 (a * 256 + b) (get_or (units r) 0 0)).code ≡ take (first16 (a * 256 + b) (get_or (units r) 0 0)).size (a ∷ b ∷ r)
unfolding units
pair-bytes a b [] ha hb o e = let p = pair_range (a * 256 + b) 0 e in absurd (omega arith)
pair-bytes a b (x ∷ []) ha hb o e = let p = pair_range (a * 256 + b) 0 e in absurd (omega arith)
pair-bytes a b (c ∷ d ∷ r) ha hb o e =
    let u = a * 256 + b in
    let v = c * 256 + d in
    let p = pair_range u v e in
    let hc : c < 256 = o 0 in
    let hd : d < 256 = o 1 in
    let k = 0x10000 + (u - 0xD800) * 0x400 + (v - 0xDC00) in
    let eu : 0xD800 + (k - 0x10000) / 0x400 ≡ u = omega arith in
    let ev : 0xDC00 + (k - 0x10000) % 0x400 ≡ v = omega arith in
    let ea : u / 0x100 ≡ a = omega arith in
    let eb : u % 0x100 ≡ b = omega arith in
    let ec : v / 0x100 ≡ c = omega arith in
    let ed : v % 0x100 ≡ d = omega arith in
    rw (first-pair u v e, utf16_2 k (omega arith), eu, ev, ea, eb, ec, ed)

single_bytes : (a b : ℕ) (r : List ℕ) → a < 256 → b < 256 → (p : Piece) (t : Bool) → p ≡ pick t (replaces 2) (keeps (a * 256 + b) 2) → p.kept ≡ true
    → utf16 p.code ≡ take p.size (a ∷ b ∷ r)
single_bytes a b r ha hb p true q k = let z : ◌≡◌ {A = ℕ} 0 1 = cc in absurd (omega arith)
single_bytes a b r ha hb p false q k =
    let u = a * 256 + b in
    let ea : u / 0x100 ≡ a = omega arith in
    let eb : u % 0x100 ≡ b = omega arith in
    rw (q, utf16_1 u (omega arith), ea, eb)

kept-bytes : (a b : ℕ) (r : List ℕ) → a < 256 → b < 256 → Octets r → (t : Bool) → is_pair (a * 256 + b) (get_or (units r) 0 0) ≡ t
    → (first16 (a * 256 + b) (get_or (units r) 0 0)).kept ≡ true
    → utf16 (first16 (a * 256 + b) (get_or (units r) 0 0)).code ≡ take (first16 (a * 256 + b) (get_or (units r) 0 0)).size (a ∷ b ∷ r)
kept-bytes a b r ha hb o true e k = pair-bytes a b r ha hb o e
kept-bytes a b r ha hb o false e k =
    single_bytes a b r ha hb (first16 (a * 256 + b) (get_or (units r) 0 0)) (leb 0xD800 (a * 256 + b) && ltb (a * 256 + b) 0xE000)
    (first_single (a * 256 + b) (get_or (units r) 0 0) e) k

octets-drop : (s : List ℕ) (n : ℕ) → Octets s → Octets (drop n s)
octets-drop s n o k = rw (get_or-drop n s k 0) (o (n + k))

-- bytes whose first unit is not zero, with what holds of shorter ones
module _ (a b : ℕ) (r : List ℕ) (o : Octets (a ∷ b ∷ r)) (w : whole (pieces16 (a ∷ b ∷ r)) (length (a ∷ b ∷ r)) ≡ true) where
  turn : (a * 256 + b ≡ 0 → ⊥)
      → ((k : ℕ) → 1 ≤ k → whole (pieces16 (drop k (a ∷ b ∷ r))) (length (drop k (a ∷ b ∷ r))) ≡ true
      → utf16be (codes (pieces16 (drop k (a ∷ b ∷ r)))) ≡ drop k (a ∷ b ∷ r))
      → utf16be (codes (pieces16 (a ∷ b ∷ r))) ≡ a ∷ b ∷ r
  unfolding joined codes units
  turn nz shorter =
      let s = a ∷ b ∷ r in
      let ha : a < 256 = o 0 in
      let hb : b < 256 = o 1 in
      let v = get_or (units r) 0 0 in
      let p = first16 (a * 256 + b) v in
      let f : Front s p = front16 s nz (omega arith) in
      let x = whole-first p (pieces16 (drop p.size s)) (length s) (rw f.first at w) in
      let i = shorter p.size f.some (rw (length-drop p.size s) x.1) in
      let q = kept-bytes a b r ha hb (λ k. o (suc (suc k))) (is_pair (a * 256 + b) v) refl x.0 in
      ap (λ (ps : List Piece). utf16be (codes ps)) f.first
      ∙ ap (λ (l : List ℕ). l ++ utf16be (codes (pieces16 (drop p.size s)))) q
      ∙ ap (λ (l : List ℕ). take p.size s ++ l) i ∙ take-append-drop p.size s

  zero-first : a * 256 + b ≡ 0 → ⊥
  unfolding units
  zero-first e = omega (arith, whole-none (length (a ∷ b ∷ r)) (rw (end16 (a ∷ b ∷ r) e) at w))

written : (n : ℕ) (s : List ℕ) → length s ≤ n → Octets s → whole (pieces16 s) (length s) ≡ true → utf16be (codes (pieces16 s)) ≡ s
unfolding joined codes pieces16 units up_to_zero_of paired
written zero [] h o w = refl
written zero (a ∷ r) h o w = absurd (omega arith)
written (suc n) [] h o w = refl
written (suc n) (a ∷ []) h o w = absurd (omega (arith, whole-none 1 w))
written (suc n) (a ∷ b ∷ r) h o w =
    turn a b r o w (zero-first a b r o w)
    (λ k l x. written n (drop k (a ∷ b ∷ r)) (omega (arith, length-drop k (a ∷ b ∷ r))) (octets-drop (a ∷ b ∷ r) k o) x)

-- bytes that are well-formed are those that the scalar values read from them are written as
pub utf16be-scalars16 : (s : List ℕ) → Octets s → well_formed16 s ≡ true → utf16be (scalars16 s) ≡ s
unfolding well_formed16 scalars16
utf16be-scalars16 s o w = written (length s) s (omega arith) o w

-- and what is written is well-formed
whole-more : (p : Piece) (ps : List Piece) (n : ℕ) → p.kept ≡ true → whole ps n ≡ true → whole (p ∷ ps) (p.size + n) ≡ true
unfolding whole all_kept sizes
whole-more p ps n k w =
    let a = (and-eq-true_iff (all_kept ps) (eqb (sizes ps) n)).0 w in
    let e = eqb-true (sizes ps) n a.1 in
    rw (k, a.0, e) (eq-eqb (p.size + n) (p.size + n) refl)

pub utf16be-well_formed : (cs : List ℕ) → Scalars cs → NoZero cs → well_formed16 (utf16be cs) ≡ true
unfolding well_formed16 joined pieces16 units up_to_zero_of paired whole all_kept sizes
utf16be-well_formed [] s z = refl
utf16be-well_formed (c ∷ cs) s z =
    let r = utf16be cs in
    let w = whole-more (keeps c (length (utf16 c))) (pieces16 r) (length r) refl (utf16be-well_formed cs s.1 z.1) in
    rw (plain16 c r s.0 z.0, length-append (utf16 c) r) w
