-- UTF-8 written and read again, and read and written again. Assumes nothing.
use mathlib.Core.Path.{◌≡◌, refl, sym, ap, ◌∙◌}
use mathlib.Core.Bool.{Bool, true, false, and-eq-true_iff}
use mathlib.Core.List.{List, [], ◌∷◌, ◌++◌}
use Prim.Native.Nat.{ℕ, zero, suc, ◌+◌, ◌-◌, ◌*◌, ◌/◌, ◌%◌, ◌≤◌, ◌<◌}
use native.Mathlib.Omega.{arith}
use borrow.Author.Tests.{leb-true, leb-false, ltb-true, ltb-false, eqb-true, eq-eqb, le-leb, lt-ltb, le-ltb}
use lib.Dec.{eqb, leb, ltb}
use lib.ListN.{length, get_or, take, drop, length-drop, take-append-drop}
use lib.Seq.{take_all}
use Rattle.base.specs.Pick.{pick}
use Rattle.text.specs.declared.Piece.{Piece}
use Rattle.text.specs.Unicode.{up_to_zero_of, keeps, codes, all_kept, sizes, need, low, high, inside, first8, split8, pieces8, lossy, scalars8, whole, well_formed8, Scalar, Each, Scalars, NoZero, utf8, joined, text8}
use Rattle.text.proofs.Widths.{utf8_1, utf8_2, utf8_3, utf8_4}
use Rattle.text.proofs.Pairs.{up_some}
use Rattle.text.proofs.Cut.{cut-take}
use Rattle.text.proofs.TextWhole.{sizes8}
use Rattle.text.proofs.Back16.{cut_nonzero}
use Rattle.text.proofs.Sequences.{Second, View8, bad1, bad2, bad3, one, two, three, four, view8, start8, start-sized, start-within, front8}

-- ---- a sequence of table 3-7 is kept

need_1 : (b : ℕ) → b < 0x80 → need b ≡ 1
unfolding need
need_1 b h = rw (lt-ltb b 0x80 h)

need_2 : (b : ℕ) → 0xC2 ≤ b → b < 0xE0 → need b ≡ 2
unfolding need
need_2 b l h = rw (le-ltb b 0x80 (omega arith), le-ltb b 0xC2 l, lt-ltb b 0xE0 h)

need_3 : (b : ℕ) → 0xE0 ≤ b → b < 0xF0 → need b ≡ 3
unfolding need
need_3 b l h = rw (le-ltb b 0x80 (omega arith), le-ltb b 0xC2 (omega arith), le-ltb b 0xE0 l, lt-ltb b 0xF0 h)

need_4 : (b : ℕ) → 0xF0 ≤ b → b < 0xF5 → need b ≡ 4
unfolding need
need_4 b l h = rw (le-ltb b 0x80 (omega arith), le-ltb b 0xC2 (omega arith), le-ltb b 0xE0 (omega arith), le-ltb b 0xF0 l, lt-ltb b 0xF5 h)

inside_yes : (lo hi x : ℕ) → lo ≤ x → x ≤ hi → inside lo hi x ≡ true
unfolding inside
inside_yes lo hi x l h = rw (le-leb lo x l, le-leb x hi h)

-- the range of the second byte, where the first is given
low_yes : (b c : ℕ) → 0x80 ≤ c → (b ≡ 0xE0 → 0xA0 ≤ c) → (b ≡ 0xF0 → 0x90 ≤ c) → low b ≤ c
unfolding low
low_yes b c l p q = by (eqb b 0xE0) (eqb b 0xF0) refl refl
  where
    by : (t u : Bool) → eqb b 0xE0 ≡ t → eqb b 0xF0 ≡ u → pick t 0xA0 (pick u 0x90 0x80) ≤ c
    by true u x y = p (eqb-true b 0xE0 x)
    by false true x y = q (eqb-true b 0xF0 y)
    by false false x y = l

high_yes : (b c : ℕ) → c ≤ 0xBF → (b ≡ 0xED → c ≤ 0x9F) → (b ≡ 0xF4 → c ≤ 0x8F) → c ≤ high b
unfolding high
high_yes b c l p q = by (eqb b 0xED) (eqb b 0xF4) refl refl
  where
    by : (t u : Bool) → eqb b 0xED ≡ t → eqb b 0xF4 ≡ u → c ≤ pick t 0x9F (pick u 0x8F 0xBF)
    by true u x y = p (eqb-true b 0xED x)
    by false true x y = q (eqb-true b 0xF4 y)
    by false false x y = l

module _ (b c d e : ℕ) where
  kept_1 : b < 0x80 → first8 b c d e ≡ keeps b 1
  unfolding first8
  kept_1 h = rw (need_1 b h)

  kept_2 : need b ≡ 2 → inside (low b) (high b) c ≡ true → first8 b c d e ≡ keeps (b % 0x20 * 0x40 + c % 0x40) 2
  unfolding first8
  kept_2 n i = rw (n, i)

  kept_3 : need b ≡ 3 → inside (low b) (high b) c ≡ true → inside 0x80 0xBF d ≡ true
      → first8 b c d e ≡ keeps (b % 0x10 * 0x1000 + c % 0x40 * 0x40 + d % 0x40) 3
  unfolding first8
  kept_3 n i j = rw (n, i, j)

  kept_4 : need b ≡ 4 → inside (low b) (high b) c ≡ true → inside 0x80 0xBF d ≡ true → inside 0x80 0xBF e ≡ true
      → first8 b c d e ≡ keeps (b % 0x08 * 0x40000 + c % 0x40 * 0x1000 + d % 0x40 * 0x40 + e % 0x40) 4
  unfolding first8
  kept_4 n i j k = rw (n, i, j, k)

-- ---- written and read

-- a number by its digits of six bits
digits_2 : (c : ℕ) → c / 0x40 * 0x40 + c % 0x40 ≡ c
digits_2 c = omega arith

digits_3 : (c : ℕ) → c / 0x1000 * 0x1000 + c / 0x40 % 0x40 * 0x40 + c % 0x40 ≡ c
digits_3 c =
    let e : c / 0x1000 ≡ c / 0x40 / 0x40 = omega arith in
    let x = digits_2 (c / 0x40) in
    let y = digits_2 c in
    rw e (omega (arith, x, y))

digits_4 : (c : ℕ) → c / 0x40000 * 0x40000 + c / 0x1000 % 0x40 * 0x1000 + c / 0x40 % 0x40 * 0x40 + c % 0x40 ≡ c
digits_4 c =
    let e : c / 0x40000 ≡ c / 0x1000 / 0x40 = omega arith in
    let x = digits_2 (c / 0x1000) in
    let y = digits_3 c in
    rw e (omega (arith, x, y))

starts : (t : List ℕ) (p : Piece) → 0 < length t → start8 t ≡ p → pieces8 t ≡ p ∷ pieces8 (drop p.size t)
starts t p h e = rw e at (front8 t h)

below : (c : ℕ) → Scalar c → c < 0xE000 → c < 0xD800
below c s h = by (leb 0xD800 c) refl
  where
    by : (t : Bool) → leb 0xD800 c ≡ t → c < 0xD800
    by true e = absurd (omega (arith, s.apart (leb-true 0xD800 c e)))
    by false e = leb-false 0xD800 c e

module _ (c : ℕ) (r : List ℕ) (s : Scalar c) where
  plain_1 : c < 0x80 → pieces8 (utf8 c ++ r) ≡ keeps c (length (utf8 c)) ∷ pieces8 r
  unfolding start8
  plain_1 h = rw (utf8_1 c h) (starts (c ∷ r) (keeps c 1) (omega arith) (kept_1 c (get_or r 0 0) (get_or r 1 0) (get_or r 2 0) h))

  plain_2 : 0x80 ≤ c → c < 0x800 → pieces8 (utf8 c ++ r) ≡ keeps c (length (utf8 c)) ∷ pieces8 r
  unfolding start8
  plain_2 l h =
      let b₁ = 0xC0 + c / 0x40 in
      let b₂ = 0x80 + c % 0x40 in
      let i = inside_yes (low b₁) (high b₁) b₂
      (low_yes b₁ b₂ (omega arith) (λ (e : b₁ ≡ 0xE0). omega arith) (λ (e : b₁ ≡ 0xF0). omega arith))
      (high_yes b₁ b₂ (omega arith) (λ (e : b₁ ≡ 0xED). omega arith) (λ (e : b₁ ≡ 0xF4). omega arith)) in
      let q : b₁ % 0x20 * 0x40 + b₂ % 0x40 ≡ c = omega arith in
      let k = kept_2 b₁ b₂ (get_or r 0 0) (get_or r 1 0) (need_2 b₁ (omega arith) (omega arith)) i in
      rw (utf8_2 c l h) (starts (b₁ ∷ b₂ ∷ r) (keeps c 2) (omega arith) (k ∙ ap (λ (n : ℕ). keeps n 2) q))

  plain_3 : 0x800 ≤ c → c < 0x10000 → pieces8 (utf8 c ++ r) ≡ keeps c (length (utf8 c)) ∷ pieces8 r
  unfolding start8
  plain_3 l h =
      let b₁ = 0xE0 + c / 0x1000 in
      let b₂ = 0x80 + c / 0x40 % 0x40 in
      let b₃ = 0x80 + c % 0x40 in
      let i = inside_yes (low b₁) (high b₁) b₂
      (low_yes b₁ b₂ (omega arith) (λ (e : b₁ ≡ 0xE0). omega arith) (λ (e : b₁ ≡ 0xF0). omega arith))
      (high_yes b₁ b₂ (omega arith) (λ (e : b₁ ≡ 0xED). omega (arith, below c s (omega arith))) (λ (e : b₁ ≡ 0xF4). omega arith)) in
      let q₁ : b₁ % 0x10 ≡ c / 0x1000 = omega arith in
      let q₂ : b₂ % 0x40 ≡ c / 0x40 % 0x40 = omega arith in
      let q₃ : b₃ % 0x40 ≡ c % 0x40 = omega arith in
      let q : b₁ % 0x10 * 0x1000 + b₂ % 0x40 * 0x40 + b₃ % 0x40 ≡ c = rw (q₁, q₂, q₃) (digits_3 c) in
      let k = kept_3 b₁ b₂ b₃ (get_or r 0 0) (need_3 b₁ (omega arith) (omega arith)) i (inside_yes 0x80 0xBF b₃ (omega arith) (omega arith)) in
      rw (utf8_3 c l h) (starts (b₁ ∷ b₂ ∷ b₃ ∷ r) (keeps c 3) (omega arith) (k ∙ ap (λ (n : ℕ). keeps n 3) q))

  plain_4 : 0x10000 ≤ c → pieces8 (utf8 c ++ r) ≡ keeps c (length (utf8 c)) ∷ pieces8 r
  unfolding start8
  plain_4 l =
      let h = s.small in
      let b₁ = 0xF0 + c / 0x40000 in
      let b₂ = 0x80 + c / 0x1000 % 0x40 in
      let b₃ = 0x80 + c / 0x40 % 0x40 in
      let b₄ = 0x80 + c % 0x40 in
      let i = inside_yes (low b₁) (high b₁) b₂
      (low_yes b₁ b₂ (omega arith) (λ (e : b₁ ≡ 0xE0). omega arith) (λ (e : b₁ ≡ 0xF0). omega arith))
      (high_yes b₁ b₂ (omega arith) (λ (e : b₁ ≡ 0xED). omega arith) (λ (e : b₁ ≡ 0xF4). omega arith)) in
      let q₁ : b₁ % 0x08 ≡ c / 0x40000 = omega arith in
      let q₂ : b₂ % 0x40 ≡ c / 0x1000 % 0x40 = omega arith in
      let q₃ : b₃ % 0x40 ≡ c / 0x40 % 0x40 = omega arith in
      let q₄ : b₄ % 0x40 ≡ c % 0x40 = omega arith in
      let q : b₁ % 0x08 * 0x40000 + b₂ % 0x40 * 0x1000 + b₃ % 0x40 * 0x40 + b₄ % 0x40 ≡ c = rw (q₁, q₂, q₃, q₄) (digits_4 c) in
      let k = kept_4 b₁ b₂ b₃ b₄ (need_4 b₁ (omega arith) (omega arith)) i (inside_yes 0x80 0xBF b₃ (omega arith) (omega arith))
      (inside_yes 0x80 0xBF b₄ (omega arith) (omega arith)) in
      rw (utf8_4 c l) (starts (b₁ ∷ b₂ ∷ b₃ ∷ b₄ ∷ r) (keeps c 4) (omega arith) (k ∙ ap (λ (n : ℕ). keeps n 4) q))

  pub plain8 : pieces8 (utf8 c ++ r) ≡ keeps c (length (utf8 c)) ∷ pieces8 r
  plain8 = by (ltb c 0x80) (ltb c 0x800) (ltb c 0x10000) refl refl refl
    where
      by : (t u v : Bool) → ltb c 0x80 ≡ t → ltb c 0x800 ≡ u → ltb c 0x10000 ≡ v → pieces8 (utf8 c ++ r) ≡ keeps c (length (utf8 c)) ∷ pieces8 r
      by true u v x y z = plain_1 (ltb-true c 0x80 x)
      by false true v x y z = plain_2 (ltb-false c 0x80 x) (ltb-true c 0x800 y)
      by false false true x y z = plain_3 (ltb-false c 0x800 y) (ltb-true c 0x10000 z)
      by false false false x y z = plain_4 (ltb-false c 0x10000 z)

pub lossy-text8 : (cs : List ℕ) → Scalars cs → lossy (text8 cs) ≡ cs
unfolding lossy codes joined pieces8 split8
lossy-text8 [] s = refl
lossy-text8 (c ∷ cs) s = ap codes (plain8 c (text8 cs) s.0) ∙ ap (λ (l : List ℕ). c ∷ l) (lossy-text8 cs s.1)

-- ---- the bytes of a scalar value that is not zero are not zero

module _ (c : ℕ) (r : List ℕ) (nz : 0 < c) where
  up_1 : (b : ℕ) (l : List ℕ) → 0 < b → up_to_zero_of (b ∷ l) ≡ b ∷ up_to_zero_of l
  up_1 b l h = up_some b l (λ (e : b ≡ 0). omega arith)

  utf8_up : up_to_zero_of (utf8 c ++ r) ≡ utf8 c ++ up_to_zero_of r
  utf8_up = by (ltb c 0x80) (ltb c 0x800) (ltb c 0x10000) refl refl refl
    where
      by : (t u v : Bool) → ltb c 0x80 ≡ t → ltb c 0x800 ≡ u → ltb c 0x10000 ≡ v → up_to_zero_of (utf8 c ++ r) ≡ utf8 c ++ up_to_zero_of r
      by true u v x y z = rw (utf8_1 c (ltb-true c 0x80 x), up_1 c r nz)
      by false true v x y z =
          let b₁ = 0xC0 + c / 0x40 in
          let b₂ = 0x80 + c % 0x40 in
          rw (utf8_2 c (ltb-false c 0x80 x) (ltb-true c 0x800 y), up_1 b₁ (b₂ ∷ r) (omega arith), up_1 b₂ r (omega arith))
      by false false true x y z =
          let b₁ = 0xE0 + c / 0x1000 in
          let b₂ = 0x80 + c / 0x40 % 0x40 in
          let b₃ = 0x80 + c % 0x40 in
          rw (
            utf8_3 c (ltb-false c 0x800 y) (ltb-true c 0x10000 z),
            up_1 b₁ (b₂ ∷ b₃ ∷ r) (omega arith),
            up_1 b₂ (b₃ ∷ r) (omega arith),
            up_1 b₃ r (omega arith),
          )
      by false false false x y z =
          let b₁ = 0xF0 + c / 0x40000 in
          let b₂ = 0x80 + c / 0x1000 % 0x40 in
          let b₃ = 0x80 + c / 0x40 % 0x40 in
          let b₄ = 0x80 + c % 0x40 in
          rw (
            utf8_4 c (ltb-false c 0x10000 z),
            up_1 b₁ (b₂ ∷ b₃ ∷ b₄ ∷ r) (omega arith),
            up_1 b₂ (b₃ ∷ b₄ ∷ r) (omega arith),
            up_1 b₃ (b₄ ∷ r) (omega arith),
            up_1 b₄ r (omega arith),
          )

pub text8_up : (cs : List ℕ) → NoZero cs → up_to_zero_of (text8 cs) ≡ text8 cs
unfolding joined up_to_zero_of
text8_up [] z = refl
text8_up (c ∷ cs) z = utf8_up c (text8 cs) z.0 ∙ ap (λ (l : List ℕ). utf8 c ++ l) (text8_up cs z.1)

pub scalars8-text8 : (cs : List ℕ) → Scalars cs → NoZero cs → scalars8 (text8 cs) ≡ cs
unfolding scalars8
scalars8-text8 cs s z = ap lossy (text8_up cs z) ∙ lossy-text8 cs s

-- ---- what is read is a list of scalar values, and without a zero before it has none

-- the bits of bytes in their ranges
bits_3 : (b : ℕ) → 0xE0 ≤ b → b < 0xF0 → b % 0x10 ≡ b - 0xE0
bits_3 b l h = omega arith

bits_4 : (b : ℕ) → 0xF0 ≤ b → b < 0xF5 → b % 0x08 ≡ b - 0xF0
bits_4 b l h = omega arith

bits : (c : ℕ) → 0x80 ≤ c → c < 0xC0 → c % 0x40 ≡ c - 0x80
bits c l h = omega arith

module _ (b c d e : ℕ) where
  scalar_3 : 0xE0 ≤ b → b < 0xF0 → Second b c → 0x80 ≤ d → d ≤ 0xBF → (t : Bool) → leb b 0xED ≡ t
      → Scalar (b % 0x10 * 0x1000 + c % 0x40 * 0x40 + d % 0x40)
  scalar_3 l h s d₁ d₂ true x =
      let e₁ = bits_3 b l h in
      let e₂ = bits c s.least s.most in
      let z = s.to_ed (leb-true b 0xED x) in
      record { small = omega arith; apart = λ (k : 0xD800 ≤ b % 0x10 * 0x1000 + c % 0x40 * 0x40 + d % 0x40). omega arith }
  scalar_3 l h s d₁ d₂ false x =
      let e₁ = bits_3 b l h in
      let z = leb-false b 0xED x in
      record { small = omega arith; apart = λ (k : 0xD800 ≤ b % 0x10 * 0x1000 + c % 0x40 * 0x40 + d % 0x40). omega arith }

  scalar_of : (p : Piece) → View8 b c d e p → Scalar p.code
  scalar_of p (bad1 q) = rw q (record { small = omega arith; apart = λ (h : 0xD800 ≤ 0xFFFD). omega arith })
  scalar_of p (bad2 hc q) = rw q (record { small = omega arith; apart = λ (h : 0xD800 ≤ 0xFFFD). omega arith })
  scalar_of p (bad3 hc hd q) = rw q (record { small = omega arith; apart = λ (h : 0xD800 ≤ 0xFFFD). omega arith })
  scalar_of p (one h q) = rw q (record { small = omega arith; apart = λ (l : 0xD800 ≤ b). omega arith })
  scalar_of p (two l h s q) =
      rw q (record { small = omega arith; apart = λ (k : 0xD800 ≤ b % 0x20 * 0x40 + c % 0x40). omega arith })
  scalar_of p (three l h s d₁ d₂ q) = rw q (scalar_3 l h s d₁ d₂ (leb b 0xED) refl)
  scalar_of p (four l h s d₁ d₂ e₁ e₂ q) =
      let m = b % 0x08 * 0x40000 + c % 0x40 * 0x1000 + d % 0x40 * 0x40 + e % 0x40 in
      let x = bits_4 b l h in
      let y = bits c s.least s.most in
      let z = s.to_f4 (omega arith) in
      let w = s.from_f0 l in
      rw q (record { small = omega arith; apart = λ (k : 0xD800 ≤ m). omega arith })

  nonzero_of : (p : Piece) → View8 b c d e p → 0 < b → 0 < p.code
  nonzero_of p (bad1 q) nz = rw q (omega arith)
  nonzero_of p (bad2 hc q) nz = rw q (omega arith)
  nonzero_of p (bad3 hc hd q) nz = rw q (omega arith)
  nonzero_of p (one h q) nz = rw q nz
  nonzero_of p (two l h s q) nz = rw q (omega arith)
  nonzero_of p (three l h s d₁ d₂ q) nz =
      let x = bits_3 b l h in
      let y = bits c s.least s.most in
      let w = s.from_e0 l in
      rw q (omega arith)
  nonzero_of p (four l h s d₁ d₂ e₁ e₂ q) nz =
      let x = bits_4 b l h in
      let y = bits c s.least s.most in
      let w = s.from_f0 l in
      rw q (omega arith)

each-drop : (P : ℕ → Type 0) (n : ℕ) (s : List ℕ) → Each P s → Each P (drop n s)
each-drop P zero s h = h
each-drop P (suc n) [] h = tt
each-drop P (suc n) (b ∷ r) h = each-drop P n r h.1

module _ (P Q : ℕ → Type 0) (each : (b c d e : ℕ) → P b → Q (first8 b c d e).code) where
  split_each : (n : ℕ) (s : List ℕ) → Each P s → Each Q (codes (split8 n s))
  unfolding codes split8 start8
  split_each zero s h = tt
  split_each (suc n) [] h = tt
  split_each (suc n) (b ∷ r) h = (
    each b (get_or r 0 0) (get_or r 1 0) (get_or r 2 0) h.0,
    split_each n (drop (start8 (b ∷ r)).size (b ∷ r)) (each-drop P (start8 (b ∷ r)).size (b ∷ r) h),
  )

anything : (s : List ℕ) → Each (λ (c : ℕ). Unit {0}) s
anything [] = tt
anything (b ∷ r) = (tt, anything r)

pub lossy_valid : (s : List ℕ) → Scalars (lossy s)
unfolding lossy pieces8
lossy_valid s =
    split_each (λ (c : ℕ). Unit {0}) Scalar (λ b c d e u. scalar_of b c d e (first8 b c d e) (view8 b c d e)) (length s) s (anything s)

pub scalars8_valid : (s : List ℕ) → Scalars (scalars8 s)
unfolding scalars8
scalars8_valid s = lossy_valid (up_to_zero_of s)

pub scalars8_nonzero : (s : List ℕ) → NoZero (scalars8 s)
unfolding scalars8 lossy pieces8
scalars8_nonzero s =
    split_each (λ (c : ℕ). 0 < c) (λ (c : ℕ). 0 < c) (λ b c d e nz. nonzero_of b c d e (first8 b c d e) (view8 b c d e) nz) (length (up_to_zero_of s))
    (up_to_zero_of s)
    (cut_nonzero s)

-- ---- read and written

-- a number of digits of six bits has those digits
last_digit : (x y : ℕ) → y < 0x40 → ((x * 0x40 + y) / 0x40 ≡ x) × ((x * 0x40 + y) % 0x40 ≡ y)
last_digit x y h = (omega arith, omega arith)

module _ (x y z : ℕ) (hy : y < 0x40) (hz : z < 0x40) where
  three_digits : let k = x * 0x1000 + y * 0x40 + z in (k / 0x1000 ≡ x) × (k / 0x40 % 0x40 ≡ y) × (k % 0x40 ≡ z)
  three_digits =
      let k = x * 0x1000 + y * 0x40 + z in
      let a : k ≡ (x * 0x40 + y) * 0x40 + z = omega arith in
      let b = last_digit (x * 0x40 + y) z hz in
      let c = last_digit x y hy in
      let e : k / 0x40 ≡ x * 0x40 + y = rw a b.0 in
      let f : k / 0x1000 ≡ k / 0x40 / 0x40 = omega arith in
      (f ∙ rw e c.0, rw e c.1, rw a b.1)

module _ (b c d e : ℕ) where
  kept-bytes : (p : Piece) → View8 b c d e p → p.kept ≡ true → utf8 p.code ≡ take p.size (b ∷ c ∷ d ∷ e ∷ [])
  kept-bytes p (bad1 q) k = let z : ◌≡◌ {A = ℕ} 0 1 = cc in absurd (omega arith)
  kept-bytes p (bad2 hc q) k = let z : ◌≡◌ {A = ℕ} 0 1 = cc in absurd (omega arith)
  kept-bytes p (bad3 hc hd q) k = let z : ◌≡◌ {A = ℕ} 0 1 = cc in absurd (omega arith)
  kept-bytes p (one h q) k = rw (q, utf8_1 b h)
  kept-bytes p (two l h s q) k =
      let m = b % 0x20 * 0x40 + c % 0x40 in
      let t = last_digit (b % 0x20) (c % 0x40) (omega arith) in
      let x : 0xC0 + m / 0x40 ≡ b = rw t.0 (omega arith) in
      let y : 0x80 + m % 0x40 ≡ c = rw t.1 (omega (arith, s.least, s.most)) in
      rw (q, utf8_2 m (omega arith) (omega arith), x, y)
  kept-bytes p (three l h s d₁ d₂ q) k =
      let m = b % 0x10 * 0x1000 + c % 0x40 * 0x40 + d % 0x40 in
      let e₁ = bits_3 b l h in
      let e₂ = bits c s.least s.most in
      let w = s.from_e0 l in
      let t = three_digits (b % 0x10) (c % 0x40) (d % 0x40) (omega arith) (omega arith) in
      let x : 0xE0 + m / 0x1000 ≡ b = rw t.0 (omega arith) in
      let y : 0x80 + m / 0x40 % 0x40 ≡ c = rw t.1 (omega (arith, s.least)) in
      let z : 0x80 + m % 0x40 ≡ d = rw t.2 (omega arith) in
      rw (q, utf8_3 m (omega arith) (omega arith), x, y, z)
  kept-bytes p (four l h s d₁ d₂ f₁ f₂ q) k =
      let m = b % 0x08 * 0x40000 + c % 0x40 * 0x1000 + d % 0x40 * 0x40 + e % 0x40 in
      let e₁ = bits_4 b l h in
      let e₂ = bits c s.least s.most in
      let w = s.from_f0 l in
      let a : m ≡ (b % 0x08 * 0x40 + c % 0x40) * 0x1000 + d % 0x40 * 0x40 + e % 0x40 = omega arith in
      let t = three_digits (b % 0x08 * 0x40 + c % 0x40) (d % 0x40) (e % 0x40) (omega arith) (omega arith) in
      let u = last_digit (b % 0x08) (c % 0x40) (omega arith) in
      let f : m / 0x1000 ≡ b % 0x08 * 0x40 + c % 0x40 = rw a t.0 in
      let g : m / 0x40000 ≡ m / 0x1000 / 0x40 = omega arith in
      let x : 0xF0 + m / 0x40000 ≡ b = rw (g, f, u.0) (omega arith) in
      let y : 0x80 + m / 0x1000 % 0x40 ≡ c = rw (f, u.1) (omega (arith, s.least)) in
      let z : 0x80 + m / 0x40 % 0x40 ≡ d = rw (a, t.1) (omega arith) in
      let v : 0x80 + m % 0x40 ≡ e = rw (a, t.2) (omega arith) in
      rw (q, utf8_4 m (omega arith), x, y, z, v)

-- the first bytes of a list, at most four
heads : (n : ℕ) (t : List ℕ) → n ≤ length t → n ≤ 4 → take n (get_or t 0 0 ∷ get_or t 1 0 ∷ get_or t 2 0 ∷ get_or t 3 0 ∷ []) ≡ take n t
heads zero t h k = refl
heads (suc n) [] h k = absurd (omega arith)
heads (suc zero) (a ∷ t) h k = refl
heads (suc (suc n)) (a ∷ []) h k = absurd (omega arith)
heads (suc (suc zero)) (a ∷ b ∷ t) h k = refl
heads (suc (suc (suc n))) (a ∷ b ∷ []) h k = absurd (omega arith)
heads (suc (suc (suc zero))) (a ∷ b ∷ c ∷ t) h k = refl
heads (suc (suc (suc (suc n)))) (a ∷ b ∷ c ∷ []) h k = absurd (omega arith)
heads (suc (suc (suc (suc zero)))) (a ∷ b ∷ c ∷ d ∷ t) h k = refl
heads (suc (suc (suc (suc (suc n))))) (a ∷ b ∷ c ∷ d ∷ t) h k = absurd (omega arith)

start-bytes : (t : List ℕ) → 0 < length t → (start8 t).kept ≡ true → utf8 (start8 t).code ≡ take (start8 t).size t
unfolding start8
start-bytes t h k =
    kept-bytes (get_or t 0 0) (get_or t 1 0) (get_or t 2 0) (get_or t 3 0) (start8 t) (view8 (get_or t 0 0) (get_or t 1 0) (get_or t 2 0) (get_or t 3 0)) k
    ∙ heads (start8 t).size t (start-within t h) (start-sized t).four_most

written : (n : ℕ) (s : List ℕ) → length s ≤ n → all_kept (split8 n s) ≡ true → text8 (codes (split8 n s)) ≡ s
unfolding codes joined all_kept split8 start8
written zero [] h w = refl
written zero (b ∷ r) h w = absurd (omega arith)
written (suc n) [] h w = refl
written (suc n) (b ∷ r) h w =
    let s = b ∷ r in
    let p = start8 s in
    let t = drop p.size s in
    let a = (and-eq-true_iff p.kept (all_kept (split8 n t))).0 w in
    let i = written n t (omega (arith, length-drop p.size s, (start-sized s).some)) a.1 in
    ap (λ (l : List ℕ). l ++ text8 (codes (split8 n t))) (start-bytes s (omega arith) a.0)
    ∙ ap (λ (l : List ℕ). take p.size s ++ l) i ∙ take-append-drop p.size s

-- bytes of which none is replaced are those that the scalar values read from them are written as
pub text8-lossy : (s : List ℕ) → all_kept (pieces8 s) ≡ true → text8 (lossy s) ≡ s
unfolding lossy pieces8
text8-lossy s w = written (length s) s (omega arith) w

-- well-formed bytes have no zero, and none is replaced
pub well_formed_up : (s : List ℕ) → well_formed8 s ≡ true → (up_to_zero_of s ≡ s) × (all_kept (pieces8 s) ≡ true)
unfolding well_formed8 whole
well_formed_up s w =
    let ps = pieces8 (up_to_zero_of s) in
    let a = (and-eq-true_iff (all_kept ps) (eqb (sizes ps) (length s))).0 w in
    let n = eqb-true (sizes ps) (length s) a.1 in
    let e : up_to_zero_of s ≡ s = sym (cut-take s) ∙ take_all (length (up_to_zero_of s)) s (omega (arith, sizes8 (up_to_zero_of s))) in
    (e, rw e at a.0)

pub text8-scalars8 : (s : List ℕ) → well_formed8 s ≡ true → text8 (scalars8 s) ≡ s
unfolding scalars8
text8-scalars8 s w = let u = well_formed_up s w in rw u.0 (text8-lossy s u.1)

-- and what is written is well-formed
pub text8-kept : (cs : List ℕ) → Scalars cs → all_kept (pieces8 (text8 cs)) ≡ true
unfolding joined pieces8 split8 all_kept
text8-kept [] s = refl
text8-kept (c ∷ cs) s = ap all_kept (plain8 c (text8 cs) s.0) ∙ text8-kept cs s.1

pub text8-well_formed : (cs : List ℕ) → Scalars cs → NoZero cs → well_formed8 (text8 cs) ≡ true
unfolding well_formed8 whole
text8-well_formed cs s z =
    rw (text8_up cs z, text8-kept cs s) (eq-eqb (sizes (pieces8 (text8 cs))) (length (text8 cs)) (sizes8 (text8 cs)))
