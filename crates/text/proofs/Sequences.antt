-- UTF-8: what the bytes at a place start, by the ranges of table 3-7, and the pieces after it. Assumes nothing.
use mathlib.Core.Path.{◌≡◌, refl, ap, ◌∙◌}
use mathlib.Core.Bool.{Bool, true, false, not, and-eq-true_iff}
use mathlib.Core.List.{List, [], ◌∷◌}
use Prim.Native.Nat.{ℕ, zero, suc, ◌+◌, ◌*◌, ◌%◌, ◌≤◌, ◌<◌}
use native.Mathlib.Omega.{arith}
use borrow.Author.Tests.{leb-true, ltb-true, ltb-false, eqb-true, eqb-false}
use lib.Dec.{eqb, leb, ltb}
use lib.ListN.{length, get_or, drop, length-drop}
use lib.Seq.{drop-drop, get_or-drop}
use Rattle.base.specs.Pick.{pick}
use Rattle.text.specs.declared.Piece.{Piece}
use Rattle.text.specs.declared.Form.TheVariants.{Utf8}
use Rattle.text.specs.Unicode.{keeps, replaces, need, low, high, inside, first8, split8, pieces8}
use Rattle.text.specs.Pieces.{ReadsOne}

-- ---- the first byte

pub data Lead (b n : ℕ) : Type 0 where
  lead0 : n ≡ 0 → Lead b n
  lead1 : b < 0x80 → n ≡ 1 → Lead b n
  lead2 : 0xC2 ≤ b → b < 0xE0 → n ≡ 2 → Lead b n
  lead3 : 0xE0 ≤ b → b < 0xF0 → n ≡ 3 → Lead b n
  lead4 : 0xF0 ≤ b → b < 0xF5 → n ≡ 4 → Lead b n

lead_by_lem : (b : ℕ) (t₁ t₂ t₃ t₄ t₅ : Bool) → ltb b 0x80 ≡ t₁ → ltb b 0xC2 ≡ t₂ → ltb b 0xE0 ≡ t₃ → ltb b 0xF0 ≡ t₄ → ltb b 0xF5 ≡ t₅
    → Lead b (pick t₁ 1 (pick t₂ 0 (pick t₃ 2 (pick t₄ 3 (pick t₅ 4 0)))))
lead_by_lem b true t₂ t₃ t₄ t₅ e₁ e₂ e₃ e₄ e₅ = lead1 (ltb-true b 0x80 e₁) refl
lead_by_lem b false true t₃ t₄ t₅ e₁ e₂ e₃ e₄ e₅ = lead0 refl
lead_by_lem b false false true t₄ t₅ e₁ e₂ e₃ e₄ e₅ = lead2 (ltb-false b 0xC2 e₂) (ltb-true b 0xE0 e₃) refl
lead_by_lem b false false false true t₅ e₁ e₂ e₃ e₄ e₅ = lead3 (ltb-false b 0xE0 e₃) (ltb-true b 0xF0 e₄) refl
lead_by_lem b false false false false true e₁ e₂ e₃ e₄ e₅ = lead4 (ltb-false b 0xF0 e₄) (ltb-true b 0xF5 e₅) refl
lead_by_lem b false false false false false e₁ e₂ e₃ e₄ e₅ = lead0 refl

lead : (b : ℕ) → Lead b (need b)
unfolding need
lead b = lead_by_lem b (ltb b 0x80) (ltb b 0xC2) (ltb b 0xE0) (ltb b 0xF0) (ltb b 0xF5) refl refl refl refl refl

-- ---- the second byte: the narrower ranges after E0, ED, F0, F4, as bounds on both bytes at once

pub record Second (b c : ℕ) : Type 0 where
  pub least : 0x80 ≤ c
  pub most : c < 0xC0
  pub from_e0 : 0xE0 ≤ b → 0xE0 * 64 + 0xA0 ≤ b * 64 + c
  pub to_ed : b ≤ 0xED → b * 64 + c < 0xED * 64 + 0xA0
  pub from_f0 : 0xF0 ≤ b → 0xF0 * 64 + 0x90 ≤ b * 64 + c
  pub to_f4 : b ≤ 0xF4 → b * 64 + c < 0xF4 * 64 + 0x90

low_by : (b c : ℕ) (t₁ t₂ : Bool) → eqb b 0xE0 ≡ t₁ → eqb b 0xF0 ≡ t₂ → pick t₁ 0xA0 (pick t₂ 0x90 0x80) ≤ c
    → (0x80 ≤ c) × (0xE0 ≤ b → 0xE0 * 64 + 0xA0 ≤ b * 64 + c) × (0xF0 ≤ b → 0xF0 * 64 + 0x90 ≤ b * 64 + c)
low_by b c true t₂ e₁ e₂ h = let q = eqb-true b 0xE0 e₁ in (omega arith, λ l. omega arith, λ l. omega arith)
low_by b c false true e₁ e₂ h = let q = eqb-true b 0xF0 e₂ in (omega arith, λ l. omega arith, λ l. omega arith)
low_by b c false false e₁ e₂ h =
    let p = eqb-false b 0xE0 e₁ in let q = eqb-false b 0xF0 e₂ in (omega arith, λ l. omega arith, λ l. omega arith)

high_by : (b c : ℕ) (t₁ t₂ : Bool) → eqb b 0xED ≡ t₁ → eqb b 0xF4 ≡ t₂ → c ≤ pick t₁ 0x9F (pick t₂ 0x8F 0xBF)
    → (c < 0xC0) × (b ≤ 0xED → b * 64 + c < 0xED * 64 + 0xA0) × (b ≤ 0xF4 → b * 64 + c < 0xF4 * 64 + 0x90)
high_by b c true t₂ e₁ e₂ h = let q = eqb-true b 0xED e₁ in (omega arith, λ l. omega arith, λ l. omega arith)
high_by b c false true e₁ e₂ h = let q = eqb-true b 0xF4 e₂ in (omega arith, λ l. omega arith, λ l. omega arith)
high_by b c false false e₁ e₂ h =
    let p = eqb-false b 0xED e₁ in let q = eqb-false b 0xF4 e₂ in (omega arith, λ l. omega arith, λ l. omega arith)

inside_range : (lo hi x : ℕ) → inside lo hi x ≡ true → (lo ≤ x) × (x ≤ hi)
unfolding inside
inside_range lo hi x e = let p = (and-eq-true_iff (leb lo x) (leb x hi)).0 e in (leb-true lo x p.0, leb-true x hi p.1)

second : (b c : ℕ) → inside (low b) (high b) c ≡ true → Second b c
unfolding low high
second b c e =
    let r = inside_range (low b) (high b) c e in
    let l = low_by b c (eqb b 0xE0) (eqb b 0xF0) refl refl r.0 in
    let h = high_by b c (eqb b 0xED) (eqb b 0xF4) refl refl r.1 in
    record { least = l.0; most = h.0; from_e0 = l.1; to_ed = h.1; from_f0 = l.2; to_f4 = h.2 }

-- ---- what the bytes b, c, d, e start

pub data View8 (b c d e : ℕ) (p : Piece) : Type 0 where
  bad1 : p ≡ replaces 1 → View8 b c d e p
  bad2 : 0 < c → p ≡ replaces 2 → View8 b c d e p
  bad3 : 0 < c → 0 < d → p ≡ replaces 3 → View8 b c d e p
  one : b < 0x80 → p ≡ keeps b 1 → View8 b c d e p
  two : 0xC2 ≤ b → b < 0xE0 → Second b c → p ≡ keeps (b % 0x20 * 0x40 + c % 0x40) 2 → View8 b c d e p
  three : 0xE0 ≤ b → b < 0xF0 → Second b c → 0x80 ≤ d → d ≤ 0xBF
      → p ≡ keeps (b % 0x10 * 0x1000 + c % 0x40 * 0x40 + d % 0x40) 3 → View8 b c d e p
  four : 0xF0 ≤ b → b < 0xF5 → Second b c → 0x80 ≤ d → d ≤ 0xBF → 0x80 ≤ e → e ≤ 0xBF
      → p ≡ keeps (b % 0x08 * 0x40000 + c % 0x40 * 0x1000 + d % 0x40 * 0x40 + e % 0x40) 4 → View8 b c d e p

module _ (b c d e : ℕ) where
  view_by : (n : ℕ) → Lead b n → (i j k : Bool) → inside (low b) (high b) c ≡ i → inside 0x80 0xBF d ≡ j → inside 0x80 0xBF e ≡ k
      → View8 b c d e
      (pick (eqb n 0) (replaces 1)
      (pick (eqb n 1) (keeps b 1)
      (pick (not i) (replaces 1)
      (pick (eqb n 2) (keeps (b % 0x20 * 0x40 + c % 0x40) 2)
      (pick (not j) (replaces 2)
      (pick (eqb n 3) (keeps (b % 0x10 * 0x1000 + c % 0x40 * 0x40 + d % 0x40) 3)
      (pick (not k) (replaces 3) (keeps (b % 0x08 * 0x40000 + c % 0x40 * 0x1000 + d % 0x40 * 0x40 + e % 0x40) 4))))))))
  view_by n (lead0 q) i j k ei ej ek = rw q (bad1 refl)
  view_by n (lead1 h q) i j k ei ej ek = rw q (one h refl)
  view_by n (lead2 h l q) false j k ei ej ek = rw q (bad1 refl)
  view_by n (lead2 h l q) true j k ei ej ek = rw q (two h l (second b c ei) refl)
  view_by n (lead3 h l q) false j k ei ej ek = rw q (bad1 refl)
  view_by n (lead3 h l q) true false k ei ej ek = let s = second b c ei in let z = s.least in rw q (bad2 (omega arith) refl)
  view_by n (lead3 h l q) true true k ei ej ek =
      let r = inside_range 0x80 0xBF d ej in rw q (three h l (second b c ei) r.0 r.1 refl)
  view_by n (lead4 h l q) false j k ei ej ek = rw q (bad1 refl)
  view_by n (lead4 h l q) true false k ei ej ek = let s = second b c ei in let z = s.least in rw q (bad2 (omega arith) refl)
  view_by n (lead4 h l q) true true false ei ej ek =
      let s = second b c ei in
      let z = s.least in
      let r = inside_range 0x80 0xBF d ej in
      rw q (bad3 (omega arith) (omega arith) refl)
  view_by n (lead4 h l q) true true true ei ej ek =
      let r = inside_range 0x80 0xBF d ej in
      let w = inside_range 0x80 0xBF e ek in
      rw q (four h l (second b c ei) r.0 r.1 w.0 w.1 refl)

  pub view8 : View8 b c d e (first8 b c d e)
  unfolding first8
  view8 = view_by (need b) (lead b) (inside (low b) (high b) c) (inside 0x80 0xBF d) (inside 0x80 0xBF e) refl refl refl

-- the piece has 1 to 4 bytes, each but the first not 0, and its scalar value is in range
pub record Sized (c d e : ℕ) (p : Piece) : Type 0 where
  pub some : 1 ≤ p.size
  pub four_most : p.size ≤ 4
  pub has_c : 2 ≤ p.size → 0 < c
  pub has_d : 3 ≤ p.size → 0 < d
  pub has_e : 4 ≤ p.size → 0 < e
  pub scalar : p.code < 0x110000

module _ (b c d e : ℕ) where
  sized_by : (p : Piece) → View8 b c d e p → Sized c d e p
  sized_by p (bad1 q) =
      rw q (record {
        some = omega arith;
        four_most = omega arith;
        has_c = λ h. omega arith;
        has_d = λ h. omega arith;
        has_e = λ h. omega arith;
        scalar = omega arith;
      })
  sized_by p (bad2 hc q) =
      rw q (record {
        some = omega arith;
        four_most = omega arith;
        has_c = λ h. hc;
        has_d = λ h. omega arith;
        has_e = λ h. omega arith;
        scalar = omega
            arith;
      })
  sized_by p (bad3 hc hd q) =
      rw q (record { some = omega arith; four_most = omega arith; has_c = λ h. hc; has_d = λ h. hd; has_e = λ h. omega arith; scalar = omega arith })
  sized_by p (one h q) =
      rw q (record {
        some = omega arith;
        four_most = omega arith;
        has_c = λ h. omega arith;
        has_d = λ h. omega arith;
        has_e = λ h. omega arith;
        scalar = omega arith;
      })
  sized_by p (two h l s q) =
      let z = s.least in
      rw q (record {
        some = omega arith;
        four_most = omega arith;
        has_c = λ h. omega arith;
        has_d = λ h. omega arith;
        has_e = λ h. omega arith;
        scalar = omega arith;
      })
  sized_by p (three h l s d₁ d₂ q) =
      let z = s.least in
      rw q (record {
        some = omega arith;
        four_most = omega arith;
        has_c = λ h. omega arith;
        has_d = λ h. omega arith;
        has_e = λ h. omega arith;
        scalar = omega arith;
      })
  sized_by p (four h l s d₁ d₂ e₁ e₂ q) =
      let z = s.least in
      let y = s.most in
      let x = s.to_f4 (omega arith) in
      rw q (record {
        some = omega arith;
        four_most = omega arith;
        has_c = λ h. omega arith;
        has_d = λ h. omega arith;
        has_e = λ h. omega arith;
        scalar = omega arith;
      })

  pub sized8 : Sized c d e (first8 b c d e)
  sized8 = sized_by (first8 b c d e) (view8 b c d e)

-- ---- the pieces

-- a byte that is not 0 stands in the list
there : (s : List ℕ) (i : ℕ) → 0 < get_or s i 0 → i < length s
there [] i h = absurd (omega arith)
there (x ∷ s) zero h = omega arith
there (x ∷ s) (suc i) h = let r = there s i h in omega arith

-- what a list's front starts
unfoldable pub start8 : List ℕ → Piece
start8 t = first8 (get_or t 0 0) (get_or t 1 0) (get_or t 2 0) (get_or t 3 0)

pub start-sized : (t : List ℕ) → Sized (get_or t 1 0) (get_or t 2 0) (get_or t 3 0) (start8 t)
unfolding start8
start-sized t = sized8 (get_or t 0 0) (get_or t 1 0) (get_or t 2 0) (get_or t 3 0)

most : (n m : ℕ) → n ≤ 4 → 0 < m → (2 ≤ n → 1 < m) → (3 ≤ n → 2 < m) → (4 ≤ n → 3 < m) → n ≤ m
most zero m h p c d e = omega arith
most (suc zero) m h p c d e = omega arith
most (suc (suc zero)) m h p c d e = omega (arith, c (omega arith))
most (suc (suc (suc zero))) m h p c d e = omega (arith, d (omega arith))
most (suc (suc (suc (suc n)))) m h p c d e = omega (arith, e (omega arith))

pub start-within : (t : List ℕ) → 0 < length t → (start8 t).size ≤ length t
start-within t h =
    let z = start-sized t in
    most (start8 t).size (length t) z.four_most h (λ l. there t 1 (z.has_c l)) (λ l. there t 2 (z.has_d l)) (λ l. there t 3 (z.has_e l))

-- more turns than bytes change nothing
enough : (n m : ℕ) (s : List ℕ) → length s ≤ n → length s ≤ m → split8 n s ≡ split8 m s
unfolding split8 start8
enough zero zero s h k = refl
enough zero (suc m) [] h k = refl
enough zero (suc m) (b ∷ r) h k = absurd (omega arith)
enough (suc n) zero [] h k = refl
enough (suc n) zero (b ∷ r) h k = absurd (omega arith)
enough (suc n) (suc m) [] h k = refl
enough (suc n) (suc m) (b ∷ r) h k =
    let p = start8 (b ∷ r) in
    let z = (start-sized (b ∷ r)).some in
    let l = length-drop p.size (b ∷ r) in
    ap (λ (ps : List Piece). p ∷ ps) (enough n m (drop p.size (b ∷ r)) (omega arith) (omega arith))

pub end8 : (t : List ℕ) → length t ≤ 0 → pieces8 t ≡ []
unfolding pieces8 split8
end8 [] h = refl
end8 (b ∷ r) h = absurd (omega arith)

pub front8 : (t : List ℕ) → 0 < length t → pieces8 t ≡ start8 t ∷ pieces8 (drop (start8 t).size t)
unfolding pieces8 split8 start8
front8 [] h = absurd (omega arith)
front8 (b ∷ r) h =
    let p = start8 (b ∷ r) in
    let z = (start-sized (b ∷ r)).some in
    let l = length-drop p.size (b ∷ r) in
    ap (λ (ps : List Piece). p ∷ ps)
    (enough (length r) (length (drop p.size (b ∷ r))) (drop p.size (b ∷ r)) (omega arith) (omega arith))

-- what `next8` promises, from what `byte_at` gives
pub reads8 : (s : List ℕ) (at b c d e : ℕ) → at < length s → b ≡ get_or s at 0 → c ≡ get_or s (at + 1) 0 → d ≡ get_or s (at + 2) 0 → e ≡ get_or s (at + 3) 0
    → ReadsOne Utf8 s at (first8 b c d e)
unfolding start8
reads8 s at b c d e h hb hc hd he =
    let t = drop at s in
    let l = length-drop at s in
    let f = front8 t (omega arith) in
    let w = start-within t (omega arith) in
    let z = start-sized t in
    let n : at + 0 ≡ at = omega arith in
    let q : start8 t ≡ first8 b c d e = rw (hb, hc, hd, he, get_or-drop at s 0 0, get_or-drop at s 1 0, get_or-drop at s 2 0, get_or-drop at s 3 0, n) in
    let g : ReadsOne Utf8 s at (start8 t) = record {
      first = f ∙ rw (drop-drop (start8 t).size at s);
      some = z.some;
      within = omega arith;
      scalar = z.scalar;
    } in
    rw q at g
