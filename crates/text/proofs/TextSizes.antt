-- The three texts of headers as readings of `recoded`, and how long they can be. Assumes nothing.
use mathlib.Core.Path.{◌≡◌, refl}
use mathlib.Core.Bool.{Bool, true, false}
use mathlib.Core.List.{List, [], ◌∷◌}
use Prim.Native.Nat.{ℕ, zero, suc, ◌+◌, ◌*◌, ◌%◌, ◌≤◌, ◌<◌}
use native.Mathlib.Omega.{arith}
use borrow.Author.Tests.{ltb-true, ltb-false}
use lib.Dec.{ltb}
use lib.ListN.{length, get_or, drop, length-append, length-drop}
use Rattle.base.specs.Pick.{pick}
use Rattle.text.specs.declared.Piece.{Piece}
use Rattle.text.specs.declared.Form.TheVariants.{Utf8, Utf16}
use Rattle.text.specs.Unicode.{up_to_zero_of, codes, units, is_pair, paired, pieces16, scalars16, split8, pieces8, lossy, scalars8, utf8, utf16, joined, text8, utf16be}
use Rattle.text.specs.Text.{recoded, unicode_text, ascii_text, unicode_bytes}
use Rattle.text.proofs.Widths.{utf16_1, utf16_2}
use Rattle.text.proofs.Cut.{cut-within}
use Rattle.text.proofs.Sequences.{View8, bad1, bad2, bad3, one, two, three, four, view8, start8, start-within}

pub is_unicode : (s : List ℕ) → recoded Utf16 Utf8 s ≡ unicode_text s
unfolding recoded unicode_text scalars16
is_unicode s = refl

pub is_ascii : (s : List ℕ) → recoded Utf8 Utf8 (up_to_zero_of s) ≡ ascii_text s
unfolding recoded ascii_text scalars8 lossy
is_ascii s = refl

pub is_encoded : (t : List ℕ) → recoded Utf8 Utf16 t ≡ unicode_bytes t
unfolding recoded unicode_bytes lossy
is_encoded t = refl

-- ---- a scalar value of UTF-16 is two bytes or more, and four bytes of UTF-8 at most

pick_most : (p q r : Bool) (a b c d : List ℕ) → length a ≤ 4 → length b ≤ 4 → length c ≤ 4 → length d ≤ 4
    → length (pick p a (pick q b (pick r c d))) ≤ 4
pick_most true q r a b c d ha hb hc hd = ha
pick_most false true r a b c d ha hb hc hd = hb
pick_most false false true a b c d ha hb hc hd = hc
pick_most false false false a b c d ha hb hc hd = hd

utf8_most : (c : ℕ) → length (utf8 c) ≤ 4
unfolding utf8
utf8_most c = pick_most (ltb c 0x80) (ltb c 0x800) (ltb c 0x10000) _ _ _ _ (omega arith) (omega arith) (omega arith) (omega arith)

text8_most : (cs : List ℕ) → length (text8 cs) ≤ 4 * length cs
unfolding joined
text8_most [] = omega arith
text8_most (c ∷ cs) = omega (arith, text8_most cs, utf8_most c, length-append (utf8 c) (text8 cs))

paired_by : (t : Bool) (x y : List Piece) (n : ℕ) → length (codes x) ≤ n → length (codes y) ≤ suc n → length (codes (pick t x y)) ≤ suc n
paired_by true x y n h k = omega arith
paired_by false x y n h k = k

paired_most : (us : List ℕ) → length (codes (paired us)) ≤ length us
unfolding codes paired
paired_most [] = omega arith
paired_most (u ∷ []) = omega arith
paired_most (u ∷ v ∷ r) = omega (arith, paired_by (is_pair u v) (paired r) (paired (v ∷ r)) (length r) (paired_most r) (paired_most (v ∷ r)))

units_most : (s : List ℕ) → 2 * length (units s) ≤ length s
unfolding units
units_most [] = omega arith
units_most (a ∷ []) = omega arith
units_most (a ∷ b ∷ r) = omega (arith, units_most r)

pub unicode_most : (s : List ℕ) → length (unicode_text s) ≤ 2 * length s
unfolding unicode_text scalars16 pieces16
unicode_most s =
    omega (arith, text8_most (codes (paired (up_to_zero_of (units s)))), paired_most (up_to_zero_of (units s)), cut-within (units s), units_most s)

-- ---- a piece of UTF-8 has half the bytes of its UTF-16 or more

utf16-low : (c : ℕ) → c < 0x10000 → length (utf16 c) ≤ 2
utf16-low c h = rw (utf16_1 c h) (omega arith)

utf16_most : (c : ℕ) → length (utf16 c) ≤ 4
utf16_most c = by (ltb c 0x10000) refl
  where
    by : (t : Bool) → ltb c 0x10000 ≡ t → length (utf16 c) ≤ 4
    by true e = omega (arith, utf16-low c (ltb-true c 0x10000 e))
    by false e = rw (utf16_2 c (ltb-false c 0x10000 e)) (omega arith)

piece_most : (b c d e : ℕ) (p : Piece) → View8 b c d e p → length (utf16 p.code) ≤ 2 * p.size
piece_most b c d e p (bad1 q) = rw q (omega (arith, utf16-low 0xFFFD (omega arith)))
piece_most b c d e p (bad2 h q) = rw q (omega (arith, utf16-low 0xFFFD (omega arith)))
piece_most b c d e p (bad3 h l q) = rw q (omega (arith, utf16-low 0xFFFD (omega arith)))
piece_most b c d e p (one h q) = rw q (omega (arith, utf16-low b (omega arith)))
piece_most b c d e p (two h l s q) = rw q (omega (arith, utf16_most (b % 0x20 * 0x40 + c % 0x40)))
piece_most b c d e p (three h l s d₁ d₂ q) = rw q (omega (arith, utf16_most (b % 0x10 * 0x1000 + c % 0x40 * 0x40 + d % 0x40)))
piece_most b c d e p (four h l s d₁ d₂ e₁ e₂ q) =
    rw q (omega (arith, utf16_most (b % 0x08 * 0x40000 + c % 0x40 * 0x1000 + d % 0x40 * 0x40 + e % 0x40)))

start_most : (t : List ℕ) → length (utf16 (start8 t).code) ≤ 2 * (start8 t).size
unfolding start8
start_most t =
    piece_most (get_or t 0 0) (get_or t 1 0) (get_or t 2 0) (get_or t 3 0) (start8 t) (view8 (get_or t 0 0) (get_or t 1 0) (get_or t 2 0) (get_or t 3 0))

split_most : (n : ℕ) (s : List ℕ) → length (utf16be (codes (split8 n s))) ≤ 2 * length s
unfolding codes joined split8 start8
split_most zero s = omega arith
split_most (suc n) [] = omega arith
split_most (suc n) (b ∷ r) =
    let p = start8 (b ∷ r) in
    let t = drop p.size (b ∷ r) in
    omega (
      arith,
      split_most n t,
      start_most (b ∷ r),
      start-within (b ∷ r) (omega arith),
      length-drop p.size (b ∷ r),
      length-append (utf16 p.code) (utf16be (codes (split8 n t))),
    )

pub encoded_most : (t : List ℕ) → length (unicode_bytes t) ≤ 2 * length t
unfolding unicode_bytes lossy pieces8
encoded_most t = split_most (length t) t
