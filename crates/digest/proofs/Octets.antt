-- Bytes and numbers: from one to the other and back. Assumes nothing.
use Rattle.std.proofs.Common.{◌≡◌, ℕ, zero, suc, ◌+◌, ◌*◌, ◌/◌, ◌%◌, ◌^◌, ◌<◌, ◌≤◌, List, [], ◌∷◌, ◌++◌, reverse, length, get_or, take, drop, replicate, sym, refl, ap, ◌∙◌, subst, ap₂, pow-suc, arith, length-append, length-drop, take-append-drop, length-take-le, take_all, take-take, drop-drop, take_at, take-add, drop_at}
use mathlib.Core.List.{reverse_aux, reverse-reverse}
use lib.ListN.{length-reverse}
use lib.Seq.{paste}
use Rattle.std.specs.Int.{w64, to_le_bytes, to_be_bytes, from_be_bytes}
use Rattle.digest.specs.declared.md5.Regs.{Regs}
use Rattle.digest.specs.declared.md5.Octets16.{Octets16}
use Rattle.digest.specs.Md5.{le, le_value, be, be_value, octets16, numbers16, output_of, digest_of}

-- every element is a byte
pub Bytes : List ℕ → Type 0
Bytes [] = Unit {0}
Bytes (b ∷ l) = (b < 256) × Bytes l

pub are_bytes : (l : List ℕ) → ((k : ℕ) → get_or l k 0 < 256) → Bytes l
unfolding Bytes
are_bytes [] h = tt
are_bytes (b ∷ l) h = (h 0, are_bytes l (λ k. h (suc k)))

bytes_take : (n : ℕ) (l : List ℕ) → Bytes l → Bytes (take n l)
unfolding Bytes
bytes_take zero l h = tt
bytes_take (suc n) [] h = tt
bytes_take (suc n) (b ∷ l) h = (h.0, bytes_take n l h.1)

bytes_drop : (n : ℕ) (l : List ℕ) → Bytes l → Bytes (drop n l)
unfolding Bytes
bytes_drop zero l h = h
bytes_drop (suc n) [] h = tt
bytes_drop (suc n) (b ∷ l) h = bytes_drop n l h.1

bytes-append : (l m : List ℕ) → Bytes l → Bytes m → Bytes (l ++ m)
unfolding Bytes
bytes-append [] m h i = i
bytes-append (b ∷ l) m h i = (h.0, bytes-append l m h.1 i)

bytes-reverse : (l m : List ℕ) → Bytes l → Bytes m → Bytes (reverse_aux l m)
unfolding Bytes
bytes-reverse [] m h i = i
bytes-reverse (b ∷ l) m h i = bytes-reverse l (b ∷ m) h.1 (h.0, i)

-- ---- the low-order byte first

pub length-le : (k x : ℕ) → length (le k x) ≡ k
unfolding le
length-le zero x = refl
length-le (suc k) x = ap suc (length-le k (x / 256))

bytes_le : (k x : ℕ) → Bytes (le k x)
unfolding Bytes le
bytes_le zero x = tt
bytes_le (suc k) x = (omega arith, bytes_le k (x / 256))

value-le : (k x : ℕ) → x < 256 ^ k → le_value (le k x) ≡ x
unfolding le le_value
value-le zero x h = omega arith
value-le (suc k) x h =
    let p : x < 256 ^ k * 256 = subst (λ (n : ℕ). x < n) (pow-suc 256 k) h in
    let e = value-le k (x / 256) (omega arith) in
    omega arith

le-value : (l : List ℕ) → Bytes l → le (length l) (le_value l) ≡ l
unfolding le le_value Bytes
le-value [] h = refl
le-value (b ∷ l) h =
    let s : b < 256 = h.0 in
    let d : (b + 256 * le_value l) / 256 ≡ le_value l = omega arith in
    let m : (b + 256 * le_value l) % 256 ≡ b = omega arith in
    ap₂ (λ (x : ℕ) (r : List ℕ). x ∷ r) m (ap (le (length l)) d ∙ le-value l h.1)

-- ---- the high-order byte first

pub length_be : (k x : ℕ) → length (be k x) ≡ k
unfolding be
length_be k x = length-reverse (le k x) ∙ length-le k x

pub value_be : (k x : ℕ) → x < 256 ^ k → be_value (be k x) ≡ x
unfolding be be_value
value_be k x h = ap le_value (reverse-reverse (le k x)) ∙ value-le k x h

pub be_value_lem : (l : List ℕ) → Bytes l → be (length l) (be_value l) ≡ l
unfolding be be_value Bytes
be_value_lem l h =
    ap (λ (n : ℕ). reverse (le n (le_value (reverse l)))) (sym (length-reverse l))
    ∙ ap reverse (le-value (reverse l) (bytes-reverse l [] h tt))
    ∙ reverse-reverse l

-- ---- the library's bytes and numbers

pub le-bytes : (x : ℕ) → to_le_bytes w64 x ≡ le 8 x
unfolding le
le-bytes x =
    let h2 : x / 65536 ≡ x / 256 / 256 = omega arith in
    let h3 : x / 16777216 ≡ x / 256 / 256 / 256 = omega arith in
    let h4 : x / 4294967296 ≡ x / 256 / 256 / 256 / 256 = omega arith in
    let h5 : x / 1099511627776 ≡ x / 256 / 256 / 256 / 256 / 256 = omega arith in
    let h6 : x / 281474976710656 ≡ x / 256 / 256 / 256 / 256 / 256 / 256 = omega arith in
    let h7 : x / 72057594037927936 ≡ x / 256 / 256 / 256 / 256 / 256 / 256 / 256 = omega arith in
    rw (h2, h3, h4, h5, h6, h7)

pub be-bytes : (x : ℕ) → to_be_bytes w64 x ≡ be 8 x
unfolding be
be-bytes x = ap reverse (le-bytes x)

pub bytes-value : (l : List ℕ) → length l ≡ 8 → from_be_bytes w64 l ≡ be_value l
unfolding be_value le_value
bytes-value [] e = absurd (omega (arith, e))
bytes-value (b0 ∷ []) e = absurd (omega (arith, e))
bytes-value (b0 ∷ b1 ∷ []) e = absurd (omega (arith, e))
bytes-value (b0 ∷ b1 ∷ b2 ∷ []) e = absurd (omega (arith, e))
bytes-value (b0 ∷ b1 ∷ b2 ∷ b3 ∷ []) e = absurd (omega (arith, e))
bytes-value (b0 ∷ b1 ∷ b2 ∷ b3 ∷ b4 ∷ []) e = absurd (omega (arith, e))
bytes-value (b0 ∷ b1 ∷ b2 ∷ b3 ∷ b4 ∷ b5 ∷ []) e = absurd (omega (arith, e))
bytes-value (b0 ∷ b1 ∷ b2 ∷ b3 ∷ b4 ∷ b5 ∷ b6 ∷ []) e = absurd (omega (arith, e))
bytes-value (b0 ∷ b1 ∷ b2 ∷ b3 ∷ b4 ∷ b5 ∷ b6 ∷ b7 ∷ []) e = omega arith
bytes-value (b0 ∷ b1 ∷ b2 ∷ b3 ∷ b4 ∷ b5 ∷ b6 ∷ b7 ∷ b8 ∷ l) e = absurd (omega (arith, e))

-- ---- sixteen bytes

pub length-octets16 : (n : Octets16) → length (octets16 n) ≡ 16
unfolding octets16
length-octets16 n = simp (length-append, length_be)

pub numbers-octets : (n : Octets16) → n.first < 2 ^ 64 → n.second < 2 ^ 64 → numbers16 (octets16 n) ≡ n
unfolding octets16 numbers16
numbers-octets n f s =
    let a = be 8 n.first in
    let b = be 8 n.second in
    let first : be_value (take 8 (a ++ b)) ≡ n.first = ap be_value (take_at a b 8 (length_be 8 n.first)) ∙ value_be 8 n.first f in
    let second : be_value (take 8 (drop 8 (a ++ b))) ≡ n.second =
    ap (λ (l : List ℕ). be_value (take 8 l)) (drop_at a b 8 (length_be 8 n.first))
    ∙ ap be_value (take_all 8 b (omega (arith, length_be 8 n.second)))
    ∙ value_be 8 n.second s in
    rw (first, second)

pub octets-numbers : (l : List ℕ) → length l ≡ 16 → Bytes l → octets16 (numbers16 l) ≡ l
unfolding octets16 numbers16
octets-numbers l e h =
    let r = drop 8 l in
    let a : be 8 (be_value (take 8 l)) ≡ take 8 l =
    rw (length-take-le 8 l (omega arith)) at (be_value_lem (take 8 l) (bytes_take 8 l h)) in
    let n : length r ≡ 8 = omega (arith, length-drop 8 l) in
    let b : be 8 (be_value r) ≡ r = rw n at (be_value_lem r (bytes_drop 8 l h)) in
    let t : take 8 r ≡ r = take_all 8 r (omega arith) in
    ap₂ (λ (x y : List ℕ). x ++ y) a (ap (λ (y : List ℕ). be 8 (be_value y)) t ∙ b) ∙ take-append-drop 8 l

-- ---- a digest

output_bytes : (m : List ℕ) → Bytes (digest_of m)
unfolding digest_of output_of
output_bytes m =
    bytes-append (le 4 _) _ (bytes_le 4 _)
    (bytes-append (le 4 _) _ (bytes_le 4 _) (bytes-append (le 4 _) (le 4 _) (bytes_le 4 _) (bytes_le 4 _)))

pub length-digest : (m : List ℕ) → length (digest_of m) ≡ 16
unfolding digest_of output_of
length-digest m = simp (length-append, length-le)

-- two registers in a row
pub value-words : (a b : ℕ) (l : List ℕ) → be_value (take 8 (le 4 a ++ (le 4 b ++ l))) ≡ be_value (le 4 a) * 4294967296 + be_value (le 4 b)
unfolding le be_value le_value
value-words a b l = omega arith

pub numbers_output : (s : Regs)
    → ◌≡◌ {A = Octets16}
    (record {
      first = be_value (le 4 s.a) * 4294967296 + be_value (le 4 s.b);
      second = be_value (le 4 s.c) * 4294967296 + be_value (le 4 s.d);
    })
    (numbers16 (output_of s))
unfolding numbers16 output_of le
numbers_output s =
    let first = value-words s.a s.b (le 4 s.c ++ le 4 s.d) in
    let second = value-words s.c s.d [] in
    ap₂ (λ (x y : ℕ). record { first = x; second = y }) (sym first) (sym second)

-- ---- sixteen bytes at a place
pub numbers_at : (s : List ℕ) (at : ℕ) → at + 16 ≤ length s
    → ◌≡◌ {A = Octets16}
    (record { first = be_value (take 8 (drop at s)); second = be_value (take 8 (drop (at + 8) s)) })
    (numbers16 (take 16 (drop at s)))
unfolding numbers16
numbers_at s at h =
    let l = drop at s in
    let n : length (take 8 l) ≡ 8 = length-take-le 8 l (omega (arith, length-drop at s)) in
    let second : take 8 (drop 8 (take 16 l)) ≡ take 8 (drop (at + 8) s) =
    ap (λ (r : List ℕ). take 8 (drop 8 r)) (take-add 8 8 l)
    ∙ ap (take 8) (drop_at (take 8 l) (take 8 (drop 8 l)) 8 n)
    ∙ take-take 8 8 (drop 8 l) (omega arith)
    ∙ ap (take 8) (drop-drop 8 at s) in
    ap₂ (λ (x y : List ℕ). record { first = be_value x; second = be_value y }) (sym (take-take 8 16 l (omega arith))) (sym second)

-- a digest's value has the digest's bytes
pub octets-digest : (m : List ℕ) → octets16 (numbers16 (digest_of m)) ≡ digest_of m
octets-digest m = octets-numbers (digest_of m) (length-digest m) (output_bytes m)

-- sixteen bytes stored in front of a colon
pub colon_prefix : (n : Octets16) → paste (replicate 17 0x3A) 0 (octets16 n) 16 ≡ octets16 n ++ (0x3A ∷ [])
colon_prefix n = ap (λ (l : List ℕ). l ++ (0x3A ∷ [])) (take_all 16 (octets16 n) (omega (arith, length-octets16 n)))
