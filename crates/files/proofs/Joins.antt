-- The path of a name in a folder, laid part by part; bytes as digits, pair by pair. Assumes nothing.
use mathlib.Core.Path.{◌≡◌, refl, sym, ap, ◌∙◌}
use mathlib.Core.List.{List, [], ◌∷◌, ◌++◌, append_assoc}
use mathlib.Core.Bool.{true, false}
use Prim.Native.Nat.{ℕ, ◌+◌, ◌-◌, ◌*◌, ◌/◌, ◌%◌, ◌≤◌, ◌<◌}
use native.Mathlib.Omega.{arith}
use native.Mathlib.Numerals.{add-one}
use lib.ListN.{length, get_or, take, drop, set, replicate, length-append}
use lib.Seq.{take-suc, take_at, length-take-le}
use borrow.Author.Tests.{leb-true}
use Rattle.digest.specs.Md5.{octets16}
use Rattle.digest.proofs.Octets.{length-octets16}
use Rattle.table.specs.Targets.{is_named}
use Rattle.table.specs.declared.targets.Target.{Target}
use Rattle.packet.specs.Placed.{laid}
use Rattle.packet.proofs.Laid.{laid-append, length-laid, set_more}
use Rattle.files.specs.Path.{in_folder, hex_digit, hex_of, service_word, service_folder}
use Rattle.files.proofs.Fitted.{laid-front}

-- ---- a folder and a name

pub joined-name : (f n : List ℕ) → length f ≡ 0 → in_folder f n ≡ n
unfolding in_folder
joined-name [] n e = refl
joined-name (b ∷ f) n e = absurd (omega arith)

pub joined-both : (f n : List ℕ) → (length f ≡ 0 → ⊥) → in_folder f n ≡ f ++ (0x2F ∷ n)
unfolding in_folder
joined-both [] n h = absurd (h refl)
joined-both (b ∷ f) n h = refl

pub joined-size : (f n : List ℕ) → (length f ≡ 0 → ⊥) → length (in_folder f n) ≡ length f + 1 + length n
joined-size f n h = ap length (joined-both f n h) ∙ length-append f (0x2F ∷ n) ∙ omega arith

pub joined-least : (f n : List ℕ) → length n ≤ length (in_folder f n)
unfolding in_folder
joined-least [] n = omega arith
joined-least (b ∷ f) n = omega (arith, length-append f (0x2F ∷ n))

-- the folder, the slash and the name laid one behind the other
pub joined-laid : (d f n p q : List ℕ) → (length f ≡ 0 → ⊥) → length f + 1 + length n ≤ length d
    → p ≡ laid d 0 f → q ≡ laid (set p (length f) 0x2F) (length f + 1) n → q ≡ laid d 0 (in_folder f n)
joined-laid d f n p q h room e g =
    let l : length (f ++ (0x2F ∷ [])) ≡ length f + 1 = length-append f (0x2F ∷ []) in
    let a : set p (length f) 0x2F ≡ laid d 0 (f ++ (0x2F ∷ [])) =
    ap (λ (s : List ℕ). set s (length f) 0x2F) e ∙ set_more d f 0 (length f) 0x2F (omega arith) (omega arith) in
    g ∙ ap (λ (s : List ℕ). laid s (length f + 1) n) a ∙ laid-append d (f ++ (0x2F ∷ [])) n 0 (length f + 1) (omega (arith, l)) room
    ∙ ap (laid d 0) (append_assoc f (0x2F ∷ []) n ∙ sym (joined-both f n h))

-- and the store is as long as it was
pub joined_length : (d f n p q : List ℕ) → (length f ≡ 0 → ⊥) → length f + 1 + length n ≤ length d
    → p ≡ laid d 0 f → q ≡ laid (set p (length f) 0x2F) (length f + 1) n → length q ≡ length d
joined_length d f n p q h room e g =
    ap length (joined-laid d f n p q h room e g) ∙ length-laid d (in_folder f n) 0 (omega (arith, joined-size f n h))

-- ---- digits

pub hex_size : (s : List ℕ) → length (hex_of s) ≡ 2 * length s
unfolding hex_of
hex_size [] = refl
hex_size (b ∷ s) = omega (arith, hex_size s)

hex_append : (s t : List ℕ) → hex_of (s ++ t) ≡ hex_of s ++ hex_of t
unfolding hex_of
hex_append [] t = refl
hex_append (b ∷ s) t = rw (hex_append s t) refl

abbrev pub pair_of : ℕ → List ℕ
pair_of b = hex_digit (b / 16 % 16) ∷ hex_digit (b % 16) ∷ []

pub hex_next : (s : List ℕ) (i : ℕ) → i < length s → hex_of (take (i + 1) s) ≡ hex_of (take i s) ++ pair_of (get_or s i 0)
unfolding hex_of
hex_next s i h = ap hex_of (ap (λ (k : ℕ). take k s) (add-one i) ∙ take-suc s i 0 h) ∙ hex_append (take i s) (get_or s i 0 ∷ [])

-- one pair more behind those of the first `i` bytes
pub pair-laid : (d s out pair out' : List ℕ) (at i : ℕ) → i < length s → at + 2 * length s ≤ length d → out ≡ laid d at (hex_of (take i s))
    → pair ≡ pair_of (get_or s i 0) → out' ≡ laid out (at + 2 * i) pair → out' ≡ laid d at (hex_of (take (i + 1) s))
pair-laid d s out pair out' at i h room e p q =
    let l = hex_size (take i s) in
    let m = length-take-le i s (omega arith) in
    q ∙ ap (λ (o : List ℕ). laid o (at + 2 * i) pair) e ∙ ap (laid (laid d at (hex_of (take i s))) (at + 2 * i)) p
    ∙ laid-append d (hex_of (take i s)) (pair_of (get_or s i 0)) at (at + 2 * i) (omega (arith, l, m)) (omega arith)
    ∙ ap (laid d at) (sym (hex_next s i h))

-- ---- the folder of a service

pub named-short : (g : Target) → is_named g ≡ true → g.length ≤ 16
unfolding is_named
named-short g e = leb-true g.length 16 e

pub mark_folder : (g : Target) → is_named g ≡ false → [] ≡ service_folder g
unfolding service_folder
mark_folder g e = rw e refl

-- how long the part of the sixteen bytes is that is written
pub part-size : (g : Target) (b : List ℕ) → is_named g ≡ true → b ≡ octets16 g.bytes → g.length ≤ length b
part-size g b e p = omega (arith, named-short g e, ap length p, length-octets16 g.bytes)

pub folder_laid : (g : Target) (b p q : List ℕ) → is_named g ≡ true → b ≡ octets16 g.bytes → p ≡ laid (replicate 40 0) 0 service_word
    → q ≡ laid p 8 (hex_of (take (g.length - 0) (drop 0 b))) → take (8 + 2 * g.length) q ≡ service_folder g
unfolding service_folder
folder_laid g b p q e o u v =
    let n = g.length in
    let z : n - 0 ≡ n = omega arith in
    let h = hex_of (take n b) in
    let t = service_word ++ h in
    let l : length h ≡ 2 * n = hex_size (take n b) ∙ ap (λ (k : ℕ). 2 * k) (length-take-le n b (part-size g b e o)) in
    let m : length t ≡ 8 + 2 * n = length-append service_word h ∙ ap (λ (k : ℕ). 8 + k) l in
    let w : q ≡ t ++ drop (length t) (replicate 40 0) =
    v ∙ ap (λ (k : ℕ). laid p 8 (hex_of (take k b))) z ∙ ap (λ (s : List ℕ). laid s 8 h) u
    ∙ laid-append (replicate 40 0) service_word h 0 8 refl (omega (arith, l, named-short g e)) ∙ laid-front (replicate 40 0) t in
    ap (take (8 + 2 * n)) w ∙ take_at t (drop (length t) (replicate 40 0)) (8 + 2 * n) m
    ∙ ap (λ (s : List ℕ). service_word ++ hex_of (take n s)) o ∙ sym (rw e refl)
