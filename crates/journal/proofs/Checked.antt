-- The window's set bits are the wrong checks among the last 64 of the history, and after at most 57 stops a Connect comes to a check again.
-- Assumes nothing.
use mathlib.Core.Path.{◌≡◌, refl, sym, ap, ◌∙◌, subst}
use mathlib.Core.Bool.{Bool, true, false, true≢false}
use mathlib.Core.List.{List, [], ◌∷◌, ◌++◌}
use Prim.Native.Nat.{ℕ, zero, suc, ◌+◌, ◌-◌, ◌*◌, ◌/◌, ◌%◌, ◌^◌, ◌<◌, ◌≤◌}
use native.Mathlib.Nat.{pow-suc, mod-one, zero-mod}
use native.Mathlib.Omega.{arith}
use borrow.Author.Tests.{lt-leb, leb-true, leb-false}
use lib.Arith.{mod-mul}
use lib.Count.{ones, ones_step}
use lib.Dec.{leb}
use lib.ListN.{take, replicate}
use lib.Pow.{pow_pos}
use Rattle.journal.specs.Checks.{Check, stop, is_wrong, bit, wrongs, too_many_of, window_of, Ruled}

-- the history as one number, the latest check its lowest digit
whole : List Check → ℕ
whole [] = 0
whole (c ∷ h) = whole h * 2 + bit (is_wrong c)

bit-low : (b : Bool) → bit b < 2
bit-low true = omega arith
bit-low false = omega arith

window_whole : (h : List Check) → window_of h ≡ whole h % 2 ^ 64
unfolding window_of whole
window_whole [] = refl
window_whole (c ∷ h) = let e = window_whole h in omega (arith, bit-low (is_wrong c))

-- its n lowest digits are the last n checks
lowest : (n : ℕ) (h : List Check) → whole (take n h) ≡ whole h % 2 ^ n
unfolding whole
lowest zero h = sym (mod-one (whole h))
lowest (suc n) [] = sym (zero-mod (2 ^ suc n))
lowest (suc n) (c ∷ h) =
    let x = whole h * 2 + bit (is_wrong c) in
    let q : x / 2 ≡ whole h = omega (arith, bit-low (is_wrong c)) in
    let r : x % 2 ≡ bit (is_wrong c) = omega (arith, bit-low (is_wrong c)) in
    let e : x % 2 ^ suc n ≡ x / 2 % 2 ^ n * 2 + x % 2 = rw (pow-suc 2 n) (mod-mul x {m = 2 ^ n} {c = 2} (pow_pos n) (omega arith)) in
    sym (e ∙ rw (q, r, ← lowest n h))

ones-whole : (h : List Check) → ones (whole h) ≡ wrongs h
unfolding whole wrongs ones
ones-whole [] = refl
ones-whole (c ∷ h) =
    let x = whole h * 2 + bit (is_wrong c) in
    let q : x / 2 ≡ whole h = omega (arith, bit-low (is_wrong c)) in
    let r : x % 2 ≡ bit (is_wrong c) = omega (arith, bit-low (is_wrong c)) in
    ones_step x ∙ rw (q, r, ones-whole h)

-- the window of the history from the start counts its last 64
pub counts : (h : List Check) → ones (window_of h) ≡ wrongs (take 64 h)
counts h = ap ones (window_whole h ∙ sym (lowest 64 h)) ∙ ones-whole (take 64 h)

-- ---- 57 stops

wrongs-few : (n : ℕ) (h : List Check) → wrongs (take n h) ≤ n
unfolding wrongs
wrongs-few zero h = omega arith
wrongs-few (suc n) [] = omega arith
wrongs-few (suc n) (c ∷ h) = omega (arith, bit-low (is_wrong c), wrongs-few n h)

-- behind n stops the last n + k are those of the history's last k
behind : (n k : ℕ) (h : List Check) → wrongs (take (n + k) (replicate n stop ++ h)) ≡ wrongs (take k h)
unfolding wrongs
behind zero k h = let e : 0 + k ≡ k = omega arith in ap (λ (m : ℕ). wrongs (take m h)) e
behind (suc n) k h =
    let e : suc n + k ≡ suc (n + k) = omega arith in
    let z : wrongs (take (suc (n + k)) (stop ∷ (replicate n stop ++ h))) ≡ wrongs (take k h) = omega (arith, behind n k h) in
    ap (λ (m : ℕ). wrongs (take m (stop ∷ (replicate n stop ++ h)))) e ∙ z

-- after 57 stops the test is passed, whatever the history
pub passes-after : (h : List Check) → too_many_of (replicate 57 stop ++ h) ≡ false
unfolding too_many_of
passes-after h = lt-leb 8 (wrongs (take 64 (replicate 57 stop ++ h))) (omega (arith, behind 57 7 h, wrongs-few 7 h))

-- so no history that keeps the rule has 58 in a row
pub at_most_57 : (h : List Check) → Ruled (replicate 58 stop ++ h) → ⊥
at_most_57 h r = true≢false (sym r.0 ∙ passes-after h)

replicate_more : (n m : ℕ) (h : List Check) → replicate (n + m) stop ++ h ≡ replicate n stop ++ (replicate m stop ++ h)
replicate_more zero m h = let e : 0 + m ≡ m = omega arith in ap (λ (k : ℕ). replicate k stop ++ h) e
replicate_more (suc n) m h =
    let e : suc n + m ≡ suc (n + m) = omega arith in
    ap (λ (k : ℕ). replicate k stop ++ h) e ∙ ap (λ (l : List Check). stop ∷ l) (replicate_more n m h)

-- the same by number: of the latest checks of such a history at most 57 are stops
pub few-stops : (n : ℕ) (h : List Check) → Ruled (replicate n stop ++ h) → n ≤ 57
few-stops n h r = go (leb n 57) refl
  where
    go : (t : Bool) → leb n 57 ≡ t → n ≤ 57
    go true e = leb-true _ _ e
    go false e =
        let l : 57 < n = leb-false _ _ e in
        let k : 58 + (n - 58) ≡ n = omega arith in
        absurd (at_most_57 (replicate (n - 58) stop ++ h)
        (subst Ruled (ap (λ (m : ℕ). replicate m stop ++ h) (sym k) ∙ replicate_more 58 (n - 58) h) r))
