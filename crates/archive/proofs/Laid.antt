-- Bytes laid into a target one part after the other. Assumes nothing.
use mathlib.Core.Path.{◌≡◌, refl, sym, ap, ap₂, ◌∙◌}
use mathlib.Core.Bool.{Bool}
use mathlib.Core.List.{List, ◌++◌, append_assoc}
use Prim.Native.Nat.{ℕ, zero, suc, ◌+◌, ◌-◌, ◌≤◌}
use native.Mathlib.Nat.{add_assoc}
use native.Mathlib.Omega.{arith}
use lib.ListN.{length, take, drop, replicate, length-append, length-replicate}
use lib.Seq.{paste, take_at, drop_at, take-length, take_all, drop-drop, take-add, length-take-le, take-paste, drop-paste}
use Rattle.archive.specs.Block.{head_of, checked}
use Rattle.archive.specs.Writing.{front}

-- two parts laid behind one another are both laid at once
pub parts-laid : (d p q : List ℕ) (at m n : ℕ) → length p ≡ m → length q ≡ n → at + m + n ≤ length d
    → paste (paste d at p m) (at + m) q n ≡ paste d at (p ++ q) (m + n)
parts-laid d p q at m n lp lq h =
    let a : take (at + m) (paste d at p m) ≡ take at d ++ p =
    take-paste d at p m (omega arith) (omega arith) ∙ ap (λ (r : List ℕ). take at d ++ r) (take_all m p (omega arith)) in
    let b : drop (at + m + n) (paste d at p m) ≡ drop (at + (m + n)) d =
    sym (drop-drop n (at + m) (paste d at p m)) ∙ ap (drop n) (drop-paste d at p m (omega arith) (omega arith)) ∙ drop-drop n (at + m) d
    ∙ ap (λ (i : ℕ). drop i d) (add_assoc at m n) in
    let l : length (p ++ q) ≡ m + n = omega (arith, length-append p q) in
    rw (a, b, take_all n q (omega arith), take_all (m + n) (p ++ q) (omega arith), append_assoc (take at d) p q)

-- a part laid behind what stands at the front of a target, whose rest is that of `d₀`
pub front-more : (q d₀ d p : List ℕ) (at n : ℕ) → d ≡ q ++ drop at d₀ → length q ≡ at → length p ≡ n → at + n ≤ length d₀
    → paste d at p n ≡ (q ++ p) ++ drop (at + n) d₀
front-more q d₀ d p at n is size part room =
    let a : take at d ≡ q = ap (take at) is ∙ take_at q (drop at d₀) at size in
    let b : drop (at + n) d ≡ drop (at + n) d₀ =
    sym (drop-drop n at d) ∙ ap (λ (r : List ℕ). drop n (drop at r)) is ∙ ap (drop n) (drop_at q (drop at d₀) at size) ∙ drop-drop n at d₀ in
    rw (a, b, take_all n p (omega arith))

-- the next part of a list whose front was laid so far
pub front_longer : (all d₀ d p : List ℕ) (at n : ℕ) → d ≡ take at all ++ drop at d₀ → at ≤ length all → length p ≡ n → at + n ≤ length d₀
    → take n (drop at all) ≡ p → paste d at p n ≡ take (at + n) all ++ drop (at + n) d₀
front_longer all d₀ d p at n is room size fits e =
    rw (take-add at n all, e) (front-more (take at all) d₀ d p at n is (length-take-le at all room) size fits)

-- all of it at the front
pub front-whole : (all d₀ : List ℕ) (n : ℕ) → n ≡ length all → take n all ++ drop n d₀ ≡ front all d₀
front-whole all d₀ n e = rw (e, take-length all)

-- a head and a payload laid on zeros are what a block's check is of
zeros-drop : (n m : ℕ) → drop {A = ℕ} n (replicate m 0) ≡ replicate (m - n) 0
zeros-drop zero m =
    let e : m ≡ m - 0 = omega arith in
    ap (λ (i : ℕ). replicate {A = ℕ} i 0) e
zeros-drop (suc n) zero =
    let e : 0 ≡ 0 - suc n = omega arith in
    ap (λ (i : ℕ). replicate {A = ℕ} i 0) e
zeros-drop (suc n) (suc m) =
    let e : m - n ≡ suc m - suc n = omega arith in
    zeros-drop n m ∙ ap (λ (i : ℕ). replicate {A = ℕ} i 0) e

pub checked-laid : (l : Bool) (k : ℕ) (p : List ℕ) (m : ℕ) → length p ≤ 490 → m ≡ 496
    → paste (paste (replicate m 0) 0 (head_of l k (length p)) 6) (0 + 6) p (length p) ≡ checked l k p
unfolding checked
checked-laid l k p m h e =
    let n = length p in
    let q = head_of l k n ++ p in
    let z : m - (6 + n) ≡ 490 - n = omega arith in
    let i : 0 + (6 + n) ≡ 6 + n = omega arith in
    let size = length-replicate {A = ℕ} m 0 in
    parts-laid (replicate m 0) (head_of l k n) p 0 6 n refl refl (omega arith)
    ∙ ap₂ (λ (u v : List ℕ). u ++ v) (take_all (6 + n) q (omega (arith, length-append (head_of l k n) p)))
    (ap (λ (j : ℕ). drop {A = ℕ} j (replicate m 0)) i ∙ zeros-drop (6 + n) m ∙ ap (λ (j : ℕ). replicate {A = ℕ} j 0) z)
