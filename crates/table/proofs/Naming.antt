-- A Target by its bytes, and the Targets in the table store by their places. Assumes nothing.
use mathlib.Core.Path.{◌≡◌, refl, sym, ap, ◌∙◌, subst}
use mathlib.Core.Bool.{Bool, true, false}
use mathlib.Core.List.{List, [], ◌∷◌, ◌++◌}
use mathlib.Core.Option.{Option, none, some}
use Prim.Native.Nat.{ℕ, zero, suc, ◌+◌, ◌-◌, ◌≤◌, ◌<◌}
use native.Mathlib.Omega.{arith}
use borrow.Author.Tests.{leb-true}
use lib.Dec.{leb}
use lib.ListN.{length, get_or, set, take, drop, replicate, length-append, length-take, length-drop, length-replicate, length-set, replicate-append-replicate}
use lib.Seq.{paste, get_or-drop, drop-drop, drop-append-add, length-take-le, take-length, take_all, drop_at, get_or-set_same, get_or-set_other, take-set-le, take-append_seam}
use Rattle.base.specs.Pick.{pick}
use Rattle.digest.specs.Md5.{numbers16}
use Rattle.digest.specs.declared.md5.Octets16.{Octets16}
use Rattle.digest.proofs.Octets.{are_bytes, octets-numbers}
use Rattle.table.specs.Nonces.{pushed, pushed_at, remembered_with}
use Rattle.table.specs.declared.targets.Target.{Target}
use Rattle.table.specs.Targets.{target, unnamed, target_bytes, target_by, target_at, target_set}

-- every number is a byte
abbrev Octets : List ℕ → Type 0
Octets l = (k : ℕ) → get_or l k 0 < 256

pub unnamed-bytes : target_bytes unnamed ≡ none
unfolding target_bytes
unnamed-bytes = refl

-- bytes, filled up with zeros
filled : (v : List ℕ) (n : ℕ) → Octets v → Octets (v ++ replicate n 0)
filled [] zero h k = omega arith
filled [] (suc n) h zero = omega arith
filled [] (suc n) h (suc k) = filled [] n h k
filled (x ∷ v) n h zero = h 0
filled (x ∷ v) n h (suc k) = filled v n (λ i. h (suc i)) k

-- bytes copied over sixteen zeros are those filled up with zeros
pub pasted_zeros : (v : List ℕ) → length v ≤ 16
    → take 16 (drop 0 (paste (replicate 16 0) 0 v (length v))) ≡ v ++ replicate (16 - length v) 0
pasted_zeros v h =
    let n : length v ≡ 0 + length v = omega arith in
    let m : 16 ≡ length v + (16 - length v) = omega arith in
    let l : length (v ++ replicate (16 - length v) 0) ≡ 16 =
    omega (arith, length-append v (replicate (16 - length v) 0), length-replicate {A = ℕ} (16 - length v) 0) in
    ap (λ (y : List ℕ). take 16 (y ++ drop (0 + length v) (replicate 16 0))) (take-length v)
    ∙ ap (λ (k : ℕ). take 16 (v ++ drop k (replicate 16 0))) (sym n)
    ∙ ap (λ (y : List ℕ). take 16 (v ++ y)) (ap (λ (k : ℕ). drop (length v) (replicate k 0)) m ∙ dropped (length v) (16 - length v))
    ∙ take_all 16 (v ++ replicate (16 - length v) 0) (omega (arith, l))
  where
    dropped : (i k : ℕ) → drop i (replicate {A = ℕ} (i + k) 0) ≡ replicate k 0
    dropped i k =
        ap (drop i) (sym (replicate-append-replicate i k 0)) ∙ drop_at (replicate i 0) (replicate k 0) i (length-replicate i 0)

-- up to 16 bytes
abbrev pub up_to16 : List ℕ → Option (List ℕ)
up_to16 v = pick (leb (length v) 16) (some v) none

-- the Target of some bytes has these bytes, if there are no more than 16
pub target-bytes : (v : List ℕ) → ((k : ℕ) → get_or v k 0 < 256) → target_bytes (target_by v) ≡ up_to16 v
unfolding target_bytes target_by
target-bytes v h = go (leb (length v) 16) refl
  where
    go : (b : Bool) → leb (length v) 16 ≡ b
        → target_bytes (pick b (target (length v) (numbers16 (v ++ replicate (16 - length v) 0))) unnamed) ≡ pick b (some v) none
    go true e =
        let l : length v ≤ 16 = leb-true _ _ e in
        let z : List ℕ = replicate (16 - length v) 0 in
        let n : length (v ++ z) ≡ 16 = omega (arith, length-append v z, length-replicate {A = ℕ} (16 - length v) 0) in
        rw (e, octets-numbers (v ++ z) n (are_bytes (v ++ z) (filled v (16 - length v) h)), take-append_seam v z) refl
    go false e = refl

-- ---- one Target is stored

module _ (t : List ℕ) (i : ℕ) (g : Target) where
  pub length-target-set : length (target_set t i g) ≡ length t
  unfolding target_set
  length-target-set = simp length-set

  -- the numbers in front of the columns stay
  pub target-set-front : (n : ℕ) → n ≤ 128 → take n (target_set t i g) ≡ take n t
  unfolding target_set
  target-set-front n h =
      take-set-le n _ (256 + i) _ (omega arith) ∙ take-set-le n _ (192 + i) _ (omega arith) ∙ take-set-le n t (128 + i) _ (omega arith)

  pub target-stands : i < 64 → 320 ≤ length t → target_at (target_set t i g) i ≡ g
  unfolding target_set target_at
  target-stands h l =
      let a = set t (128 + i) g.length in
      let b = set a (192 + i) g.bytes.first in
      let n : get_or (set b (256 + i) g.bytes.second) (128 + i) 0 ≡ g.length =
      get_or-set_other b (256 + i) (128 + i) _ 0 (λ e. omega arith) ∙ get_or-set_other a (192 + i) (128 + i) _ 0 (λ e. omega arith)
      ∙ get_or-set_same t (128 + i) g.length 0 (omega arith) in
      let f : get_or (set b (256 + i) g.bytes.second) (192 + i) 0 ≡ g.bytes.first =
      get_or-set_other b (256 + i) (192 + i) _ 0 (λ e. omega arith)
      ∙ get_or-set_same a (192 + i) g.bytes.first 0 (omega (arith, length-set t (128 + i) g.length)) in
      let s : get_or (set b (256 + i) g.bytes.second) (256 + i) 0 ≡ g.bytes.second =
      get_or-set_same b (256 + i) g.bytes.second 0
      (omega (arith, length-set t (128 + i) g.length, length-set a (192 + i) g.bytes.first)) in
      rw (n, f, s) refl

  pub target-stays : (k : ℕ) → i < 64 → k < 64 → (k ≡ i → ⊥) → target_at (target_set t i g) k ≡ target_at t k
  unfolding target_set target_at
  target-stays k h l ne =
      let a = set t (128 + i) g.length in
      let b = set a (192 + i) g.bytes.first in
      let far : (c : ℕ) → (c + k ≡ 128 + i → ⊥) → (c + k ≡ 192 + i → ⊥) → (c + k ≡ 256 + i → ⊥)
      → get_or (set b (256 + i) g.bytes.second) (c + k) 0 ≡ get_or t (c + k) 0 =
      λ c p q r. get_or-set_other b (256 + i) (c + k) _ 0 r ∙ get_or-set_other a (192 + i) (c + k) _ 0 q ∙ get_or-set_other t (128 + i) (c + k) _ 0 p in
      rw (
        far 128 (λ e. ne (omega arith)) (λ e. omega arith) (λ e. omega arith),
        far 192 (λ e. omega arith) (λ e. ne (omega arith)) (λ e. omega arith),
        far 256 (λ e. omega arith) (λ e. omega arith) (λ e. ne (omega arith)),
      ) refl

-- ---- what stands in front of the columns plays no part

pub behind-targets : (t u : List ℕ) → drop 128 t ≡ drop 128 u → (i : ℕ) → target_at t i ≡ target_at u i
unfolding target_at
behind-targets t u e i =
    let b : (c : ℕ) → 128 ≤ c → get_or t (c + i) 0 ≡ get_or u (c + i) 0 =
    λ c h.
    let k : 128 + (c - 128 + i) ≡ c + i = omega arith in
    subst (λ (m : ℕ). get_or t m 0 ≡ get_or u m 0) k
    (sym (get_or-drop 128 t (c - 128 + i) 0) ∙ ap (λ (l : List ℕ). get_or l (c - 128 + i) 0) e ∙ get_or-drop 128 u (c - 128 + i) 0) in
    rw (b 128 (omega arith), b 192 (omega arith), b 256 (omega arith)) refl

-- a nonce more in front of its part leaves what stands behind it
pushed-behind : (at x : ℕ) (t : List ℕ) → at + 32 ≤ length t → drop (at + 32) (pushed_at at x t) ≡ drop (at + 32) t
pushed-behind at x t h =
    let n : length (take at t) ≡ at = length-take-le at t (omega arith) in
    let q = pushed x (take 32 (drop at t)) in
    let m : length q ≡ 32 =
    omega (arith, length-take (length (take 32 (drop at t))) (x ∷ take 32 (drop at t)), length-take 32 (drop at t), length-drop at t) in
    ap (λ (k : ℕ). drop (k + 32) (pushed_at at x t)) (sym n) ∙ drop-append-add (take at t) (q ++ drop 32 (drop at t)) 32
    ∙ drop_at q (drop 32 (drop at t)) 32 m ∙ drop-drop 32 at t

length-pushed : (at x : ℕ) (t : List ℕ) → at + 32 ≤ length t → length (pushed_at at x t) ≡ length t
length-pushed at x t h =
    let l = take 32 (drop at t) in
    omega (
      arith,
      length-append (take at t) (pushed x l ++ drop 32 (drop at t)),
      length-append (pushed x l) (drop 32 (drop at t)),
      length-take at t,
      length-take (length l) (x ∷ l),
      length-take 32 (drop at t),
      length-drop at t,
      length-drop 32 (drop at t),
    )

pub remembered-targets : (n : Octets16) (t : List ℕ) → 128 ≤ length t → (i : ℕ) → target_at (remembered_with n t) i ≡ target_at t i
unfolding remembered_with
remembered-targets n t h i =
    let u = pushed_at 64 n.first t in
    let e : drop 128 u ≡ drop 128 t =
    sym (drop-drop 32 96 u) ∙ ap (drop 32) (pushed-behind 64 n.first t (omega arith)) ∙ drop-drop 32 96 t in
    behind-targets (pushed_at 96 n.second u) t
    (pushed-behind 96 n.second u (omega (arith, length-pushed 64 n.first t (omega arith))) ∙ e) i
