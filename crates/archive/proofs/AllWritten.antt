-- All blocks of a body: how many there are, which one comes next, how they are laid into a target one after the other, and the tests of
-- `write`. Assumes nothing.
use mathlib.Core.Path.{◌≡◌, refl, sym, ap, ◌∙◌}
use mathlib.Core.Bool.{Bool, true, false}
use mathlib.Core.List.{List, ◌++◌}
use Prim.Native.Nat.{ℕ, zero, suc, ◌+◌, ◌-◌, ◌*◌, ◌/◌, ◌≤◌, ◌<◌}
use native.Mathlib.Omega.{arith}
use lib.Dec.{eqb}
use lib.ListN.{length, take, drop, length-append, length-drop, length-take}
use lib.Seq.{paste, take_all, take_at, drop_at, drop-drop, length-take-le}
use borrow.Author.Tests.{eqb-true, eqb-false, lt-ltb, le-ltb}
use Rattle.archive.specs.Block.{longest, block}
use Rattle.archive.specs.Writing.{block_count, blocks_from, blocks_of, front, writing, written}
use Rattle.std.specs.Prelude.{Ok, Err}
use Rattle.archive.specs.declared.block.WriteError.TheVariants.{Short, TooLong}
use Rattle.archive.proofs.OneBlock.{length-block}
use Rattle.archive.proofs.Laid.{front_longer, front-whole}

-- ---- how many there are

-- the last block has room for what the full ones leave, and they leave something, unless the body is empty
pub record Counted (n : ℕ) : Type 0 where
  pub some : 0 < block_count n
  pub enough : n ≤ 490 * block_count n
  pub full : 490 * (block_count n - 1) ≤ n
  pub filled : 0 < n → 490 * (block_count n - 1) < n
  pub empty : n ≡ 0 → block_count n ≡ 1

pub counted : (n : ℕ) → Counted n
unfolding block_count
counted n = go (eqb n 0) refl
  where
    go : (t : Bool) → eqb n 0 ≡ t → Counted n
    go true e =
        let z = eqb-true n 0 e in
        let b : block_count n ≡ 1 = rw e in
        record { some = omega arith; enough = omega arith; full = omega arith; filled = λ h. omega arith; empty = λ h. b }
    go false e =
        let z = eqb-false n 0 e in
        let b : block_count n ≡ (n + 489) / 490 = rw e in
        record { some = omega arith; enough = omega arith; full = omega arith; filled = λ h. omega arith; empty = λ h. absurd (z h) }

-- ---- one after the other

-- the first block of a run that has more
pub more : (m k : ℕ) (b : List ℕ) → blocks_from (suc m) k b ≡ block false k (take 490 b) ++ blocks_from m (k + 1) (drop 490 b)
unfolding blocks_from
more m k b = refl

pub length-blocks : (m k : ℕ) (b : List ℕ) → 490 * m ≤ length b → length b ≤ 490 * (m + 1) → length (blocks_from m k b) ≡ 512 * (m + 1)
unfolding blocks_from
length-blocks zero k b h j = length-block true k b (omega arith)
length-blocks (suc m) k b h j =
    let t = length-take-le 490 b (omega arith) in
    let d = length-drop 490 b in
    omega (
      arith,
      length-append (block false k (take 490 b)) (blocks_from m (k + 1) (drop 490 b)),
      length-block false k (take 490 b) (omega arith),
      length-blocks m (k + 1) (drop 490 b) (omega arith) (omega arith),
    )

pub length-all : (b : List ℕ) → length (blocks_of b) ≡ 512 * block_count (length b)
unfolding blocks_of
length-all b =
    let c = counted (length b) in
    let e = length-blocks (block_count (length b) - 1) 0 b c.full (omega arith) in
    omega arith

-- `k` blocks of the body `b` are passed, `m` full ones and the last are left
pub Left : List ℕ → ℕ → ℕ → Type 0
Left b k m = drop (512 * k) (blocks_of b) ≡ blocks_from m k (drop (490 * k) b)

pub left-all : (b : List ℕ) → Left b 0 (block_count (length b) - 1)
unfolding Left blocks_of
left-all b = refl

-- the next full block, and what is left behind it
module _ (b : List ℕ) (k m : ℕ) (h : 490 * k + 490 ≤ length b) (e : Left b k (suc m)) where
  abbrev next : List ℕ
  next = block false k (take 490 (drop (490 * k) b))

  length-next : length next ≡ 512
  length-next = length-block false k (take 490 (drop (490 * k) b)) (omega (arith, length-take 490 (drop (490 * k) b)))

  split : drop (512 * k) (blocks_of b) ≡ next ++ blocks_from m (k + 1) (drop 490 (drop (490 * k) b))
  unfolding Left
  split = e ∙ more m k (drop (490 * k) b)

  pub left-next : take 512 (drop (512 * k) (blocks_of b)) ≡ next
  left-next = ap (take 512) split ∙ take_at next (blocks_from m (k + 1) (drop 490 (drop (490 * k) b))) 512 length-next

  pub left-more : Left b (k + 1) m
  unfolding Left
  left-more =
      let i : 512 * (k + 1) ≡ 512 * k + 512 = omega arith in
      let j : 490 * k + 490 ≡ 490 * (k + 1) = omega arith in
      rw i (sym (drop-drop 512 (512 * k) (blocks_of b)) ∙ ap (drop 512) split
      ∙ drop_at next (blocks_from m (k + 1) (drop 490 (drop (490 * k) b))) 512 length-next
      ∙ ap (blocks_from m (k + 1)) (drop-drop 490 (490 * k) b ∙ ap (λ (n : ℕ). drop n b) j))

-- the last block
pub left-last : (b : List ℕ) (k : ℕ) → length b ≤ 490 * k + 490 → Left b k 0 → take 512 (drop (512 * k) (blocks_of b)) ≡ block true k (drop (490 * k) b)
unfolding Left blocks_from
left-last b k h e =
    ap (take 512) e ∙ take_all 512 (block true k (drop (490 * k) b)) (omega (arith, length-block true k (drop (490 * k) b) (omega (arith, length-drop (490 * k) b))))

-- ---- laid into a target

-- the first `k` blocks of the body `b` stand at the front of the target, whose rest is that of `d₀`
abbrev pub Begun : List ℕ → List ℕ → List ℕ → ℕ → Type 0
Begun b d₀ d k = d ≡ take (512 * k) (blocks_of b) ++ drop (512 * k) d₀

module _ (b d₀ d : List ℕ) (k : ℕ) (g : Begun b d₀ d k) (room : 512 * block_count (length b) ≤ length d₀) where
  pub full-laid : (m : ℕ) → 490 * k + 490 ≤ length b → k < block_count (length b) → Left b k (suc m)
      → Begun b d₀ (paste d (512 * k) (block false k (take 490 (drop (490 * k) b))) 512) (k + 1)
  full-laid m h j e =
      let next : 512 * (k + 1) ≡ 512 * k + 512 = omega arith in
      let all = length-all b in
      rw next (front_longer (blocks_of b) d₀ d (block false k (take 490 (drop (490 * k) b))) (512 * k) 512 g (omega arith) (length-next b k m h e)
      (omega arith) (left-next b k m h e))

  pub last-laid : length b ≤ 490 * k + 490 → k + 1 ≡ block_count (length b) → Left b k 0
      → paste d (512 * k) (block true k (drop (490 * k) b)) 512 ≡ front (blocks_of b) d₀
  last-laid h j e =
      let all = length-all b in
      let p = block true k (drop (490 * k) b) in
      front_longer (blocks_of b) d₀ d p (512 * k) 512 g (omega arith) (length-block true k (drop (490 * k) b) (omega (arith, length-drop (490 * k) b)))
      (omega arith) (left-last b k h e)
      ∙ front-whole (blocks_of b) d₀ (512 * k + 512) (omega arith)

-- ---- the tests of `write`, one after the other

module _ (b t : List ℕ) where
  abbrev size : ℕ
  size = block_count (length b)

  pub written-short : length t / 512 < size → writing (Err Short) t ≡ written b t
  unfolding written
  written-short h = rw (lt-ltb (length t) (512 * size) (omega arith))

  module _ (h : size ≤ length t / 512) where
    pub written-long : longest < length b → writing (Err TooLong) t ≡ written b t
    unfolding written
    written-long j = rw (le-ltb (length t) (512 * size) (omega arith), lt-ltb longest (length b) j)

    pub written-done : length b ≤ longest → writing (Ok (512 * size)) (front (blocks_of b) t) ≡ written b t
    unfolding written
    written-done j = rw (le-ltb (length t) (512 * size) (omega arith), le-ltb longest (length b) j)
