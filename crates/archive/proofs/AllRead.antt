-- All blocks of an input, judged one after the other: what a block without a fault adds, what a faulty one decides, what is judged behind the
-- last, and the tests of `read`. Assumes nothing.
use mathlib.Core.Path.{◌≡◌, refl, sym, ap, ◌∙◌}
use mathlib.Core.Bool.{Bool, true, false}
use mathlib.Core.List.{List, [], ◌++◌}
use Prim.Native.Nat.{ℕ, suc, ◌+◌, ◌-◌, ◌*◌, ◌/◌, ◌%◌, ◌≤◌, ◌<◌}
use native.Mathlib.Omega.{arith}
use lib.Dec.{eqb}
use lib.ListN.{length, take, drop, length-append, length-drop}
use lib.Seq.{drop-drop, length-take-le}
use borrow.Author.Tests.{eq-eqb, ne_eqb, eqb-true, eqb-false, lt-ltb, le-ltb}
use Rattle.archive.specs.Block.{longest, is_last_block, used, payload_of, fault_of}
use Rattle.archive.specs.Writing.{front}
use Rattle.archive.specs.Reading.{Judged, judged, judge, judged_all, body_of, fault_in, sound_from, sound_in, error_number, refused_for, fault_for, body_in, reading, read_into}
use Rattle.std.specs.Prelude.{Some, None, Ok, Err}
use Rattle.archive.specs.declared.block.BodyError.{BodyError}
use Rattle.archive.specs.declared.block.BodyError.TheVariants.{Short, Damaged, Misplaced, Malformed}
use Rattle.base.specs.Pick.{pick}
use Rattle.archive.proofs.OneBlock.{sound, most, length-payload}

-- ---- one block more

module _ (m k : ℕ) (ended : Bool) (b x : List ℕ) where
  pub step-sound : fault_of k ended (length b) (take 512 x) ≡ 0
      → judge (suc m) k ended b x ≡ judge m (k + 1) (is_last_block (take 512 x)) (b ++ payload_of (take 512 x)) (drop 512 x)
  unfolding judge
  step-sound e = rw (eq-eqb (fault_of k ended (length b) (take 512 x)) 0 e)

  pub step_faulty : (fault_of k ended (length b) (take 512 x) ≡ 0 → ⊥)
      → judge (suc m) k ended b x ≡ judged (fault_of k ended (length b) (take 512 x)) ended b
  unfolding judge
  step_faulty e = rw (ne_eqb (fault_of k ended (length b) (take 512 x)) 0 e)

  pub count-sound : fault_of k ended (length b) (take 512 x) ≡ 0
      → sound_from (suc m) k ended b x ≡ sound_from m (k + 1) (is_last_block (take 512 x)) (b ++ payload_of (take 512 x)) (drop 512 x)
  unfolding sound_from
  count-sound e = rw (eq-eqb (fault_of k ended (length b) (take 512 x)) 0 e)

  pub count_faulty : (fault_of k ended (length b) (take 512 x) ≡ 0 → ⊥) → sound_from (suc m) k ended b x ≡ k
  unfolding sound_from
  count_faulty e = rw (ne_eqb (fault_of k ended (length b) (take 512 x)) 0 e)

  -- blocks of which none is faulty begin with one that is not
  pub first-sound : (judge (suc m) k ended b x).fault ≡ 0 → fault_of k ended (length b) (take 512 x) ≡ 0
  first-sound z = go (eqb (fault_of k ended (length b) (take 512 x)) 0) refl
    where
      go : (t : Bool) → eqb (fault_of k ended (length b) (take 512 x)) 0 ≡ t → fault_of k ended (length b) (take 512 x) ≡ 0
      go true q = eqb-true (fault_of k ended (length b) (take 512 x)) 0 q
      go false q = sym (ap (λ (v : Judged). v.fault) (step_faulty (eqb-false (fault_of k ended (length b) (take 512 x)) 0 q))) ∙ z

-- ---- in the midst of the blocks

-- block `k` of the input `x`
abbrev pub block_at : List ℕ → ℕ → List ℕ
block_at x k = take 512 (drop (512 * k) x)

pub length-block_at : (x : List ℕ) (k : ℕ) → k < length x / 512 → length (block_at x k) ≡ 512
length-block_at x k h = length-take-le 512 (drop (512 * k) x) (omega (arith, length-drop (512 * k) x))

-- the first `k` blocks of the input `x` have no fault, and hold the body bytes `b`
pub record Passed (x : List ℕ) (k : ℕ) (ended : Bool) (b : List ℕ) : Type 0 where
  pub short : length b ≤ longest
  pub most : length b ≤ 490 * k
  pub left : judged_all x ≡ judge (length x / 512 - k) k ended b (drop (512 * k) x)
  pub count : sound_in x ≡ sound_from (length x / 512 - k) k ended b (drop (512 * k) x)

pub passed_none : (x : List ℕ) → Passed x 0 false []
unfolding judged_all sound_in
passed_none x =
    let e : length x / 512 ≡ length x / 512 - 0 = omega arith in
    record {
      short = omega arith;
      most = omega arith;
      left = ap (λ (n : ℕ). judge n 0 false [] x) e;
      count = ap (λ (n : ℕ). sound_from n 0 false [] x) e;
    }

module _ (x : List ℕ) (k : ℕ) (ended : Bool) (b : List ℕ) (p : Passed x k ended b) (h : k < length x / 512) where
  abbrev this : List ℕ
  this = block_at x k

  here : judged_all x ≡ judge (suc (length x / 512 - (k + 1))) k ended b (drop (512 * k) x)
  here =
      let e : length x / 512 - k ≡ suc (length x / 512 - (k + 1)) = omega arith in
      p.left ∙ ap (λ (n : ℕ). judge n k ended b (drop (512 * k) x)) e

  counted : sound_in x ≡ sound_from (suc (length x / 512 - (k + 1))) k ended b (drop (512 * k) x)
  counted =
      let e : length x / 512 - k ≡ suc (length x / 512 - (k + 1)) = omega arith in
      p.count ∙ ap (λ (n : ℕ). sound_from n k ended b (drop (512 * k) x)) e

  pub passed_one : fault_of k ended (length b) this ≡ 0 → Passed x (k + 1) (is_last_block this) (b ++ payload_of this)
  passed_one e =
      let s = sound k ended (length b) this e in
      let l = length-block_at x k h in
      let n = most k ended (length b) this l s in
      let size = length-append b (payload_of this) in
      let part = length-payload k ended (length b) this l s in
      let j : 512 * k + 512 ≡ 512 * (k + 1) = omega arith in
      record {
        short = omega arith;
        most = omega arith;
        left = here ∙ step-sound (length x / 512 - (k + 1)) k ended b (drop (512 * k) x) e
            ∙ ap (judge (length x / 512 - (k + 1)) (k + 1) (is_last_block this) (b ++ payload_of this)) (drop-drop 512 (512 * k) x ∙ ap (λ (i : ℕ). drop i x) j);
        count = counted ∙ count-sound (length x / 512 - (k + 1)) k ended b (drop (512 * k) x) e
            ∙ ap (sound_from (length x / 512 - (k + 1)) (k + 1) (is_last_block this) (b ++ payload_of this)) (drop-drop 512 (512 * k) x ∙ ap (λ (i : ℕ). drop i x) j);
      }

  -- a faulty block decides
  pub passed_faulty : (fault_of k ended (length b) this ≡ 0 → ⊥) → fault_in x ≡ fault_of k ended (length b) this
  unfolding fault_in
  passed_faulty e =
      rw (here, step_faulty (length x / 512 - (k + 1)) k ended b (drop (512 * k) x) e, ne_eqb (fault_of k ended (length b) this) 0 e)

  pub faulty_count : (fault_of k ended (length b) this ≡ 0 → ⊥) → sound_in x ≡ k
  faulty_count e = counted ∙ count_faulty (length x / 512 - (k + 1)) k ended b (drop (512 * k) x) e

  -- an input without a fault has no faulty block
  pub passed_sound : fault_in x ≡ 0 → fault_of k ended (length b) this ≡ 0
  passed_sound e = go (eqb (fault_of k ended (length b) this) 0) refl
    where
      go : (t : Bool) → eqb (fault_of k ended (length b) this) 0 ≡ t → fault_of k ended (length b) this ≡ 0
      go true q = eqb-true (fault_of k ended (length b) this) 0 q
      go false q =
          let n = eqb-false (fault_of k ended (length b) this) 0 q in
          absurd (n (sym (passed_faulty n) ∙ e))

-- the block behind the first `k` has no fault either, and uses `r` bytes
pub record Next (x : List ℕ) (k : ℕ) (b : List ℕ) (r : ℕ) : Type 0 where
  pub small : r ≤ 490
  pub before : length b ≤ 490 * k
  pub size : length (payload_of (block_at x k)) ≡ r
  pub passed : Passed x (k + 1) (is_last_block (block_at x k)) (b ++ payload_of (block_at x k))

pub next : (x : List ℕ) (k : ℕ) (ended : Bool) (b : List ℕ) (r : ℕ) → Passed x k ended b → k < length x / 512
    → fault_of k ended (length b) (block_at x k) ≡ 0 → r ≡ used (block_at x k) → Next x k b r
next x k ended b r p h e u =
    let s = sound k ended (length b) (block_at x k) e in
    let l = length-block_at x k h in
    let n = most k ended (length b) (block_at x k) l s in
    record {
      small = omega arith;
      before = p.most;
      size = length-payload k ended (length b) (block_at x k) l s ∙ sym u;
      passed = passed_one x k ended b p h e;
    }

-- a block and its payload as the code cuts them out
pub cut-block : (k : ℕ) → 512 * k + 512 - 512 * k ≡ 512
cut-block k = omega arith

pub cut-payload : (x : List ℕ) (k r : ℕ) → r ≡ used (block_at x k)
    → take (6 + r - 6) (drop 6 (take (512 * k + 512 - 512 * k) (drop (512 * k) x))) ≡ payload_of (block_at x k)
unfolding payload_of
cut-payload x k r e =
    let n : 6 + r - 6 ≡ used (block_at x k) = omega arith in
    rw (n, cut-block k)

-- ---- behind the blocks

module _ (x : List ℕ) (k : ℕ) (ended : Bool) (b : List ℕ) (p : Passed x k ended b) (h : length x / 512 ≤ k) where
  pub passed_all : judged_all x ≡ judged 0 ended b
  unfolding judge
  passed_all =
      let e : length x / 512 - k ≡ 0 = omega arith in
      p.left ∙ ap (λ (n : ℕ). judge n k ended b (drop (512 * k) x)) e

  pub all-count : sound_in x ≡ k
  unfolding sound_from
  all-count =
      let e : length x / 512 - k ≡ 0 = omega arith in
      p.count ∙ ap (λ (n : ℕ). sound_from n k ended b (drop (512 * k) x)) e

  pub fault-left-over : (length x % 512 ≡ 0 → ⊥) → fault_in x ≡ 13
  unfolding fault_in
  fault-left-over e = rw (passed_all, ne_eqb (length x % 512) 0 e)

  pub fault_no_last : ended ≡ false → length x % 512 ≡ 0 → fault_in x ≡ 13
  unfolding fault_in
  fault_no_last f e = rw (passed_all, eq-eqb (length x % 512) 0 e, f)

  pub fault-none : ended ≡ true → length x % 512 ≡ 0 → fault_in x ≡ 0
  unfolding fault_in
  fault-none f e = rw (passed_all, eq-eqb (length x % 512) 0 e, f)

-- ---- faults as errors

pub number_refused : (f : ℕ) → 11 ≤ f → f ≤ 13 → error_number (refused_for f) ≡ f
unfolding refused_for
number_refused f h j = go (eqb f 11) (eqb f 12) refl refl
  where
    go : (a b : Bool) → eqb f 11 ≡ a → eqb f 12 ≡ b → error_number (pick a Damaged (pick b Misplaced Malformed)) ≡ f
    go true b p q = sym (eqb-true f 11 p)
    go false true p q = sym (eqb-true f 12 q)
    go false false p q =
        let u = eqb-false f 11 p in
        let v = eqb-false f 12 q in
        omega arith

pub fault_found : (f : ℕ) (e : BodyError) → fault_for f ≡ Some e → (f ≡ 0 → ⊥) × (e ≡ refused_for f)
unfolding fault_for
fault_found f e h = go (eqb f 0) refl h
  where
    go : (b : Bool) → eqb f 0 ≡ b → pick b None (Some (refused_for f)) ≡ Some e → (f ≡ 0 → ⊥) × (e ≡ refused_for f)
    go true p q = cc
    go false p q = (eqb-false f 0 p, cc)

pub fault_absent : (f : ℕ) → fault_for f ≡ None → f ≡ 0
unfolding fault_for
fault_absent f h = go (eqb f 0) refl h
  where
    go : (b : Bool) → eqb f 0 ≡ b → pick b None (Some (refused_for f)) ≡ None → f ≡ 0
    go true p q = eqb-true f 0 p
    go false p q = cc

pub faulty_body : (x : List ℕ) (f : ℕ) → fault_in x ≡ f → (f ≡ 0 → ⊥) → Err (refused_for f) ≡ body_in x
unfolding body_in
faulty_body x f e n = rw (e, ne_eqb f 0 n)

pub malformed_body : (x : List ℕ) → fault_in x ≡ 13 → Err Malformed ≡ body_in x
unfolding body_in refused_for
malformed_body x e = rw e

pub sound_body : (x : List ℕ) (n : ℕ) → fault_in x ≡ 0 → length (body_of x) ≡ n → Ok n ≡ body_in x
unfolding body_in
sound_body x n e l = rw (e, l)

pub body_sound : (x : List ℕ) (n : ℕ) → body_in x ≡ Ok n → (fault_in x ≡ 0) × (length (body_of x) ≡ n)
unfolding body_in
body_sound x n h = go (eqb (fault_in x) 0) refl h
  where
    go : (b : Bool) → eqb (fault_in x) 0 ≡ b → pick b (Ok (length (body_of x))) (Err (refused_for (fault_in x))) ≡ Ok n
        → (fault_in x ≡ 0) × (length (body_of x) ≡ n)
    go true p q = (eqb-true (fault_in x) 0 p, cc)
    go false p q = cc

pub body_faulty : (x : List ℕ) (e : BodyError) → body_in x ≡ Err e → (fault_in x ≡ 0 → ⊥) × (e ≡ refused_for (fault_in x))
unfolding body_in
body_faulty x e h = go (eqb (fault_in x) 0) refl h
  where
    go : (b : Bool) → eqb (fault_in x) 0 ≡ b → pick b (Ok (length (body_of x))) (Err (refused_for (fault_in x))) ≡ Err e
        → (fault_in x ≡ 0 → ⊥) × (e ≡ refused_for (fault_in x))
    go true p q = cc
    go false p q = (eqb-false (fault_in x) 0 p, cc)

-- ---- the tests of `read`, one after the other

module _ (x t : List ℕ) where
  pub read_short : length t / 490 < length x / 512 → reading (Err Short) t ≡ read_into x t
  unfolding read_into
  read_short h = rw (lt-ltb (length t) (490 * (length x / 512)) (omega arith))

  module _ (h : length x / 512 ≤ length t / 490) where
    pub read-refused : (fault_in x ≡ 0 → ⊥) → reading (Err (refused_for (fault_in x))) t ≡ read_into x t
    unfolding read_into
    read-refused e = rw (le-ltb (length t) (490 * (length x / 512)) (omega arith), ne_eqb (fault_in x) 0 e)

    pub read_done : fault_in x ≡ 0 → reading (Ok (length (body_of x))) (front (body_of x) t) ≡ read_into x t
    unfolding read_into
    read_done e = rw (le-ltb (length t) (490 * (length x / 512)) (omega arith), eq-eqb (fault_in x) 0 e)
