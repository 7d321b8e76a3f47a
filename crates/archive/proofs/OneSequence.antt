-- The claims: what is written for a body reads as this body, whatever reads as a body is what is written for it, a refusal changes nothing, and
-- the first faulty block decides. Each goes by induction over the blocks, block by block as OneBlock has it. Assumes nothing.
use mathlib.Core.Path.{◌≡◌, refl, sym, ap, ap₂, ◌∙◌}
use mathlib.Core.Bool.{Bool, true, false, ◌&&◌, ◌||◌}
use mathlib.Core.List.{List, [], ◌++◌, append_assoc, append-nil}
use Prim.Native.Nat.{ℕ, zero, suc, ◌+◌, ◌-◌, ◌*◌, ◌/◌, ◌%◌, ◌^◌, ◌≤◌, ◌<◌}
use native.Mathlib.Omega.{arith}
use lib.Dec.{ltb, leb, eqb}
use lib.ListN.{length, get_or, take, drop, length-append, length-take, length-drop, take-append-drop, get_or-eq_default}
use lib.Seq.{take_at, drop_at, take_all, drop-drop, length-take-le, get_or-take, get_or-drop}
use borrow.Author.Tests.{eq-eqb, ne_eqb, eqb-true, eqb-false, le-ltb, ltb-true, ltb-false, le-leb}
use Rattle.base.specs.Pick.{pick}
use Rattle.archive.specs.Block.{longest, block, is_last_block, used, payload_of, right_length, fault_of}
use Rattle.archive.specs.Writing.{block_count, blocks_from, blocks_of, front, wrote_number, Writing, writing, written}
use Rattle.archive.specs.Reading.{Judged, judged, judge, judged_all, body_of, fault_in, body_number, refused_for, Reading, reading, read_into}
use Rattle.archive.specs.Claims.{Octets, ReadsWritten, RoundTrip, WritesRead, RefusedWriteLeaves, RefusedReadLeaves, before, FirstDecides}
use Rattle.std.specs.Prelude.{Ok, Err}
use Rattle.archive.specs.declared.block.WriteError.TheVariants as wrote
use Rattle.archive.specs.declared.block.BodyError.TheVariants.{Short, Damaged, Misplaced, Malformed}
use Rattle.archive.proofs.Compare.{both}
use Rattle.archive.proofs.OneBlock.{length-block, last_block, payload-block, block-sound, Sound, sound, fault-numbers, most, length-payload, block-only}
use Rattle.archive.proofs.AllWritten.{counted, more, length-all}
use Rattle.archive.proofs.AllRead.{step-sound, step_faulty, first-sound, number_refused, read-refused, read_done}

-- ---- the blocks of a body

-- a body of n bytes fills m full blocks from number k on and a last one, which is empty only as block 0
pub record Fills (m k n : ℕ) : Type 0 where
  pub full : 490 * m ≤ n
  pub last : n ≤ 490 * m + 490
  pub empty : n ≡ 490 * m → (m ≡ 0) × (k ≡ 0)

fills_counted : (n : ℕ) → Fills (block_count n - 1) 0 n
fills_counted n =
    let c = counted n in
    record {
      full = c.full;
      last = omega arith;
      empty = λ e. go (eqb n 0) refl e;
    }
  where
    go : (t : Bool) → eqb n 0 ≡ t → n ≡ 490 * (block_count n - 1) → (block_count n - 1 ≡ 0) × ◌≡◌ {A = ℕ} 0 0
    go true q e = (omega (arith, (counted n).empty (eqb-true n 0 q)), refl)
    go false q e =
        let z = eqb-false n 0 q in
        absurd (omega (arith, (counted n).filled (omega arith)))

-- and there is one such number of blocks
count-filled : (m n : ℕ) → Fills m 0 n → block_count n ≡ suc m
count-filled m n f = go (eqb n 0) refl
  where
    go : (t : Bool) → eqb n 0 ≡ t → block_count n ≡ suc m
    go true q =
        let z = eqb-true n 0 q in
        omega (arith, (counted n).empty z)
    go false q =
        let z = eqb-false n 0 q in
        let c = counted n in
        let l = c.filled (omega arith) in
        rest (eqb n (490 * m)) refl
      where
        rest : (t : Bool) → eqb n (490 * m) ≡ t → block_count n ≡ suc m
        rest true r =
            let u = eqb-true n (490 * m) r in
            let w = f.empty u in
            absurd (eqb-false n 0 q (omega arith))
        rest false r =
            let u = eqb-false n (490 * m) r in
            let c = counted n in
            let l = c.filled (omega (arith, eqb-false n 0 q)) in
            omega arith

-- ---- what is written reads as the body

-- the last block of a body of n bytes may have its length
last-length : (k n : ℕ) → Fills 0 k n → right_length k true n ≡ true
unfolding right_length
last-length k n f = rw (le-leb n 490 (omega arith)) (go (ltb 0 n) refl)
  where
    go : (t : Bool) → ltb 0 n ≡ t → (t || eqb k 0) ≡ true
    go true q = refl
    go false q =
        let z = ltb-false 0 n q in
        eq-eqb k 0 (f.empty (omega arith)).1

full-length : (k n : ℕ) → n ≡ 490 → right_length k false n ≡ true
unfolding right_length
full-length k n e = eq-eqb n 490 e

-- one written block at the front of an input
module _ (m k : ℕ) (b₀ : List ℕ) (l : Bool) (p r : List ℕ) (h : length p ≤ 490) (j : k < 2 ^ 32) (e : right_length k l (length p) ≡ true)
    (s : length b₀ + length p ≤ longest) where
  pub reads-block : judge (suc m) k false b₀ (block l k p ++ r) ≡ judge m (k + 1) l (b₀ ++ p) r
  reads-block =
      let y = block l k p in
      let a : take 512 (y ++ r) ≡ y = take_at y r 512 (length-block l k p h) in
      let d : drop 512 (y ++ r) ≡ r = drop_at y r 512 (length-block l k p h) in
      let f : fault_of k false (length b₀) (take 512 (y ++ r)) ≡ 0 = rw a (block-sound l k p h (length b₀) j e s) in
      step-sound m k false b₀ (y ++ r) f ∙ rw (a, d, last_block l k p h, payload-block l k p h)

reads-blocks : (m k : ℕ) (b₀ b : List ℕ) → Fills m k (length b) → k + m < 2 ^ 32 → length b₀ + length b ≤ longest
    → judge (suc m) k false b₀ (blocks_from m k b) ≡ judged 0 true (b₀ ++ b)
unfolding blocks_from judge
reads-blocks zero k b₀ b f j s =
    ap (judge 1 k false b₀) (sym (append-nil (block true k b)))
    ∙ reads-block 0 k b₀ true b [] (omega arith) (omega arith) (last-length k (length b) f) s
reads-blocks (suc m) k b₀ b f j s =
    let p = take 490 b in
    let q = drop 490 b in
    let lp : length p ≡ 490 = length-take-le 490 b (omega arith) in
    let lq = length-drop 490 b in
    let la = length-append b₀ p in
    let g : Fills m (k + 1) (length q) =
    record { full = omega arith; last = omega arith; empty = λ z. absurd (omega (arith, (f.empty (omega arith)).0)) } in
    reads-block (suc m) k b₀ false p (blocks_from m (k + 1) q) (omega arith) (omega arith) (full-length k (length p) lp) (omega arith)
    ∙ reads-blocks m (k + 1) (b₀ ++ p) q g (omega arith) (omega arith)
    ∙ ap (judged 0 true) (append_assoc b₀ p q ∙ ap (λ (v : List ℕ). b₀ ++ v) (take-append-drop 490 b))

judged-written : (b : List ℕ) → length b ≤ longest → judged_all (blocks_of b) ≡ judged 0 true b
unfolding judged_all blocks_of
judged-written b h =
    let c = counted (length b) in
    let m = block_count (length b) - 1 in
    let n : length (blocks_of b) / 512 ≡ suc m = omega (arith, length-all b) in
    ap (λ (i : ℕ). judge i 0 false [] (blocks_of b)) n ∙ reads-blocks m 0 [] b (fills_counted (length b)) (omega arith) (omega arith)

pub reads-written : ReadsWritten
unfolding fault_in
reads-written b t h room =
    let e = judged-written b h in
    let l = length-all b in
    let f : fault_in (blocks_of b) ≡ 0 = rw (e, eq-eqb (length (blocks_of b) % 512) 0 (omega arith)) in
    sym (read_done (blocks_of b) t (omega arith) f) ∙ ap (λ (v : Judged). reading (Ok (length v.body)) (front v.body t)) e

-- an answer of blocks tells of the body and of the target
record Stored (b t : List ℕ) (n : ℕ) : Type 0 where
  short : length b ≤ longest
  size : length (blocks_of b) ≡ n
  target : (written b t).target ≡ front (blocks_of b) t

stored : (b t : List ℕ) (n : ℕ) → (written b t).answer ≡ Ok n → Stored b t n
unfolding written
stored b t n = go (ltb (length t) (512 * block_count (length b))) (ltb longest (length b)) refl refl
  where
    answered : Bool → Bool → Writing
    answered a d =
        pick a (writing (Err wrote.Short) t)
        (pick d (writing (Err wrote.TooLong) t) (writing (Ok (512 * block_count (length b))) (front (blocks_of b) t)))

    go : (a d : Bool) → ltb longest (length b) ≡ d → written b t ≡ answered a d → (answered a d).answer ≡ Ok n → Stored b t n
    go true d p r e =
        let z : ◌≡◌ {A = ℕ} 0 1 = cc in
        absurd (omega arith)
    go false true p r e =
        let z : ◌≡◌ {A = ℕ} 0 1 = cc in
        absurd (omega arith)
    go false false p r e =
        let m : 512 * block_count (length b) ≡ n = cc in
        record { short = ltb-false longest (length b) p; size = length-all b ∙ m; target = ap (λ (v : Writing). v.target) r }

pub round_trip : RoundTrip
round_trip b t u n e room =
    let s = stored b t n e in
    let l = length-all b in
    let x : take n (written b t).target ≡ blocks_of b =
    ap (take n) s.target ∙ take_at (blocks_of b) (drop (length (blocks_of b)) t) n s.size in
    rw x (reads-written b u s.short (omega (arith, s.size)))

-- ---- what reads as a body is what is written for it

octets-take : (n : ℕ) (x : List ℕ) → Octets x → Octets (take n x)
octets-take n x o k = go (ltb k n) refl
  where
    go : (t : Bool) → ltb k n ≡ t → get_or (take n x) k 0 < 256
    go true e = rw (get_or-take n x k 0 (ltb-true k n e)) (o k)
    go false e =
        let l = length-take n x in
        rw (get_or-eq_default (take n x) 0 {n = k} (omega (arith, ltb-false k n e))) (omega arith)

octets-drop : (n : ℕ) (x : List ℕ) → Octets x → Octets (drop n x)
octets-drop n x o k = rw (get_or-drop n x k 0) (o (n + k))

-- the input `x` is m full blocks from number k on and a last one, which hold the body bytes `b`
record Only (m k : ℕ) (x : List ℕ) (n : ℕ) (b : List ℕ) : Type 0 where
  written : x ≡ blocks_from m k b
  fills : Fills m k (length b)
  short : n + length b ≤ longest

-- the length of a block without a fault, by its mark
marked-last : (k n : ℕ) → right_length k true n ≡ true → n ≡ 0 → k ≡ 0
unfolding right_length
marked-last k n e z =
    let q = (both (leb n 490) (ltb 0 n || eqb k 0) e).1 in
    eqb-true k 0 (rw (le-ltb 0 n (omega arith)) at q)

marked-full : (k n : ℕ) → right_length k false n ≡ true → n ≡ 490
unfolding right_length
marked-full k n e = eqb-true n 490 e

-- what `judge` gives has no fault, and ends with the last block
record Ends (v : Judged) : Type 0 where
  none : v.fault ≡ 0
  last : v.ended ≡ true

-- the body that the blocks of the input `x` hold, behind the body bytes `b₀`
Found : ℕ → ℕ → List ℕ → List ℕ → Type 0
Found m k b₀ x = (b : List ℕ) × ((judge (suc m) k false b₀ x).body ≡ b₀ ++ b) × Only m k x (length b₀) b

only-last : (k : ℕ) (b₀ x : List ℕ) → Octets x → length x ≡ 512 → Ends (judge 1 k false b₀ x) → Found 0 k b₀ x
unfolding judge blocks_from Found
only-last k b₀ x o l z =
    let y = take 512 x in
    let whole : y ≡ x = take_all 512 x (omega arith) in
    let f = first-sound 0 k false b₀ x z.none in
    let s = sound k false (length b₀) y f in
    let ly : length y ≡ 512 = length-take-le 512 x (omega arith) in
    let st = step-sound 0 k false b₀ x f in
    let last : is_last_block y ≡ true = sym (ap (λ (v : Judged). v.ended) st) ∙ z.last in
    let p = length-payload k false (length b₀) y ly s in
    let m = most k false (length b₀) y ly s in
    let size : right_length k true (used y) ≡ true = rw last at s.size in (
      payload_of y,
      ap (λ (v : Judged). v.body) st,
      record {
        written = sym whole ∙ block-only k false (length b₀) y ly s (octets-take 512 x o) ∙ ap (λ (v : Bool). block v k (payload_of y)) last;
        fills = record { full = omega arith; last = omega arith; empty = λ e. (refl, marked-last k (used y) size (omega arith)) };
        short = omega (arith, s.short);
      },
    )

-- a full block, and what is found behind it
module _ (m k : ℕ) (b₀ x : List ℕ) (o : Octets x) (l : length x ≡ 512 * suc (suc m)) (z : Ends (judge (suc (suc m)) k false b₀ x))
    (rest : (b₁ : List ℕ) → Ends (judge (suc m) (k + 1) false b₁ (drop 512 x)) → Found m (k + 1) b₁ (drop 512 x)) where
  abbrev opening : List ℕ
  opening = take 512 x

  abbrev payload : List ℕ
  payload = payload_of opening

  unbroken : fault_of k false (length b₀) opening ≡ 0
  unbroken = first-sound (suc m) k false b₀ x z.none

  joined : (b : List ℕ) → length payload ≡ 490 → block false k payload ++ blocks_from m (k + 1) b ≡ blocks_from (suc m) k (payload ++ b)
  joined b e = rw (more m k (payload ++ b), take_at payload b 490 e, drop_at payload b 490 e)

  only-more : Found (suc m) k b₀ x
  unfolding Found
  only-more = go (is_last_block opening) refl (step-sound (suc m) k false b₀ x unbroken) (sound k false (length b₀) opening unbroken)
    where
      go : (t : Bool) → is_last_block opening ≡ t → judge (suc (suc m)) k false b₀ x ≡ judge (suc m) (k + 1) (is_last_block opening) (b₀ ++ payload) (drop 512 x)
          → Sound k false (length b₀) opening → Found (suc m) k b₀ x
      go true q st s =
          let st' = rw q at st in
          let g = first-sound m (k + 1) true (b₀ ++ payload) (drop 512 x) (sym (ap (λ (v : Judged). v.fault) st') ∙ z.none) in
          let w = (sound (k + 1) true (length (b₀ ++ payload)) (take 512 (drop 512 x)) g).first in
          let n : ◌≡◌ {A = ℕ} 0 1 = cc in
          absurd (omega arith)
      go false q st s =
          let st' = rw q at st in
          let r = rest (b₀ ++ payload) (record { none = sym (ap (λ (v : Judged). v.fault) st') ∙ z.none; last = sym (ap (λ (v : Judged). v.ended) st') ∙ z.last }) in
          let ly : length opening ≡ 512 = length-take-le 512 x (omega arith) in
          let size : used opening ≡ 490 = marked-full k (used opening) (rw q at s.size) in
          let lp : length payload ≡ 490 = length-payload k false (length b₀) opening ly s ∙ size in
          let la = length-append b₀ payload in
          let lb = length-append payload r.0 in
          let u = r.2.fills in (
            payload ++ r.0,
            ap (λ (v : Judged). v.body) st' ∙ r.1 ∙ append_assoc b₀ payload r.0,
            record {
              written = sym (take-append-drop 512 x)
                  ∙ ap₂ (λ (v w : List ℕ). v ++ w) (block-only k false (length b₀) opening ly s (octets-take 512 x o) ∙ ap (λ (v : Bool). block v k payload) q) r.2.written
                  ∙ joined r.0 lp;
              fills = record { full = omega arith; last = omega arith; empty = λ e. absurd (omega (arith, (u.empty (omega arith)).1)) };
              short = omega (arith, r.2.short);
            },
          )

only : (m k : ℕ) (b₀ x : List ℕ) → Octets x → length x ≡ 512 * suc m → Ends (judge (suc m) k false b₀ x) → Found m k b₀ x
only zero k b₀ x o l z = only-last k b₀ x o (omega arith) z
only (suc m) k b₀ x o l z =
    only-more m k b₀ x o l z (λ b₁. only m (k + 1) b₁ (drop 512 x) (octets-drop 512 x o) (omega (arith, length-drop 512 x)))

-- an input without a fault is of whole blocks, and ends with the last
record Whole (x : List ℕ) : Type 0 where
  multiple : length x % 512 ≡ 0
  ends : Ends (judged_all x)

whole : (x : List ℕ) → fault_in x ≡ 0 → Whole x
unfolding fault_in
whole x = go (eqb (judged_all x).fault 0) (eqb (length x % 512) 0) (judged_all x).ended refl refl refl
  where
    go : (a b e : Bool) → eqb (judged_all x).fault 0 ≡ a → eqb (length x % 512) 0 ≡ b → (judged_all x).ended ≡ e
        → ◌≡◌ {A = ℕ} (pick a (pick (b && e) 0 13) (judged_all x).fault) 0 → Whole x
    go false b e p q r f = absurd (eqb-false (judged_all x).fault 0 p f)
    go true false e p q r f = absurd (omega arith)
    go true true false p q r f = absurd (omega arith)
    go true true true p q r f =
        record { multiple = eqb-true (length x % 512) 0 q; ends = record { none = eqb-true (judged_all x).fault 0 p; last = r } }

-- so it is what is written for its body
module _ (x : List ℕ) (o : Octets x) (w : Whole x) where
  abbrev Written : Type 0
  Written = (length (body_of x) ≤ longest) × (x ≡ blocks_of (body_of x))

  no_blocks : length x / 512 ≡ 0 → Written
  unfolding judged_all judge
  no_blocks e =
      let a : judged_all x ≡ judged 0 false [] = ap (λ (n : ℕ). judge n 0 false [] x) e in
      let q : false ≡ true = sym (ap (λ (v : Judged). v.ended) a) ∙ w.ends.last in
      let n : ◌≡◌ {A = ℕ} 0 1 = cc in
      absurd (omega arith)

  found_blocks : (m : ℕ) → judged_all x ≡ judge (suc m) 0 false [] x → Found m 0 [] x → Written
  unfolding Found blocks_of
  found_blocks m a r =
      let b : body_of x ≡ r.0 = ap (λ (v : Judged). v.body) a ∙ r.1 in
      let n : block_count (length r.0) - 1 ≡ m = omega (arith, count-filled m (length r.0) r.2.fills) in
      rw b (omega (arith, r.2.short), r.2.written ∙ ap (λ (i : ℕ). blocks_from i 0 r.0) (sym n))

  some-blocks : (m : ℕ) → length x / 512 ≡ suc m → Written
  unfolding judged_all
  some-blocks m e =
      let a : judged_all x ≡ judge (suc m) 0 false [] x = ap (λ (n : ℕ). judge n 0 false [] x) e in
      found_blocks m a (only m 0 [] x o (omega (arith, w.multiple)) (rw a at w.ends))

  body-written : Written
  body-written = go (length x / 512) refl
    where
      go : (c : ℕ) → length x / 512 ≡ c → Written
      go zero e = no_blocks e
      go (suc m) e = some-blocks m e

-- an answer of bytes tells of the input and of the target
record Told (x t : List ℕ) (n : ℕ) : Type 0 where
  sound : fault_in x ≡ 0
  size : length (body_of x) ≡ n
  target : (read_into x t).target ≡ front (body_of x) t

told : (x t : List ℕ) (n : ℕ) → (read_into x t).answer ≡ Ok n → Told x t n
unfolding read_into refused_for
told x t n = go (ltb (length t) (490 * (length x / 512))) (eqb (fault_in x) 0) (eqb (fault_in x) 11) (eqb (fault_in x) 12) refl refl
  where
    answered : Bool → Bool → Bool → Bool → Reading
    answered a b c d =
        pick a (reading (Err Short) t)
        (pick b (reading (Ok (length (body_of x))) (front (body_of x) t)) (reading (Err (pick c Damaged (pick d Misplaced Malformed))) t))

    go : (a b c d : Bool) → eqb (fault_in x) 0 ≡ b → read_into x t ≡ answered a b c d → (answered a b c d).answer ≡ Ok n → Told x t n
    go true b c d p r e =
        let z : ◌≡◌ {A = ℕ} 0 1 = cc in
        absurd (omega arith)
    go false true c d p r e = record { sound = eqb-true (fault_in x) 0 p; size = cc; target = ap (λ (v : Reading). v.target) r }
    go false false true d p r e =
        let z : ◌≡◌ {A = ℕ} 0 1 = cc in
        absurd (omega arith)
    go false false false true p r e =
        let z : ◌≡◌ {A = ℕ} 0 1 = cc in
        absurd (omega arith)
    go false false false false p r e =
        let z : ◌≡◌ {A = ℕ} 0 1 = cc in
        absurd (omega arith)

pub writes-read : WritesRead
writes-read x t n o e =
    let d = told x t n e in
    let b = body_of x in
    let w = body-written x o (whole x d.sound) in
    let read : take n (read_into x t).target ≡ b = ap (take n) d.target ∙ take_at b (drop (length b) t) n d.size in
    record { short = omega (arith, w.0, d.size); written = w.1 ∙ ap blocks_of (sym read) }

-- ---- a refusal changes nothing

pub refused_write_leaves : RefusedWriteLeaves
unfolding written
refused_write_leaves b t = go (ltb (length t) (512 * block_count (length b))) (ltb longest (length b))
  where
    done : Writing
    done = writing (Ok (512 * block_count (length b))) (front (blocks_of b) t)

    go : (a d : Bool) → let w = pick a (writing (Err wrote.Short) t) (pick d (writing (Err wrote.TooLong) t) done) in 0 < wrote_number w.answer → w.target ≡ t
    go true d h = refl
    go false true h = refl
    go false false h = absurd (omega arith)

pub refused-read-leaves : RefusedReadLeaves
unfolding read_into
refused-read-leaves x t = go (ltb (length t) (490 * (length x / 512))) (eqb (fault_in x) 0)
  where
    done : Reading
    done = reading (Ok (length (body_of x))) (front (body_of x) t)

    go : (a d : Bool) → let r = pick a (reading (Err Short) t) (pick d done (reading (Err (refused_for (fault_in x))) t)) in 0 < body_number r.answer → r.target ≡ t
    go true d h = refl
    go false true h = absurd (omega arith)
    go false false h = refl

-- ---- the first faulty block decides

-- the blocks behind m blocks without a fault
Behind : ℕ → ℕ → ℕ → Bool → List ℕ → List ℕ → Type 0
Behind m n k e b x =
    judge (m + n) k e b x ≡ judge n (k + m) (judge m k e b x).ended (judge m k e b x).body (drop (512 * m) x)

behind-none : (n k : ℕ) (e : Bool) (b x : List ℕ) → Behind 0 n k e b x
unfolding Behind judge
behind-none n k e b x =
    let i : 0 + n ≡ n = omega arith in
    let j : k ≡ k + 0 = omega arith in
    ap₂ (λ (u v : ℕ). judge u v e b x) i j

behind_more : (m n k : ℕ) (e : Bool) (b x : List ℕ) → fault_of k e (length b) (take 512 x) ≡ 0
    → Behind m n (k + 1) (is_last_block (take 512 x)) (b ++ payload_of (take 512 x)) (drop 512 x) → Behind (suc m) n k e b x
unfolding Behind
behind_more m n k e b x f ih =
    let i : suc m + n ≡ suc (m + n) = omega arith in
    let j : k + 1 + m ≡ k + suc m = omega arith in
    let d : 512 + 512 * m ≡ 512 * suc m = omega arith in
    let s = step-sound m k e b x f in
    ap (λ (u : ℕ). judge u k e b x) i
    ∙ step-sound (m + n) k e b x f
    ∙ ih
    ∙ ap (λ (v : Judged). judge n (k + 1 + m) v.ended v.body (drop (512 * m) (drop 512 x))) (sym s)
    ∙ ap₂ (λ (u : ℕ) (y : List ℕ). judge n u (judge (suc m) k e b x).ended (judge (suc m) k e b x).body y) j
    (drop-drop (512 * m) 512 x ∙ ap (λ (u : ℕ). drop u x) d)

behind : (m n k : ℕ) (e : Bool) (b x : List ℕ) → (judge m k e b x).fault ≡ 0 → Behind m n k e b x
behind zero n k e b x z = behind-none n k e b x
behind (suc m) n k e b x z =
    let f = first-sound m k e b x z in
    let s = step-sound m k e b x f in
    behind_more m n k e b x f (behind m n (k + 1) _ _ _ (sym (ap (λ (v : Judged). v.fault) s) ∙ z))

-- a fault behind blocks without one is the fault of all
fault-first : (x : List ℕ) (k : ℕ) → k < length x / 512 → (before x k).fault ≡ 0
    → let f = fault_of k (before x k).ended (length (before x k).body) (take 512 (drop (512 * k) x)) in (f ≡ 0 → ⊥) → fault_in x ≡ f
unfolding fault_in judged_all Behind
fault-first x k h z n =
    let j = length x / 512 - (k + 1) in
    let c : length x / 512 ≡ k + suc j = omega arith in
    let i : 0 + k ≡ k = omega arith in
    let v = before x k in
    let y = drop (512 * k) x in
    let s = behind k (suc j) 0 false [] x z ∙ ap (λ (u : ℕ). judge (suc j) u v.ended v.body y) i in
    let e : judged_all x ≡ judged (fault_of k v.ended (length v.body) (take 512 y)) v.ended v.body =
    ap (λ (u : ℕ). judge u 0 false [] x) c ∙ s ∙ step_faulty j k v.ended v.body y n in
    rw (e, ne_eqb (fault_of k v.ended (length v.body) (take 512 y)) 0 n)

pub first_decides : FirstDecides
first_decides x t k h z room p =
    let v = before x k in
    let f = fault_of k v.ended (length v.body) (take 512 (drop (512 * k) x)) in
    let n = fault-numbers k v.ended (length v.body) (take 512 (drop (512 * k) x)) p in
    let e : fault_in x ≡ f = fault-first x k h z (λ q. omega arith) in
    let r = read-refused x t (omega arith) (λ q. omega arith) in
    sym (ap (λ (u : Reading). body_number u.answer) r) ∙ rw e (number_refused f n.0 n.1)
