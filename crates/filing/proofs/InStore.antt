-- One frame in a store, written and read in place: the stretch of bytes that its check is of, the rows laid one behind the other, and what each
-- test of the reader says. Assumes nothing.
use mathlib.Core.Path.{◌≡◌, refl, sym, ap, ap₂, ◌∙◌}
use mathlib.Core.Bool.{Bool, true, false}
use mathlib.Core.List.{List, [], ◌∷◌, ◌++◌, append_assoc}
use Prim.Native.Nat.{ℕ, zero, suc, ◌+◌, ◌-◌, ◌≤◌, ◌<◌}
use native.Mathlib.Omega.{arith}
use lib.Dec.{ltb, leb, eqb}
use lib.ListN.{length, take, drop, get_or, replicate, length-append, length-drop, length-replicate}
use lib.Seq.{paste, take_at, drop_at, take-add, take_all, take-take, drop-drop, get_or-drop, take-paste, length-take-le}
use borrow.Author.Tests.{le-ltb, lt-ltb, le-leb, lt-leb, leb-true, leb-false, eq-eqb, ne_eqb}
use Rattle.base.specs.Pick.{pick}
use Rattle.base.specs.Bytes.{be32, bytes32}
use Rattle.digest.specs.Md5.{digest_of}
use Rattle.digest.proofs.Octets.{length-digest}
use Rattle.archive.specs.Block.{same, all_zero, longest}
use Rattle.archive.specs.Writing.{writing}
use Rattle.std.specs.Prelude.{Ok, Err}
use Rattle.archive.specs.declared.block.WriteError.TheVariants.{Short, TooLong}
use Rattle.archive.proofs.Laid.{parts-laid}
use Rattle.filing.specs.Frame.{Content, filling, check_at, frame_length, rows_of, check_of, chain_at, before_at, frame_of, frame_written}
use Rattle.filing.specs.Reading.{Log, log, put_first, size_in, content_of, check_in, frame_fault, read_from, turn_for, turn_of, turn_at, after_turn}
use Rattle.filing.specs.Claims.{TurnReads}
use Rattle.filing.specs.declared.frame.NoFrame.TheVariants.{End, Cut, Damaged, Misplaced, Malformed}

-- ---- room

-- a frame fits if what it adds to its payload fits behind it
pub room_is : (at n f total : ℕ) → at ≤ total → n ≤ total - at → leb (32 + f) (total - at - n) ≡ leb (at + (16 + (n + f) + 16)) total
room_is at n f total h k = go (leb (32 + f) (total - at - n)) refl
  where
    go : (b : Bool) → leb (32 + f) (total - at - n) ≡ b → b ≡ leb (at + (16 + (n + f) + 16)) total
    go true e = sym (le-leb (at + (16 + (n + f) + 16)) total (omega (arith, leb-true (32 + f) (total - at - n) e)))
    go false e = sym (lt-leb (at + (16 + (n + f) + 16)) total (omega (arith, leb-false (32 + f) (total - at - n) e)))

-- ---- the stretch that a check is of

pub chain_first : (at number : ℕ) → number ≡ 0 → at ≡ chain_at at number
unfolding chain_at
chain_first at number e = rw (eq-eqb number 0 e) refl

pub chain_next : (at number from : ℕ) → (number ≡ 0 → ⊥) → from ≡ at - 16 → from ≡ chain_at at number
unfolding chain_at
chain_next at number from h e = rw (ne_eqb number 0 h) e

pub stretch : (s : List ℕ) (at m from : ℕ) → from ≤ at → take (at + m - from) (drop from s) ≡ take (at - from) (drop from s) ++ take m (drop at s)
stretch s at m from h =
    let e : at + m - from ≡ at - from + m = omega arith in
    let i : from + (at - from) ≡ at = omega arith in
    ap (λ (k : ℕ). take k (drop from s)) e ∙ take-add (at - from) m (drop from s)
    ∙ ap (λ (r : List ℕ). take (at - from) (drop from s) ++ take m r) (drop-drop (at - from) from s ∙ ap (λ (k : ℕ). drop k s) i)

pub chained : (s : List ℕ) (at number m from : ℕ) → from ≡ chain_at at number → from ≤ at
    → take (at + m - from) (drop from s) ≡ before_at s at number ++ take m (drop at s)
unfolding before_at
chained s at number m from e h = rw (sym e) (stretch s at m from h)

-- ---- writing

pub zeros-taken : (n m : ℕ) → n ≤ m → take {A = ℕ} n (replicate m 0) ≡ replicate n 0
zeros-taken zero m h = refl
zeros-taken (suc n) zero h = absurd (omega arith)
zeros-taken (suc n) (suc m) h = ap (λ (l : List ℕ). 0 ∷ l) (zeros-taken n m (omega arith))

-- the first row, the payload and the filling, laid one behind the other
pub rows-laid : (s row p : List ℕ) (at n f : ℕ) → length row ≡ 16 → length p ≡ n → at + (16 + (n + f)) ≤ length s → f ≤ 16
    → paste (paste (paste s at row 16) (at + 16) p n) (at + 16 + n) (take f (drop 0 (replicate 16 0))) f
    ≡ paste s at (row ++ (p ++ replicate f 0)) (16 + (n + f))
rows-laid s row p at n f lr lp room few =
    let z : take {A = ℕ} f (drop 0 (replicate 16 0)) ≡ replicate f 0 = zeros-taken f 16 few in
    let a : at + 16 + n ≡ at + (16 + n) = omega arith in
    let b : 16 + n + f ≡ 16 + (n + f) = omega arith in
    let l : length (row ++ p) ≡ 16 + n = omega (arith, length-append row p) in
    ap₂ (λ (u : List ℕ) (v : List ℕ). paste u (at + 16 + n) v f) (parts-laid s row p at 16 n lr lp (omega arith)) z
    ∙ ap (λ (k : ℕ). paste (paste s at (row ++ p) (16 + n)) k (replicate f 0) f) a
    ∙ parts-laid s (row ++ p) (replicate f 0) at (16 + n) f l (length-replicate {A = ℕ} f 0) (omega arith)
    ∙ ap₂ (λ (u : List ℕ) (k : ℕ). paste s at u k) (append_assoc row p (replicate f 0)) b

-- the same as the code lays them, from the store `s` by `s₁` and `s₂` to `s₃`
pub rows_written : (s s₁ s₂ s₃ row p : List ℕ) (at n f number letters clock : ℕ) → n ≡ length p → f ≡ filling n → at + frame_length n ≤ length s
    → row ≡ bytes32 letters ++ (bytes32 number ++ (bytes32 n ++ bytes32 clock))
    → s₁ ≡ paste s at row (length row) → s₂ ≡ paste s₁ (at + 16) p n
    → let z = take {A = ℕ} (f - 0) (drop 0 (replicate 16 0)) in
    s₃ ≡ paste s₂ (at + 16 + n) z (length z)
    → s₃ ≡ paste s at (rows_of number (record { kind = bytes32 letters; clock = clock; payload = p })) (check_at n)
unfolding rows_of
rows_written s s₁ s₂ s₃ row p at n f number letters clock size fills room er e₁ e₂ e₃ =
    let i : f - 0 ≡ f = omega arith in
    let ez : take {A = ℕ} (f - 0) (drop 0 (replicate 16 0)) ≡ take f (drop 0 (replicate 16 0)) =
    ap (λ (k : ℕ). take {A = ℕ} k (drop 0 (replicate 16 0))) i in
    let q : take {A = ℕ} (f - 0) (drop 0 (replicate 16 0)) ≡ replicate f 0 = ez ∙ zeros-taken f 16 (omega (arith, fills)) in
    let lz : length (take {A = ℕ} (f - 0) (drop 0 (replicate 16 0))) ≡ f = ap length q ∙ length-replicate {A = ℕ} f 0 in
    let lr : length row ≡ 16 = ap length er in
    let a : s₁ ≡ paste s at row 16 = e₁ ∙ ap (paste s at row) lr in
    let b : s₂ ≡ paste (paste s at row 16) (at + 16) p n = e₂ ∙ ap (λ (u : List ℕ). paste u (at + 16) p n) a in
    let m : n ≡ length p = size in
    e₃ ∙ ap (paste s₂ (at + 16 + n) (take (f - 0) (drop 0 (replicate 16 0)))) lz
    ∙ ap₂ (λ (u v : List ℕ). paste u (at + 16 + n) v f) b ez
    ∙ rows-laid s row p at n f lr (sym size) (omega (arith, fills, room)) (omega (arith, fills))
    ∙ ap₂ (λ (r : List ℕ) (k : ℕ). paste s at (r ++ (p ++ replicate k 0)) (16 + (n + k))) er fills
    ∙ ap (λ (k : ℕ). paste s at (row_of k ++ (p ++ replicate (filling k) 0)) (check_at n)) m
  where
    row_of : ℕ → List ℕ
    row_of k = bytes32 letters ++ (bytes32 number ++ (bytes32 k ++ bytes32 clock))

-- the check `d` of what stands at `at`, as the code lays it
pub check-laid : (s d : List ℕ) (at number n from f : ℕ) → f ≡ filling n → from ≡ chain_at at number → from ≤ at
    → d ≡ digest_of (take (at + 16 + n + f - from) (drop from s))
    → paste s (at + 16 + n + f) d (length d) ≡ paste s (at + check_at n) (digest_of (before_at s at number ++ take (check_at n) (drop at s))) 16
check-laid s d at number n from f e chain back is =
    let a : at + 16 + n + f ≡ at + check_at n = omega (arith, e) in
    let x = before_at s at number ++ take (check_at n) (drop at s) in
    let q : d ≡ digest_of x =
    is ∙ ap digest_of (ap (λ (k : ℕ). take (k - from) (drop from s)) a ∙ chained s at number (check_at n) from chain back) in
    ap₂ (λ (k : ℕ) (u : List ℕ). paste s k u (length u)) a q ∙ ap (paste s (at + check_at n) (digest_of x)) (length-digest x)

-- what stands before a place is not touched by what is laid there
front-stays : (s r : List ℕ) (at m : ℕ) → at ≤ length s → m ≤ length r → take at (paste s at r m) ≡ take at s
front-stays s r at m h k =
    let a : take at (paste s at r m) ≡ take at (take (at + m) (paste s at r m)) = sym (take-take at (at + m) (paste s at r m) (omega arith)) in
    a ∙ ap (take at) (take-paste s at r m h k) ∙ take_at (take at s) (take m r) at (length-take-le at s h)

drop-front : (s : List ℕ) (at k : ℕ) → take (at - k) (drop k s) ≡ drop k (take at s)
drop-front s at zero =
    let i : at - 0 ≡ at = omega arith in
    ap (λ (j : ℕ). take j s) i
drop-front [] zero (suc k) =
    let i : 0 - suc k ≡ 0 = omega arith in
    ap (λ (j : ℕ). take {A = ℕ} j []) i
drop-front (x ∷ s) zero (suc k) =
    let i : 0 - suc k ≡ 0 = omega arith in
    ap (λ (j : ℕ). take {A = ℕ} j (drop k s)) i
drop-front [] (suc at) (suc k) = nothing (suc at - suc k)
  where
    nothing : (j : ℕ) → take {A = ℕ} j [] ≡ []
    nothing zero = refl
    nothing (suc j) = refl
drop-front (x ∷ s) (suc at) (suc k) =
    let i : suc at - suc k ≡ at - k = omega arith in
    ap (λ (j : ℕ). take j (drop k s)) i ∙ drop-front s at k

take-drop-front : (s t : List ℕ) (at k : ℕ) → k ≤ at → take at s ≡ take at t → take (at - k) (drop k s) ≡ take (at - k) (drop k t)
take-drop-front s t at k h e = drop-front s at k ∙ ap (drop k) e ∙ sym (drop-front t at k)

chain_back : (at number : ℕ) → chain_at at number ≤ at
unfolding chain_at
chain_back at number = go (eqb number 0)
  where
    go : (b : Bool) → pick b at (at - 16) ≤ at
    go true = omega arith
    go false = omega arith

before-stays : (s r : List ℕ) (at m number : ℕ) → at ≤ length s → m ≤ length r → before_at (paste s at r m) at number ≡ before_at s at number
unfolding before_at
before-stays s r at m number h k =
    take-drop-front (paste s at r m) s at (chain_at at number) (chain_back at number) (front-stays s r at m h k)

-- rows, and behind them the check of what stands there, are a frame
pub frame_laid_lem : (s : List ℕ) (at number : ℕ) (c : Content) → length (rows_of number c) ≡ check_at (length c.payload)
    → at + frame_length (length c.payload) ≤ length s
    → let m = check_at (length c.payload) in
    let t = paste s at (rows_of number c) m in
    paste t (at + m) (digest_of (before_at t at number ++ take m (drop at t))) 16
    ≡ paste s at (frame_of (before_at s at number) number c) (frame_length (length c.payload))
unfolding frame_of check_of
frame_laid_lem s at number c size room =
    let m = check_at (length c.payload) in
    let r = rows_of number c in
    let t = paste s at r m in
    let b : before_at t at number ≡ before_at s at number = before-stays s r at m number (omega arith) (omega arith) in
    let rows : take m (drop at t) ≡ r = laid-there s r at m (omega arith) size in
    ap (λ (d : List ℕ). paste t (at + m) d 16) (ap₂ (λ (u v : List ℕ). digest_of (u ++ v)) b rows)
    ∙ parts-laid s r (digest_of (before_at s at number ++ r)) at m 16 size (length-digest (before_at s at number ++ r)) (omega arith)
  where
    laid-there : (s r : List ℕ) (at m : ℕ) → at ≤ length s → length r ≡ m → take m (drop at (paste s at r m)) ≡ r
    laid-there s r at m h e =
        let a : paste s at r m ≡ take at s ++ (r ++ drop (at + m) s) =
        ap (λ (l : List ℕ). (take at s ++ l) ++ drop (at + m) s) (take_all m r (omega arith)) ∙ append_assoc (take at s) r (drop (at + m) s) in
        ap (λ (l : List ℕ). take m (drop at l)) a
        ∙ ap (take m) (drop_at (take at s) (r ++ drop (at + m) s) at (length-take-le at s h))
        ∙ take_at r (drop (at + m) s) m e

-- what a call of `write_frame` gives
module _ (s : List ℕ) (at number : ℕ) (c : Content) where
  abbrev size : ℕ
  size = length c.payload

  pub written-short : leb (at + frame_length size) (length s) ≡ false → writing (Err Short) s ≡ frame_written s at number c
  unfolding frame_written
  written-short e = rw (lt-ltb (length s) (at + frame_length size) (leb-false (at + frame_length size) (length s) e)) refl

  pub written-long : leb (at + frame_length size) (length s) ≡ true → longest < size → writing (Err TooLong) s ≡ frame_written s at number c
  unfolding frame_written
  written-long e h =
      rw (le-ltb (length s) (at + frame_length size) (leb-true (at + frame_length size) (length s) e), lt-ltb longest size h) refl

  pub written-whole : leb (at + frame_length size) (length s) ≡ true → size ≤ longest
      → writing (Ok (frame_length size)) (paste s at (frame_of (before_at s at number) number c) (frame_length size)) ≡ frame_written s at number c
  unfolding frame_written
  written-whole e h =
      rw (le-ltb (length s) (at + frame_length size) (leb-true (at + frame_length size) (length s) e), le-ltb longest size h) refl

  length-rows : length c.kind ≡ 4 → length (rows_of number c) ≡ check_at size
  unfolding rows_of
  length-rows four =
      let zeros = replicate {A = ℕ} (filling size) 0 in
      let a = length-append c.kind (bytes32 number ++ (bytes32 size ++ (bytes32 c.clock ++ (c.payload ++ zeros)))) in
      omega (arith, four, length-append c.payload zeros, length-replicate {A = ℕ} (filling size) 0)

  -- the same as the code writes it, from the store `s` by `s₁` to `s₂`
  pub frame_written_lem : (s₁ s₂ : List ℕ) (f : ℕ) → length c.kind ≡ 4 → leb (at + frame_length size) (length s) ≡ true
      → size ≤ longest → f ≡ filling size
      → s₁ ≡ paste s at (rows_of number c) (check_at size)
      → s₂ ≡ paste s₁ (at + check_at size) (digest_of (before_at s₁ at number ++ take (check_at size) (drop at s₁))) 16
      → writing (Ok (32 + size + f)) s₂ ≡ frame_written s at number c
  frame_written_lem s₁ s₂ f four room short fills e₁ e₂ =
      let n : 32 + size + f ≡ frame_length size = omega (arith, fills) in
      let t : s₂ ≡ paste s at (frame_of (before_at s at number) number c) (frame_length size) =
      e₂ ∙ ap (λ (u : List ℕ). paste u (at + check_at size) (digest_of (before_at u at number ++ take (check_at size) (drop at u))) 16) e₁
      ∙ frame_laid_lem s at number c (length-rows four) (leb-true (at + frame_length size) (length s) room) in
      ap₂ (λ (k : ℕ) (u : List ℕ). writing (Ok k) u) n t ∙ written-whole room short

-- ---- reading

get_d_at : (s : List ℕ) (at i j : ℕ) → at + i ≡ j → get_or (drop at s) i 0 ≡ get_or s j 0
get_d_at s at i j e = get_or-drop at s i 0 ∙ ap (λ (k : ℕ). get_or s k 0) e

pub number_at : (s : List ℕ) (at k : ℕ) → be32 (drop at s) k ≡ be32 s (at + k)
number_at s at k =
    let a = get_d_at s at k (at + k) refl in
    let b = get_d_at s at (k + 1) (at + k + 1) (omega arith) in
    let c = get_d_at s at (k + 2) (at + k + 2) (omega arith) in
    let d = get_d_at s at (k + 3) (at + k + 3) (omega arith) in
    rw (a, b, c, d) refl

-- the tests of the reader
module _ (s : List ℕ) (at number n from to : ℕ) (size : n ≡ size_in (drop at s)) (chain : from ≡ chain_at at number) (back : from ≤ at)
    (end : to ≡ at + 16 + n + filling n) where
  abbrev x : List ℕ
  x = drop at s

  abbrev check-seen : Bool
  check-seen = same (digest_of (take (to - from) (drop from s))) (take (to + 16 - to) (drop to s))

  abbrev zeros-seen : Bool
  zeros-seen = all_zero (take (to - (at + 16 + n)) (drop (at + 16 + n) s))

  check_is : same (digest_of (before_at s at number ++ take (check_at (size_in x)) x)) (check_in x) ≡ check-seen
  check_is =
      let a : to ≡ at + check_at n = omega (arith, end) in
      let b : to + 16 - to ≡ 16 = omega arith in
      let l : take (to - from) (drop from s) ≡ before_at s at number ++ take (check_at n) x =
      ap (λ (k : ℕ). take (k - from) (drop from s)) a ∙ chained s at number (check_at n) from chain back in
      let r : take (to + 16 - to) (drop to s) ≡ take 16 (drop (check_at n) x) =
      ap₂ (λ (j k : ℕ). take j (drop k s)) b a ∙ ap (take 16) (sym (drop-drop (check_at n) at s)) in
      sym (ap₂ (λ (u v : List ℕ). same (digest_of u) v) l r
      ∙ ap (λ (k : ℕ). same (digest_of (before_at s at number ++ take (check_at k) x)) (take 16 (drop (check_at k) x))) size)

  zeros_is : all_zero (drop (16 + size_in x) (take (check_at (size_in x)) x)) ≡ zeros-seen
  zeros_is =
      let a : to - (at + 16 + n) ≡ check_at n - (16 + n) = omega (arith, end) in
      let b : at + 16 + n ≡ at + (16 + n) = omega arith in
      let l : take (to - (at + 16 + n)) (drop (at + 16 + n) s) ≡ drop (16 + n) (take (check_at n) x) =
      ap₂ (λ (j k : ℕ). take j (drop k s)) a b ∙ ap (take (check_at n - (16 + n))) (sym (drop-drop (16 + n) at s))
      ∙ drop-front x (check_at n) (16 + n) in
      sym (ap all_zero l ∙ ap (λ (k : ℕ). all_zero (drop (16 + k) (take (check_at k) x))) size)

  pub found_damaged : check-seen ≡ false → Err Damaged ≡ turn_for (frame_fault (before_at s at number) number x) n
  unfolding frame_fault turn_for
  found_damaged e = rw (check_is ∙ e) refl

  module _ (right : check-seen ≡ true) where
    pub found_misplaced : (be32 s (at + 4) ≡ number → ⊥) → Err Misplaced ≡ turn_for (frame_fault (before_at s at number) number x) n
    unfolding frame_fault turn_for
    found_misplaced h = rw (check_is ∙ right, ne_eqb (be32 x 4) number (λ e. h (sym (number_at s at 4) ∙ e))) refl

    module _ (next : be32 s (at + 4) ≡ number) where
      next_is : eqb (be32 x 4) number ≡ true
      next_is = eq-eqb (be32 x 4) number (number_at s at 4 ∙ next)

      pub found_malformed : zeros-seen ≡ false → Err Malformed ≡ turn_for (frame_fault (before_at s at number) number x) n
      unfolding frame_fault turn_for
      found_malformed e = rw (check_is ∙ right, next_is, zeros_is ∙ e) refl

      pub found_frame : zeros-seen ≡ true → Ok n ≡ turn_for (frame_fault (before_at s at number) number x) n
      unfolding frame_fault turn_for
      found_frame e = rw (check_is ∙ right, next_is, zeros_is ∙ e) refl

-- what a call of `read_frame` gives
module _ (s : List ℕ) (at number : ℕ) where
  abbrev rest : List ℕ
  rest = drop at s

  pub turn_end : length s ≤ at → Err End ≡ turn_at s at number
  unfolding turn_at turn_of
  turn_end h = rw (eq-eqb (length rest) 0 (omega (arith, length-drop at s))) refl

  module _ (some : at < length s) where
    begun : eqb (length rest) 0 ≡ false
    begun = ne_eqb (length rest) 0 (λ e. omega (arith, length-drop at s, some, e))

    pub turn-short : length s - at < 32 → Err Cut ≡ turn_at s at number
    unfolding turn_at turn_of
    turn-short h = rw (begun, lt-ltb (length rest) 32 (omega (arith, length-drop at s))) refl

    module _ (least : 32 ≤ length s - at) (n : ℕ) (size : n ≡ size_in rest) where
      long : ltb (length rest) 32 ≡ false
      long = le-ltb (length rest) 32 (omega (arith, length-drop at s))

      pub turn-cut : leb (at + frame_length n) (length s) ≡ false → Err Cut ≡ turn_at s at number
      unfolding turn_at turn_of
      turn-cut e =
          let h : length rest < frame_length n = omega (arith, length-drop at s, leb-false (at + frame_length n) (length s) e, some) in
          let k : ltb (length rest) (frame_length (size_in rest)) ≡ true =
          ap (λ (i : ℕ). ltb (length rest) (frame_length i)) (sym size) ∙ lt-ltb (length rest) (frame_length n) h in
          rw (begun, long, k) refl

      pub turn-judged : leb (at + frame_length n) (length s) ≡ true → turn_for (frame_fault (before_at s at number) number rest) n ≡ turn_at s at number
      unfolding turn_at turn_of
      turn-judged e =
          let h : frame_length n ≤ length rest = omega (arith, length-drop at s, leb-true (at + frame_length n) (length s) e) in
          let k : ltb (length rest) (frame_length (size_in rest)) ≡ false =
          ap (λ (i : ℕ). ltb (length rest) (frame_length i)) (sym size) ∙ le-ltb (length rest) (frame_length n) h in
          rw (begun, long, k) (ap (turn_for (frame_fault (before_at s at number) number rest)) size)

-- ---- a turn is a step of reading

-- by the tests of check, number and filling
by_tests : (a b d : Bool) (m : ℕ) (y : List ℕ) (l : Log)
    → let f : ℕ = pick a (pick b (pick d 0 13) 12) 11 in
    pick (eqb f 0) (put_first (content_of y) l) (log [] f) ≡ after_turn (turn_for f m) y l
unfolding turn_for
by_tests true true true m y l = refl
by_tests true true false m y l = refl
by_tests true false d m y l = refl
by_tests false b d m y l = refl

by_fault : (before : List ℕ) (n : ℕ) (y : List ℕ) (l : Log)
    → pick (eqb (frame_fault before n y) 0) (put_first (content_of y) l) (log [] (frame_fault before n y))
    ≡ after_turn (turn_for (frame_fault before n y) (size_in y)) y l
unfolding frame_fault
by_fault before n y l =
    by_tests (same (digest_of (before ++ take (check_at (size_in y)) y)) (check_in y)) (eqb (be32 y 4) n)
    (all_zero (drop (16 + size_in y) (take (check_at (size_in y)) y))) (size_in y) y l

pub turn-reads : TurnReads
unfolding read_from turn_of
turn-reads f before n [] = refl
turn-reads f before n (a ∷ x) = rw (some) (go (ltb (length y) 32) (ltb (length y) (frame_length (size_in y))))
  where
    y : List ℕ
    y = a ∷ x

    l : Log
    l = read_from f (check_in y) (n + 1) (drop (frame_length (size_in y)) y)

    some : eqb (length y) 0 ≡ false
    some = ne_eqb (length y) 0 (λ e. omega (arith, e))

    last : Log
    last = pick (eqb (frame_fault before n y) 0) (put_first (content_of y) l) (log [] (frame_fault before n y))

    go : (s t : Bool) → pick s (log [] 1) (pick t (log [] 1) last)
        ≡ after_turn (pick s (Err Cut) (pick t (Err Cut) (turn_for (frame_fault before n y) (size_in y)))) y l
    go true t = refl
    go false true = refl
    go false false = by_fault before n y l
