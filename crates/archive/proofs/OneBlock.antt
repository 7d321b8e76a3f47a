-- One block: how long it is, what stands where in it, that a written block has no fault, and that a block without a fault is the one that is
-- written for its payload. Assumes nothing.
use mathlib.Core.Path.{◌≡◌, refl, sym, ap, ap₂, ◌∙◌}
use mathlib.Core.Bool.{Bool, true, false, not}
use mathlib.Core.List.{List, [], ◌∷◌, ◌++◌, append_assoc}
use Prim.Native.Nat.{ℕ, ◌+◌, ◌-◌, ◌*◌, ◌/◌, ◌%◌, ◌^◌, ◌≤◌, ◌<◌}
use native.Mathlib.Omega.{arith}
use lib.Dec.{leb, eqb}
use lib.ListN.{length, get_or, take, drop, replicate, length-append, length-replicate, length-drop, take-append-drop}
use lib.Seq.{take_at, drop_at, drop-drop, take-add, length-take-le}
use borrow.Author.Tests.{eqb-true, leb-true, leb-false, eq-eqb, le-leb, lt-leb, not-true}
use Rattle.base.specs.Pick.{pick}
use Rattle.base.specs.Bytes.{be16, be32, bytes16, bytes32}
use Rattle.digest.specs.Md5.{digest_of}
use Rattle.digest.proofs.Octets.{length-digest}
use Rattle.archive.specs.Block.{longest, length_field, head_of, checked, block, is_last_block, used, payload_of, right_length, all_zero, right_form, fault_of, right_check, right_padding}
use Rattle.archive.specs.Claims.{Octets}
use Rattle.archive.proofs.Compare.{both, same_refl, same-eq, zero-zeros, zeros-only}

-- the number whose four bytes these are
number-back : (k : ℕ) → k < 2 ^ 32 → ((k / 16777216 % 256 * 256 + k / 65536 % 256) * 256 + k / 256 % 256) * 256 + k % 256 ≡ k
number-back k h =
    let a : k / 16777216 % 256 ≡ k / 16777216 = omega arith in
    let b : k / 16777216 * 256 + k / 65536 % 256 ≡ k / 65536 = omega arith in
    let c : k / 65536 * 256 + k / 256 % 256 ≡ k / 256 = omega arith in
    rw (a, b, c) (omega arith)

-- ---- a block that is written

module _ (l : Bool) (k : ℕ) (p : List ℕ) (h : length p ≤ 490) where
  abbrev zeros : List ℕ
  zeros = replicate (490 - length p) 0

  pub length-checked : length (checked l k p) ≡ 496
  unfolding checked
  length-checked =
      let a = length-append p zeros in
      omega (arith, length-replicate {A = ℕ} (490 - length p) 0)

  pub length-block : length (block l k p) ≡ 512
  unfolding block
  length-block =
      let a = length-append (checked l k p) (digest_of (checked l k p)) in
      omega (arith, length-checked, length-digest (checked l k p))

  check-right : right_check (block l k p) ≡ true
  unfolding block
  check-right =
      let c = checked l k p in
      rw (take_at c (digest_of c) 496 length-checked, drop_at c (digest_of c) 496 length-checked) (same_refl (digest_of c))

  pub field-block : be16 (block l k p) 0 ≡ length_field l (length p)
  unfolding block checked
  field-block = omega arith

  pub used-block : used (block l k p) ≡ length p
  used-block = go l field-block
    where
      go : (m : Bool) → be16 (block l k p) 0 ≡ length_field m (length p) → used (block l k p) ≡ length p
      go true e = omega arith
      go false e = omega arith

  pub last_block : is_last_block (block l k p) ≡ l
  last_block = go l field-block
    where
      go : (m : Bool) → be16 (block l k p) 0 ≡ length_field m (length p) → is_last_block (block l k p) ≡ m
      go true e = le-leb 32768 (be16 (block l k p) 0) (omega arith)
      go false e = lt-leb 32768 (be16 (block l k p) 0) (omega arith)

  number-block : k < 2 ^ 32 → be32 (block l k p) 2 ≡ k
  unfolding block checked
  number-block j = number-back k j

  -- behind the head
  behind : drop 6 (block l k p) ≡ p ++ (zeros ++ digest_of (checked l k p))
  unfolding block checked
  behind = append_assoc p zeros (digest_of (checked l k p))

  pub payload-block : payload_of (block l k p) ≡ p
  unfolding payload_of
  payload-block = rw (used-block, behind) (take_at p (zeros ++ digest_of (checked l k p)) (length p) refl)

  padding_block : right_padding (block l k p) ≡ true
  padding_block =
      let e : drop (6 + length p) (block l k p) ≡ zeros ++ digest_of (checked l k p) =
      sym (drop-drop (length p) 6 (block l k p)) ∙ ap (drop (length p)) behind ∙ drop_at p (zeros ++ digest_of (checked l k p)) (length p) refl in
      rw (used-block, e, take_at zeros (digest_of (checked l k p)) (490 - length p) (length-replicate {A = ℕ} (490 - length p) 0))
      (zero-zeros (490 - length p))

  -- a block that keeps the rules has no fault
  pub block-sound : (before : ℕ) → k < 2 ^ 32 → right_length k l (length p) ≡ true → before + length p ≤ longest
      → fault_of k false before (block l k p) ≡ 0
  unfolding fault_of right_form
  block-sound before j r s =
      rw (check-right, eq-eqb _ _ (number-block j), padding_block, last_block, used-block, r, le-leb (before + length p) longest s)

-- ---- a block that is read

-- the number of a fault by the three tests of a block: its check, its number and its form
abbrev numbered : Bool → Bool → Bool → ℕ
numbered check number form = pick check (pick number (pick form 0 13) 12) 11

-- what a block without a fault is
pub record Sound (k : ℕ) (ended : Bool) (before : ℕ) (x : List ℕ) : Type 0 where
  pub check : digest_of (take 496 x) ≡ drop 496 x
  pub number : be32 x 2 ≡ k
  pub first : ended ≡ false
  pub size : right_length k (is_last_block x) (used x) ≡ true
  pub padding : right_padding x ≡ true
  pub short : before + used x ≤ longest

pub sound : (k : ℕ) (ended : Bool) (before : ℕ) (x : List ℕ) → fault_of k ended before x ≡ 0 → Sound k ended before x
unfolding fault_of right_form
sound k ended before x = go (right_check x) (eqb (be32 x 2) k) (right_form k ended before x) refl refl refl
  where
    go : (a b d : Bool) → right_check x ≡ a → eqb (be32 x 2) k ≡ b → right_form k ended before x ≡ d → numbered a b d ≡ 0
        → Sound k ended before x
    go false b d p q r e = absurd (omega arith)
    go true false d p q r e = absurd (omega arith)
    go true true false p q r e = absurd (omega arith)
    go true true true p q r e =
        let u = both (not ended) _ r in
        let v = both (right_length k (is_last_block x) (used x)) _ u.1 in
        let w = both (right_padding x) _ v.1 in
        record {
          check = same-eq _ _ p;
          number = eqb-true (be32 x 2) k q;
          first = not-true ended u.0;
          size = v.0;
          padding = w.0;
          short = leb-true (before + used x) longest w.1;
        }

-- the number of a fault
pub fault-numbers : (k : ℕ) (ended : Bool) (before : ℕ) (x : List ℕ) → 0 < fault_of k ended before x → (11 ≤ fault_of k ended before x) × (fault_of k ended before x ≤ 13)
unfolding fault_of
fault-numbers k ended before x = go (right_check x) (eqb (be32 x 2) k) (right_form k ended before x)
  where
    go : (a b d : Bool) → let f = numbered a b d in 0 < f → (11 ≤ f) × (f ≤ 13)
    go false b d h = (omega arith, omega arith)
    go true false d h = (omega arith, omega arith)
    go true true false h = (omega arith, omega arith)
    go true true true h = absurd (omega arith)

-- no block uses more than 490 bytes
pub length_most : (k : ℕ) (last : Bool) (n : ℕ) → right_length k last n ≡ true → n ≤ 490
unfolding right_length
length_most k true n e = leb-true n 490 (both (leb n 490) _ e).0
length_most k false n e = omega (arith, eqb-true n 490 e)

-- ---- the tests of `is_form_right`, one after the other

module _ (k before : ℕ) (x : List ℕ) where
  pub form-length : right_length k (is_last_block x) (used x) ≡ false → false ≡ right_form k false before x
  unfolding right_form
  form-length e = rw e

  -- with the number of used bytes that the code has, and the padding as the code cuts it out
  module _ (e : right_length k (is_last_block x) (used x) ≡ true) (r : ℕ) (n : r ≡ used x) where
    cut : take (496 - (6 + r)) (drop (6 + r) x) ≡ take (490 - used x) (drop (6 + used x) x)
    cut =
        let h : 496 - (6 + r) ≡ 490 - r = omega arith in
        rw (h, n)

    pub form_padding : all_zero (take (496 - (6 + r)) (drop (6 + r) x)) ≡ false → false ≡ right_form k false before x
    unfolding right_form
    form_padding z =
        let p : right_padding x ≡ false = rw cut at z in
        rw (e, p)

    pub form-total : before ≤ longest → all_zero (take (496 - (6 + r)) (drop (6 + r) x)) ≡ true → leb r (longest - before) ≡ right_form k false before x
    unfolding right_form
    form-total h z =
        let p : right_padding x ≡ true = rw cut at z in
        rw (e, p) (go (leb (before + used x) longest) refl)
      where
        go : (t : Bool) → leb (before + used x) longest ≡ t → leb r (longest - before) ≡ t
        go true q = le-leb r (longest - before) (omega (arith, leb-true (before + used x) longest q))
        go false q = lt-leb r (longest - before) (omega (arith, leb-false (before + used x) longest q))

-- the bytes of the numbers in a head, from the bytes that they were read of
field_back : (a b : ℕ) → a < 256 → b < 256 → bytes16 (length_field (leb 32768 (a * 256 + b)) ((a * 256 + b) % 32768)) ≡ a ∷ b ∷ []
field_back a b g h = go (leb 32768 (a * 256 + b)) refl
  where
    bytes : (n : ℕ) → n ≡ a * 256 + b → bytes16 n ≡ a ∷ b ∷ []
    bytes n e =
        let high : n / 256 ≡ a = omega arith in
        let low : n % 256 ≡ b = omega arith in
        rw (high, low)

    go : (t : Bool) → leb 32768 (a * 256 + b) ≡ t → bytes16 (length_field t ((a * 256 + b) % 32768)) ≡ a ∷ b ∷ []
    go true e = bytes (32768 + (a * 256 + b) % 32768) (omega (arith, leb-true 32768 (a * 256 + b) e))
    go false e = bytes ((a * 256 + b) % 32768) (omega (arith, leb-false 32768 (a * 256 + b) e))

bytes_back : (a b c d : ℕ) → a < 256 → b < 256 → c < 256 → d < 256
    → bytes32 (((a * 256 + b) * 256 + c) * 256 + d) ≡ a ∷ b ∷ c ∷ d ∷ []
bytes_back a b c d ha hb hc hd =
    let m = a * 256 + b in
    let n = m * 256 + c in
    let s = n * 256 + d in
    let third : s / 256 ≡ n = above n d hd in
    let second : s / 65536 ≡ m = twice s ∙ ap (λ (i : ℕ). i / 256) third ∙ above m c hc in
    let first : s / 16777216 ≡ a = thrice s ∙ ap (λ (i : ℕ). i / 256) second ∙ above a b hb in
    rw (first, second, third, below a b hb, below m c hc, below n d hd) (ap (λ (i : ℕ). i ∷ b ∷ c ∷ d ∷ []) (omega arith))
  where
    above : (u v : ℕ) → v < 256 → (u * 256 + v) / 256 ≡ u
    above u v h = omega arith

    below : (u v : ℕ) → v < 256 → (u * 256 + v) % 256 ≡ v
    below u v h = omega arith

    twice : (u : ℕ) → u / 65536 ≡ u / 256 / 256
    twice u = omega arith

    thrice : (u : ℕ) → u / 16777216 ≡ u / 65536 / 256
    thrice u = omega arith

-- a list by its first six elements
six : (x : List ℕ) → 6 ≤ length x
    → x ≡ get_or x 0 0 ∷ get_or x 1 0 ∷ get_or x 2 0 ∷ get_or x 3 0 ∷ get_or x 4 0 ∷ get_or x 5 0 ∷ drop 6 x
six [] h = absurd (omega arith)
six (a ∷ []) h = absurd (omega arith)
six (a ∷ b ∷ []) h = absurd (omega arith)
six (a ∷ b ∷ c ∷ []) h = absurd (omega arith)
six (a ∷ b ∷ c ∷ d ∷ []) h = absurd (omega arith)
six (a ∷ b ∷ c ∷ d ∷ e ∷ []) h = absurd (omega arith)
six (a ∷ b ∷ c ∷ d ∷ e ∷ f ∷ r) h = refl

module _ (k : ℕ) (ended : Bool) (before : ℕ) (x : List ℕ) (h : length x ≡ 512) (s : Sound k ended before x) where
  pub most : used x ≤ 490
  most = length_most k (is_last_block x) (used x) s.size

  pub length-payload : length (payload_of x) ≡ used x
  unfolding payload_of
  length-payload = length-take-le (used x) (drop 6 x) (omega (arith, length-drop 6 x, most))

  head-back : Octets x → take 6 x ≡ head_of (is_last_block x) k (used x)
  head-back o =
      let f = field_back (get_or x 0 0) (get_or x 1 0) (o 0) (o 1) in
      let n = bytes_back (get_or x 2 0) (get_or x 3 0) (get_or x 4 0) (get_or x 5 0) (o 2) (o 3) (o 4) (o 5) in
      ap (take 6) (six x (omega arith)) ∙ sym (rw (← s.number) (ap₂ (λ (u v : List ℕ). u ++ v) f n))

  rest_back : take 490 (drop 6 x) ≡ payload_of x ++ replicate (490 - used x) 0
  unfolding payload_of
  rest_back =
      let u = used x in
      let m = most in
      let z = take (490 - u) (drop (6 + u) x) in
      let l : length z ≡ 490 - u = length-take-le (490 - u) (drop (6 + u) x) (omega (arith, length-drop (6 + u) x)) in
      let e : 490 ≡ u + (490 - u) = omega arith in
      let g : z ≡ replicate (490 - u) 0 = rw l at (zeros-only z s.padding) in
      ap (λ (n : ℕ). take n (drop 6 x)) e
      ∙ take-add u (490 - u) (drop 6 x)
      ∙ ap (λ (v : List ℕ). take u (drop 6 x) ++ v) (ap (take (490 - u)) (drop-drop u 6 x) ∙ g)

  checked-back : Octets x → take 496 x ≡ checked (is_last_block x) k (payload_of x)
  unfolding checked
  checked-back o = rw length-payload (take-add 6 490 x ∙ ap₂ (λ (u v : List ℕ). u ++ v) (head-back o) rest_back)

  -- a block without a fault is the one that is written for its payload
  pub block-only : Octets x → x ≡ block (is_last_block x) k (payload_of x)
  unfolding block
  block-only o =
      let e = checked-back o in
      sym (take-append-drop 496 x) ∙ ap₂ (λ (u v : List ℕ). u ++ v) e (sym s.check ∙ ap digest_of e)
