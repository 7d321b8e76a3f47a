-- What is written as a log reads as what it was made of: a frame stands in front, has no fault, and holds its content; and so on to the last.
-- Assumes nothing.
use mathlib.Core.Path.{◌≡◌, refl, sym, ap, ap₂, subst, ◌∙◌}
use mathlib.Core.Bool.{Bool, true, false}
use mathlib.Core.List.{List, [], ◌∷◌, ◌++◌, append_assoc}
use Prim.Native.Nat.{ℕ, zero, suc, ◌+◌, ◌-◌, ◌*◌, ◌/◌, ◌%◌, ◌^◌, ◌≤◌, ◌<◌}
use native.Mathlib.Omega.{arith}
use lib.Dec.{ltb, eqb}
use lib.ListN.{length, take, drop, replicate, length-append, length-replicate}
use lib.Seq.{take_at, drop_at, drop-drop, take-add, length-take-le}
use borrow.Author.Tests.{le-ltb, lt-ltb, ltb-true, ltb-false, eq-eqb}
use Rattle.base.specs.Pick.{pick}
use Rattle.base.specs.Bytes.{be32}
use Rattle.digest.specs.Md5.{digest_of}
use Rattle.digest.proofs.Octets.{length-digest}
use Rattle.archive.specs.Block.{same, all_zero}
use Rattle.archive.proofs.Compare.{same_refl, zero-zeros}
use Rattle.filing.specs.Frame.{Content, filling, check_at, rows_of, check_of, frames_from, log_bytes}
use Rattle.filing.specs.Reading.{Log, log, put_first, size_in, content_of, check_in, frame_fault, read_from, read_log}
use Rattle.filing.specs.Claims.{AllFit, LogReads, FirstOf, CutReads}

-- the number whose four bytes these are
pub number-back : (k : ℕ) → k < 2 ^ 32 → ((k / 16777216 % 256 * 256 + k / 65536 % 256) * 256 + k / 256 % 256) * 256 + k % 256 ≡ k
number-back k h =
    let a : k / 16777216 % 256 ≡ k / 16777216 = omega arith in
    let b : k / 16777216 * 256 + k / 65536 % 256 ≡ k / 65536 = omega arith in
    let c : k / 65536 * 256 + k / 256 % 256 ≡ k / 256 = omega arith in
    rw (a, b, c) (omega arith)

-- ---- a turn that reads no frame

abbrev Nothing-read : Log → Type 0
Nothing-read l = (l.contents ≡ []) × (l.rest ≤ 1)

-- too few bytes for a frame, or for the one that they begin
turn-short : (f : ℕ) (before : List ℕ) (k : ℕ) (y : List ℕ) → (32 ≤ length y → length y < check_at (size_in y) + 16)
    → Nothing-read (read_from (suc f) before k y)
unfolding read_from
turn-short f before k [] h = (refl, omega arith)
turn-short f before k (a ∷ x) h = go (ltb (length (a ∷ x)) 32) refl
  where
    y : List ℕ
    y = a ∷ x

    later : Log
    later =
        pick (eqb (frame_fault before k y) 0) (put_first (content_of y) (read_from f (check_in y) (k + 1) (drop (check_at (size_in y) + 16) y)))
        (log [] (frame_fault before k y))

    go : (t : Bool) → ltb (length y) 32 ≡ t → Nothing-read (pick t (log [] 1) (pick (ltb (length y) (check_at (size_in y) + 16)) (log [] 1) later))
    go true e = (refl, omega arith)
    go false e =
        let s : ltb (length y) (check_at (size_in y) + 16) ≡ true = lt-ltb (length y) (check_at (size_in y) + 16) (h (ltb-false (length y) 32 e)) in
        subst (λ (u : Bool). Nothing-read (pick u (log [] 1) later)) (sym s) (refl, omega arith)

-- ---- one frame, number k, behind the check `before`, in front of `rest`

module _ (w x y z : ℕ) (t : ℕ) (p : List ℕ) (k : ℕ) (before rest : List ℕ) (ht : t < 2 ^ 32) (hp : length p < 2 ^ 32) (hk : k < 2 ^ 32) where
  abbrev c : Content
  c = record { kind = w ∷ x ∷ y ∷ z ∷ []; clock = t; payload = p }

  abbrev zeros : List ℕ
  zeros = replicate (filling (length p)) 0

  abbrev check : List ℕ
  check = check_of before k c

  abbrev whole : List ℕ
  whole = rows_of k c ++ (check ++ rest)

  length-rows : length (rows_of k c) ≡ check_at (length p)
  unfolding rows_of
  length-rows =
      let a = length-append p zeros in
      omega (arith, length-replicate {A = ℕ} (filling (length p)) 0)

  length-check : length check ≡ 16
  unfolding check_of
  length-check = length-digest _

  size_is : size_in whole ≡ length p
  unfolding rows_of
  size_is = number-back (length p) hp

  number_is : be32 whole 4 ≡ k
  unfolding rows_of
  number_is = number-back k hk

  clock_is : be32 whole 12 ≡ t
  unfolding rows_of
  clock_is = number-back t ht

  kind_is : take 4 whole ≡ w ∷ x ∷ y ∷ z ∷ []
  unfolding rows_of
  kind_is = refl

  behind : drop 16 whole ≡ p ++ (zeros ++ (check ++ rest))
  unfolding rows_of
  behind = append_assoc p zeros (check ++ rest)

  payload_is : take (length p) (drop 16 whole) ≡ p
  payload_is = rw (behind) (take_at p (zeros ++ (check ++ rest)) (length p) refl)

  content_is : content_of whole ≡ c
  content_is =
      let a : take (size_in whole) (drop 16 whole) ≡ p = rw (size_is) payload_is in
      rw (a, clock_is, kind_is) refl

  front_is : take (check_at (length p)) whole ≡ rows_of k c
  front_is = take_at (rows_of k c) (check ++ rest) (check_at (length p)) length-rows

  back_is : drop (check_at (length p)) whole ≡ check ++ rest
  back_is = drop_at (rows_of k c) (check ++ rest) (check_at (length p)) length-rows

  check_is : check_in whole ≡ check
  check_is = rw (size_is, back_is) (take_at check rest 16 length-check)

  rest_is : drop (check_at (size_in whole) + 16) whole ≡ rest
  rest_is = rw (size_is, sym (drop-drop 16 (check_at (length p)) whole), back_is) (drop_at check rest 16 length-check)

  padding_is : drop (16 + length p) (rows_of k c) ≡ zeros
  unfolding rows_of
  padding_is = sym (drop-drop {A = ℕ} (length p) 16 (rows_of k c)) ∙ drop_at p zeros (length p) refl

  sound : frame_fault before k whole ≡ 0
  unfolding frame_fault check_of
  sound =
      let a : same (digest_of (before ++ take (check_at (size_in whole)) whole)) (check_in whole) ≡ true =
      rw (check_is, size_is, front_is) (same_refl (digest_of (before ++ rows_of k c))) in
      let b : eqb (be32 whole 4) k ≡ true = rw (number_is) (eq-eqb k k refl) in
      let d : all_zero (drop (16 + size_in whole) (take (check_at (size_in whole)) whole)) ≡ true =
      rw (size_is, front_is, padding_is) (zero-zeros (filling (length p))) in
      rw (a, b, d) refl

  length_whole : length whole ≡ check_at (length p) + 16 + length rest
  length_whole =
      let a = length-append (rows_of k c) (check ++ rest) in
      let b = length-append check rest in
      omega (arith, length-rows, length-check)

  -- a turn of the reader, opened
  opened : (f : ℕ) → read_from (suc f) before k whole
      ≡ pick (ltb (length whole) 32) (log [] 1)
      (pick (ltb (length whole) (check_at (size_in whole) + 16)) (log [] 1)
      (pick (eqb (frame_fault before k whole) 0)
      (put_first (content_of whole) (read_from f (check_in whole) (k + 1) (drop (check_at (size_in whole) + 16) whole)))
      (log [] (frame_fault before k whole))))
  unfolding read_from rows_of
  opened f = refl

  one_frame : (f : ℕ) → read_from (suc f) before k whole ≡ put_first c (read_from f check (k + 1) rest)
  one_frame f =
      let a : ltb (length whole) 32 ≡ false = le-ltb (length whole) 32 (omega (arith, length_whole)) in
      let b : ltb (length whole) (check_at (size_in whole) + 16) ≡ false =
      le-ltb (length whole) (check_at (size_in whole) + 16) (omega (arith, length_whole, size_is)) in
      let d : eqb (frame_fault before k whole) 0 ≡ true = rw (sound) refl in
      opened f ∙ rw (a, b, d, content_is, check_is, rest_is) refl

  -- a cut inside the frame leaves nothing to read
  size-cut : (z : List ℕ) → size_in (take 16 whole ++ z) ≡ length p
  unfolding rows_of
  size-cut z = number-back (length p) hp

  cut_inside : (f n : ℕ) → n < check_at (length p) + 16 → Nothing-read (read_from (suc f) before k (take n whole))
  cut_inside f n h = turn-short f before k (take n whole) (λ (e : 32 ≤ length (take n whole)). short e)
    where
      long : length (take n whole) ≡ n
      long = length-take-le n whole (omega (arith, length_whole))

      short : 32 ≤ length (take n whole) → length (take n whole) < check_at (size_in (take n whole)) + 16
      short e =
          let m : 16 + (n - 16) ≡ n = omega (arith, e, long) in
          let t : take n whole ≡ take 16 whole ++ take (n - 16) (drop 16 whole) = ap (λ (i : ℕ). take i whole) (sym m) ∙ take-add 16 (n - 16) whole in
          let s : size_in (take n whole) ≡ length p = rw (t) (size-cut (take (n - 16) (drop 16 whole))) in
          rw (s, long) h

  -- a cut behind the frame leaves it
  cut-behind : (n : ℕ) → check_at (length p) + 16 ≤ n → take n whole ≡ rows_of k c ++ (check ++ take (n - (check_at (length p) + 16)) rest)
  cut-behind n h =
      let at : ℕ = check_at (length p) + 16 in
      let m : at + (n - at) ≡ n = omega (arith, h) in
      let front : take at whole ≡ rows_of k c ++ check =
      take-add (check_at (length p)) 16 whole ∙ ap₂ (λ (a b : List ℕ). a ++ b) front_is (ap (take 16) back_is ∙ take_at check rest 16 length-check) in
      let back : drop at whole ≡ rest = sym (drop-drop 16 (check_at (length p)) whole) ∙ ap (drop 16) back_is ∙ drop_at check rest 16 length-check in
      ap (λ (i : ℕ). take i whole) (sym m) ∙ take-add at (n - at) whole
      ∙ ap₂ (λ (a b : List ℕ). a ++ take (n - at) b) front back
      ∙ append_assoc (rows_of k c) check (take (n - at) rest)

-- ---- all frames

read-content : (l : List ℕ) (t : ℕ) (p : List ℕ) (k : ℕ) (before rest : List ℕ) (f : ℕ) → length l ≡ 4 → t < 2 ^ 32 → length p < 2 ^ 32 → k < 2 ^ 32
    → let c : Content = record { kind = l; clock = t; payload = p } in
    read_from (suc f) before k (rows_of k c ++ (check_of before k c ++ rest)) ≡ put_first c (read_from f (check_of before k c) (k + 1) rest)
read-content [] t p k before rest f e ht hp hk = absurd (omega (arith, e))
read-content (w ∷ []) t p k before rest f e ht hp hk = absurd (omega (arith, e))
read-content (w ∷ x ∷ []) t p k before rest f e ht hp hk = absurd (omega (arith, e))
read-content (w ∷ x ∷ y ∷ []) t p k before rest f e ht hp hk = absurd (omega (arith, e))
read-content (w ∷ x ∷ y ∷ z ∷ []) t p k before rest f e ht hp hk = one_frame w x y z t p k before rest ht hp hk f
read-content (w ∷ x ∷ y ∷ z ∷ v ∷ l) t p k before rest f e ht hp hk = absurd (omega (arith, e))

read-frames : (cs : List Content) (f : ℕ) (before : List ℕ) (k : ℕ) → AllFit cs → k + length cs ≤ 2 ^ 32 → length cs < f
    → read_from f before k (frames_from before k cs) ≡ log cs 0
unfolding frames_from read_from
read-frames [] zero before k a h l = absurd (omega (arith, l))
read-frames [] (suc f) before k a h l = refl
read-frames (c ∷ cs) zero before k a h l = absurd (omega (arith, l))
read-frames (c ∷ cs) (suc f) before k (four, clock, short, a) h l =
    read-content c.kind c.clock c.payload k before (frames_from (check_of before k c) (k + 1) cs) f four clock short (omega (arith, h))
    ∙ ap (put_first c) (read-frames cs f (check_of before k c) (k + 1) a (omega (arith, h)) (omega (arith, l)))

length_of : (before : List ℕ) (k : ℕ) (c : Content) → length (check_of before k c) ≡ 16
unfolding check_of
length_of before k c = length-digest _

-- a frame is a byte at least, so there are no more frames than bytes
frames-bytes : (cs : List Content) (before : List ℕ) (k : ℕ) → AllFit cs → length cs ≤ length (frames_from before k cs)
unfolding frames_from rows_of
frames-bytes [] before k a = omega arith
frames-bytes (c ∷ cs) before k (four, clock, short, a) =
    let r = check_of before k c in
    let i = length-append (rows_of k c) (r ++ frames_from r (k + 1) cs) in
    let j = length-append r (frames_from r (k + 1) cs) in
    omega (arith, i, j, frames-bytes cs r (k + 1) a, length_of before k c)

pub log-reads : LogReads
unfolding read_log
log-reads cs a h = read-frames cs (length (log_bytes cs) + 1) [] 0 a (omega (arith, h)) (omega (arith, frames-bytes cs [] 0 a))

-- ---- a log that was cut

nothing-first : (cs : List Content) (l : Log) → Nothing-read l → FirstOf cs l
nothing-first cs l (e, h) = record { lost = cs; whole = ap (λ (d : List Content). d ++ cs) e; fine = h }

pushed-first : (c : Content) (cs : List Content) (l : Log) → FirstOf cs l → FirstOf (c ∷ cs) (put_first c l)
pushed-first c cs l w = record { lost = w.lost; whole = ap (λ (d : List Content). c ∷ d) w.whole; fine = w.fine }

cut-content : (l : List ℕ) (t : ℕ) (p : List ℕ) (k : ℕ) (before rest : List ℕ) (f n : ℕ) → length l ≡ 4 → t < 2 ^ 32 → length p < 2 ^ 32 → k < 2 ^ 32
    → (cs : List Content) → let c : Content = record { kind = l; clock = t; payload = p } in
    ((m : ℕ) → FirstOf cs (read_from f (check_of before k c) (k + 1) (take m rest)))
    → FirstOf (c ∷ cs) (read_from (suc f) before k (take n (rows_of k c ++ (check_of before k c ++ rest))))
cut-content [] t p k before rest f n e ht hp hk cs r = absurd (omega (arith, e))
cut-content (w ∷ []) t p k before rest f n e ht hp hk cs r = absurd (omega (arith, e))
cut-content (w ∷ x ∷ []) t p k before rest f n e ht hp hk cs r = absurd (omega (arith, e))
cut-content (w ∷ x ∷ y ∷ []) t p k before rest f n e ht hp hk cs r = absurd (omega (arith, e))
cut-content (w ∷ x ∷ y ∷ z ∷ v ∷ l) t p k before rest f n e ht hp hk cs r = absurd (omega (arith, e))
cut-content (w ∷ x ∷ y ∷ z ∷ []) t p k before rest f n e ht hp hk cs r = go (ltb n (check_at (length p) + 16)) refl
  where
    d : Content
    d = record { kind = w ∷ x ∷ y ∷ z ∷ []; clock = t; payload = p }

    all : List ℕ
    all = rows_of k d ++ (check_of before k d ++ rest)

    go : (b : Bool) → ltb n (check_at (length p) + 16) ≡ b → FirstOf (d ∷ cs) (read_from (suc f) before k (take n all))
    go true i =
        nothing-first (d ∷ cs) (read_from (suc f) before k (take n all))
        (cut_inside w x y z t p k before rest ht hp hk f n (ltb-true n (check_at (length p) + 16) i))
    go false i =
        let m = n - (check_at (length p) + 16) in
        let q = cut-behind w x y z t p k before rest ht hp hk n (ltb-false n (check_at (length p) + 16) i) in
        let o = one_frame w x y z t p k before (take m rest) ht hp hk f in
        subst (λ (u : Log). FirstOf (d ∷ cs) u) (sym (ap (λ (u : List ℕ). read_from (suc f) before k u) q ∙ o))
        (pushed-first d cs (read_from f (check_of before k d) (k + 1) (take m rest)) (r m))

cut-frames : (cs : List Content) (f : ℕ) (before : List ℕ) (k n : ℕ) → AllFit cs → k + length cs ≤ 2 ^ 32
    → FirstOf cs (read_from f before k (take n (frames_from before k cs)))
unfolding frames_from read_from
cut-frames cs zero before k n a h = nothing-first cs (log [] 1) (refl, omega arith)
cut-frames [] (suc f) before k zero a h = nothing-first [] (log [] 0) (refl, omega arith)
cut-frames [] (suc f) before k (suc n) a h = nothing-first [] (log [] 0) (refl, omega arith)
cut-frames (c ∷ cs) (suc f) before k n (four, clock, short, a) h =
    cut-content c.kind c.clock c.payload k before (frames_from (check_of before k c) (k + 1) cs) f n four clock short (omega (arith, h)) cs
    (λ (m : ℕ). cut-frames cs f (check_of before k c) (k + 1) m a (omega (arith, h)))

pub cut-reads : CutReads
unfolding read_log
cut-reads cs n a h = cut-frames cs (length (take n (log_bytes cs)) + 1) [] 0 n a (omega (arith, h))
