-- Bytes in the middle of a packet, or all of its bytes, taken at once are the same bytes taken one by one. Assumes nothing.
use mathlib.Core.Path.{◌≡◌, refl, sym, ap, ◌∙◌}
use mathlib.Core.List.{List, ◌++◌}
use mathlib.Core.Bool.{Bool, true, false}
use Prim.Native.Nat.{ℕ, zero, suc, ◌+◌, ◌-◌, ◌≤◌, ◌<◌}
use native.Mathlib.Omega.{arith}
use lib.ListN.{length, get_or, set, take, drop, length-append, length-drop, get_or-append}
use lib.Dec.{ltb}
use lib.Seq.{paste, paste-zero, paste-suc, length-take-le, get_or-take, take-take, drop-cons, drop-drop}
use borrow.Author.Tests.{le-ltb, lt-leb, le-leb, ltb-false}
use Rattle.base.specs.Bytes.{be16}
use Rattle.incoming.specs.declared.frame.Frame.{Frame}
use Rattle.incoming.specs.declared.frame.Frame.TheVariants.{More, Whole}
use Rattle.incoming.specs.Frame.{frames, frames_at, framed, frame_end}

-- what stands before a paste stays
kept : (p xs : List ℕ) (b j k : ℕ) → k < b → b ≤ length p → get_or (paste p b xs j) k 0 ≡ get_or p k 0
kept p xs b j k h l =
    get_or-append (take b p ++ take j xs) (drop (b + j) p) 0 k
    (omega (arith, length-append (take b p) (take j xs), length-take-le b p l))
    ∙ get_or-append (take b p) (take j xs) 0 k (omega (arith, length-take-le b p l))
    ∙ get_or-take b p k 0 h

goes_on : (n b : ℕ) (q : List ℕ) → be16 q 1 ≡ n → 3 ≤ b → b < n → More ≡ frame_end q b
unfolding frame_end
goes_on n b q e h k = simp (le-ltb b 3 h, e, le-ltb n 3 (omega arith), lt-leb n b k)

move : (p q xs ys : List ℕ) (b c t u : ℕ) → p ≡ q → b ≡ c → t ≡ u → xs ≡ ys → framed p b t xs ≡ framed q c u ys
move p q xs ys b c t u e f g h = rw (e, f, g, h)

-- a byte of the input, by where the frame stands after it
turn_as : (f : Frame) (p q xs : List ℕ) (b t j : ℕ) → j < length xs → set p b (get_or xs j 0) ≡ q → f ≡ frame_end q (b + 1)
    → framed p b t (drop j xs) ≡ frames_at f (b + 1) (t + 1) q (framed q (b + 1) (t + 1) (drop (suc j) xs))
unfolding framed
turn_as f p q xs b t j h e g = rw (drop-cons xs j 0 h, e, ← g)

-- `m` bytes after each of which the packet goes on
jump : (p xs : List ℕ) (b t m : ℕ) → ((j : ℕ) → j < m → More ≡ frame_end (paste p b xs (suc j)) (b + j + 1)) → m ≤ length xs → b + m ≤ length p
    → framed p b t xs ≡ framed (paste p b xs m) (b + m) (t + m) (drop m xs)
jump p xs b t zero h l k =
    move p (paste p b xs zero) xs (drop zero xs) b (b + zero) t (t + zero) (paste-zero p b xs) (omega arith) (omega arith) refl
jump p xs b t (suc j) h l k =
    jump p xs b t j (λ i m. h i (omega arith)) (omega arith) (omega arith)
    ∙ turn_as More (paste p b xs j) (paste p b xs (suc j)) xs (b + j) (t + j) j (omega arith) (paste-suc p b xs j 0 (omega arith) (omega arith))
    (h j (omega arith))
    ∙ move (paste p b xs (suc j)) (paste p b xs (suc j)) (drop (suc j) xs) (drop (suc j) xs) (b + j + 1) (b + suc j) (t + j + 1) (t + suc j)
    refl (omega arith) (omega arith) refl

-- in the middle of a packet its length field stands already
middle : (p xs : List ℕ) (b m : ℕ) → (0 < m → (3 ≤ b) × (b + m < be16 p 1)) → b + m ≤ length p
    → (j : ℕ) → j < m → More ≡ frame_end (paste p b xs (suc j)) (b + j + 1)
middle p xs b m h k j l =
    let o = h (omega arith) in
    let word : be16 (paste p b xs (suc j)) 1 ≡ be16 p 1 =
    rw (kept p xs b (suc j) 1 (omega (arith, o.0)) (omega arith), kept p xs b (suc j) (1 + 1) (omega (arith, o.0)) (omega arith)) in
    goes_on (be16 p 1) (b + j + 1) (paste p b xs (suc j)) word (omega (arith, o.0)) (omega (arith, o.1))

-- as the code does it: from place i of the input
pub jumped : (p q input : List ℕ) (b i m : ℕ) → (0 < m → (3 ≤ b) × (b + m < be16 p 1)) → i + m ≤ length input → b + m ≤ length p
    → q ≡ paste p b (take (i + m - i) (drop i input)) (length (take (i + m - i) (drop i input)))
    → framed p b i (drop i input) ≡ framed q (b + m) (i + m) (drop (i + m) input)
jumped p q input b i m h l k e =
    let xs = drop i input in
    let s : i + m - i ≡ m = omega arith in
    let n : length (take m xs) ≡ m = length-take-le m xs (omega (arith, length-drop i input)) in
    let same : paste p b (take (i + m - i) xs) (length (take (i + m - i) xs)) ≡ paste p b xs m =
    rw (s, n, take-take m m xs (omega arith)) in
    jump p xs b i m (middle p xs b m h k) (omega (arith, length-drop i input)) k
    ∙ move (paste p b xs m) q (drop m xs) (drop (i + m) input) (b + m) (b + m) (i + m) (i + m) (sym (e ∙ same)) refl refl (drop-drop m i input)

-- ---- a whole packet, from its first byte

-- what is pasted to the front stands there
pasted : (p xs : List ℕ) (j k : ℕ) → k < j → j ≤ length xs → get_or (paste p 0 xs j) k 0 ≡ get_or xs k 0
pasted p xs j k h l =
    get_or-append (take 0 p ++ take j xs) (drop (0 + j) p) 0 k (omega (arith, length-take-le j xs l)) ∙ get_or-take j xs k 0 h

field : (p xs : List ℕ) (j : ℕ) → 3 ≤ j → j ≤ length xs → be16 (paste p 0 xs j) 1 ≡ be16 xs 1
field p xs j h l = rw (pasted p xs j 1 (omega arith) l, pasted p xs j (1 + 1) (omega arith) l)

-- before its last byte the packet goes on
before_last : (p xs : List ℕ) (n : ℕ) → be16 xs 1 ≡ n → n ≤ length xs → (j : ℕ) → j + 1 < n → More ≡ frame_end (paste p 0 xs (suc j)) (0 + j + 1)
unfolding frame_end
before_last p xs n e l j h = go (ltb (0 + j + 1) 3) refl
  where
    go : (t : Bool) → ltb (0 + j + 1) 3 ≡ t → More ≡ frame_end (paste p 0 xs (suc j)) (0 + j + 1)
    go true k = simp k
    go false k =
        let w : 3 ≤ 0 + j + 1 = ltb-false _ _ k in
        goes_on n (0 + j + 1) (paste p 0 xs (suc j)) (field p xs (suc j) (omega arith) (omega arith) ∙ e) (omega arith) (omega arith)

-- with its last byte the packet is whole
at_last : (n : ℕ) (q : List ℕ) → be16 q 1 ≡ n → 3 ≤ n → Whole ≡ frame_end q n
unfolding frame_end
at_last n q e h = let k : n ≤ n = omega arith in simp (e, le-ltb n 3 h, le-leb n n k)

whole : (p xs : List ℕ) (m : ℕ) → be16 xs 1 ≡ m + 1 → 3 ≤ m + 1 → m + 1 ≤ length xs → m + 1 ≤ length p
    → framed p 0 0 xs ≡ frames (record { begun = m + 1; taken = m + 1; frame = Whole }) (paste p 0 xs (suc m))
whole p xs m e h l k =
    let zero-on : m ≡ 0 + m = omega arith in
    jump p xs 0 0 m (λ j i. before_last p xs (m + 1) e l j (omega arith)) (omega arith) (omega arith)
    ∙ move (paste p 0 xs m) (paste p 0 xs m) (drop m xs) (drop m xs) (0 + m) m (0 + m) m refl (omega arith) (omega arith) refl
    ∙ turn_as Whole (paste p 0 xs m) (paste p 0 xs (suc m)) xs m m m (omega arith) (ap (λ (b : ℕ). set (paste p 0 xs m) b (get_or xs m 0)) zero-on ∙ paste-suc p 0 xs m 0 (omega arith) (omega arith))
    (at_last (m + 1) (paste p 0 xs (suc m)) (field p xs (suc m) (omega arith) (omega arith) ∙ e) h)

-- as the code does it
pub whole_at_once : (p q xs : List ℕ) (n : ℕ) → n ≡ be16 xs 1 → 3 ≤ n → n ≤ length xs → n ≤ length p
    → q ≡ paste p 0 (take n xs) (length (take n xs))
    → frames (record { begun = n; taken = n; frame = Whole }) q ≡ framed p 0 0 xs
whole_at_once p q xs zero e h l k w = absurd (omega arith)
whole_at_once p q xs (suc m) e h l k w =
    let i : suc m ≡ m + 1 = omega arith in
    let n : length (take (suc m) xs) ≡ suc m = length-take-le (suc m) xs l in
    let same : paste p 0 (take (suc m) xs) (length (take (suc m) xs)) ≡ paste p 0 xs (suc m) =
    rw (n, take-take (suc m) (suc m) xs (omega arith)) in
    ap (λ (q : List ℕ). frames (record { begun = suc m; taken = suc m; frame = Whole }) q) (w ∙ same)
    ∙ ap (λ (n : ℕ). frames (record { begun = n; taken = n; frame = Whole }) (paste p 0 xs (suc m))) i
    ∙ sym (whole p xs m (sym e ∙ i) (omega arith) (omega arith) (omega arith))
