-- A block of a longer list, laid out part by part. Assumes nothing.
use Rattle.std.proofs.Common.{◌≡◌, ℕ, zero, suc, ◌+◌, ◌-◌, ◌<◌, ◌≤◌, min, Bool, true, false, ltb, ◌⊎◌, List, [], ◌∷◌, ◌++◌, length, get_or, take, drop, replicate, sym, refl, ap, ◌∙◌, subst, inl, inr, ⊎_elim, append_assoc, arith, length-append, length-drop, length-take, length-take-le, get_or-drop, get_or-take, take-take, get_or-append-add, ext_get_or, ltb-false, ltb-true}
use native.Mathlib.Nat.{min-le_right}
use lib.ListN.{length-replicate, get_or-replicate, get_or-append, get_or-eq_default}
use lib.Seq.{paste, length-paste, length_paste_head, drop-append-add}
use Rattle.digest.specs.declared.md5.Span.{Span}
use Rattle.digest.specs.Md5.{zeros, padded}
use Rattle.digest.specs.Turn.{span_of, part_laid}
use Rattle.digest.proofs.Padded.{field, in_part}

-- ---- an element of a paste: before what is pasted, in it, after it

module _ (d : List ℕ) (at : ℕ) (s : List ℕ) (n : ℕ) (hd : at + n ≤ length d) (hs : n ≤ length s) where
  head : length (take at d ++ take n s) ≡ at + n
  head = length_paste_head d at s n (omega arith) hs

  pub get_d_paste-before : (k : ℕ) → k < at → get_or (paste d at s n) k 0 ≡ get_or d k 0
  get_d_paste-before k h =
      get_or-append (take at d ++ take n s) (drop (at + n) d) 0 k (omega (arith, head))
      ∙ get_or-append (take at d) (take n s) 0 k (omega (arith, length-take-le at d (omega arith)))
      ∙ get_or-take at d k 0 h

  pub get_d_paste_in : (j : ℕ) → j < n → get_or (paste d at s n) (at + j) 0 ≡ get_or s j 0
  get_d_paste_in j h =
      get_or-append (take at d ++ take n s) (drop (at + n) d) 0 (at + j) (omega (arith, head))
      ∙ ap (λ (a : ℕ). get_or (take at d ++ take n s) (a + j) 0) (sym (length-take-le at d (omega arith)))
      ∙ get_or-append-add (take at d) (take n s) j 0
      ∙ get_or-take n s j 0 h

  pub get_d_paste-after : (j : ℕ) → get_or (paste d at s n) (at + n + j) 0 ≡ get_or d (at + n + j) 0
  get_d_paste-after j =
      ap (λ (a : ℕ). get_or (paste d at s n) (a + j) 0) (sym head)
      ∙ get_or-append-add (take at d ++ take n s) (drop (at + n) d) j 0
      ∙ get_or-drop (at + n) d j 0

-- ---- the block

-- b is the 64 elements of w from at on, with zeros past its end
pub record Shows (b : List ℕ) (at : ℕ) (w : List ℕ) : Type 0 where
  pub size : length b ≡ 64
  pub same : (k : ℕ) → k < 64 → get_or b k 0 ≡ get_or w (at + k) 0

pub shows-none : (at : ℕ) → Shows (replicate 64 0) at []
shows-none at = record { size = refl; same = λ k h. get_or-replicate 64 k 0 0 h }

less_or_not : (x y : ℕ) → (x < y) ⊎ (y ≤ x)
less_or_not x y = go (ltb x y) refl
  where
    go : (t : Bool) → ltb x y ≡ t → (x < y) ⊎ (y ≤ x)
    go true e = inl (ltb-true x y e)
    go false e = inr (ltb-false x y e)

-- zeros at the end are what stands past the end
zeros-more : (w : List ℕ) (z k : ℕ) → get_or (w ++ replicate z 0) k 0 ≡ get_or w k 0
zeros-more [] zero k = refl
zeros-more [] (suc z) zero = refl
zeros-more [] (suc z) (suc k) = zeros-more [] z k
zeros-more (x ∷ w) z zero = refl
zeros-more (x ∷ w) z (suc k) = zeros-more w z k

under : (p m x : ℕ) → p ≤ m → (p + min (m - p) x ≤ m) × (p + min x (m - p) ≤ m)
under p m x h = (omega arith, omega arith)

both-lt : (x y : ℕ) {i : ℕ} → i < x → i < y → i < min x y
both-lt x y a b = omega arith

within : (p : ℕ) {c m k : ℕ} → c ≤ m → p + m ≤ k → p + c ≤ k
within p h b = omega arith

gap : {x k : ℕ} → x ≤ k → (i : ℕ) × (x + i ≡ k)
gap {x} {k} h = (k - x, omega arith)

module _ (at from n : ℕ) where
  -- what falls into the block fits it, and is of the part
  pub span_fits : (span_of at from n).place + (span_of at from n).count ≤ 64
  unfolding span_of
  span_fits = (under (min (from - at) 64) 64 (n - min (at - from) n) (omega arith)).0

  pub span_within : (span_of at from n).skip + (span_of at from n).count ≤ n
  unfolding span_of
  span_within = (under (min (at - from) n) n (64 - min (from - at) 64) (omega arith)).1

  -- before from nothing is stored
  span_before : (k : ℕ) → k < 64 → at + k < from → k < (span_of at from n).place
  unfolding span_of
  span_before k h l = omega arith

  -- from there on the part's elements, each in its place
  span_in : (k j : ℕ) → k < 64 → at + k ≡ from + j → j < n
      → (i : ℕ) × (((span_of at from n).place + i ≡ k) × ((span_of at from n).skip + i ≡ j) × (i < (span_of at from n).count))
  unfolding span_of
  span_in k j h e l =
      let p = min (from - at) 64 in
      let s = min (at - from) n in
      let b : p ≤ k = omega arith in
      let g = gap b in
      let f : s + g.0 ≡ j = omega (arith, g.1) in
      (g.0, (g.1, f, both-lt (64 - p) (n - s) (omega (arith, g.1)) (omega arith)))

  -- and after the part nothing
  span_after : (k j : ℕ) → k < 64 → at + k ≡ from + j → n ≤ j
      → (i : ℕ) × ((span_of at from n).place + (span_of at from n).count + i ≡ k)
  unfolding span_of
  span_after k j h e l =
      let p = min (from - at) 64 in
      let s = min (at - from) n in
      let b : p + (n - s) ≤ k = omega arith in
      gap (within p (min-le_right (64 - p) (n - s)) b)

-- a part more: laid at from, where what is shown so far ends
module _ (b w part : List ℕ) (at from : ℕ) (shown : Shows b at w) (ends : length w ≡ from) where
  p : ℕ
  p = (span_of at from (length part)).place

  rest : List ℕ
  rest = drop (span_of at from (length part)).skip part

  n : ℕ
  n = (span_of at from (length part)).count

  fits : p + n ≤ length b
  unfolding p n
  fits = omega (arith, span_fits at from (length part), shown.size)

  enough : n ≤ length rest
  unfolding n rest
  enough = omega (arith, span_within at from (length part), length-drop (span_of at from (length part)).skip part)

  -- before the part
  more-before : (k : ℕ) → k < 64 → at + k < from → get_or (part_laid b at part from) k 0 ≡ get_or (w ++ part) (at + k) 0
  unfolding part_laid p rest n
  more-before k h l =
      get_d_paste-before b p rest n fits enough k (span_before at from (length part) k h l)
      ∙ shown.same k h
      ∙ sym (get_or-append w part 0 (at + k) (omega arith))

  -- from it on, j elements further
  module _ (k j : ℕ) (h : k < 64) (e : at + k ≡ from + j) where
    after : get_or (w ++ part) (at + k) 0 ≡ get_or part j 0
    after =
        let i : at + k ≡ length w + j = omega arith in
        ap (λ (x : ℕ). get_or (w ++ part) x 0) i ∙ get_or-append-add w part j 0

    more_in : j < length part → get_or (part_laid b at part from) k 0 ≡ get_or (w ++ part) (at + k) 0
    unfolding part_laid p rest n
    more_in l =
        let s = span_in at from (length part) k j h e l in
        ap (λ (x : ℕ). get_or (part_laid b at part from) x 0) (sym s.1.0)
        ∙ get_d_paste_in b p rest n fits enough s.0 s.1.2
        ∙ get_or-drop (span_of at from (length part)).skip part s.0 0
        ∙ ap (λ (x : ℕ). get_or part x 0) s.1.1
        ∙ sym after

    more-after : length part ≤ j → get_or (part_laid b at part from) k 0 ≡ get_or (w ++ part) (at + k) 0
    unfolding part_laid p rest n
    more-after l =
        let s = span_after at from (length part) k j h e l in
        ap (λ (x : ℕ). get_or (part_laid b at part from) x 0) (sym s.1)
        ∙ get_d_paste-after b p rest n fits enough s.0
        ∙ ap (λ (x : ℕ). get_or b x 0) s.1
        ∙ shown.same k h
        ∙ get_or-eq_default w 0 (omega arith)
        ∙ sym (after ∙ get_or-eq_default part 0 l)

  pub shows_more : Shows (part_laid b at part from) at (w ++ part)
  unfolding part_laid p rest n
  shows_more =
      record {
        size = length-paste b p rest n fits enough ∙ shown.size;
        same = λ k h.
            ⊎_elim (more-before k h)
            (λ (l : from ≤ at + k).
            let j = at + k - from in
            let e : at + k ≡ from + j = omega arith in
            ⊎_elim (more_in k j h e) (more-after k j h e) (less_or_not j (length part)))
            (less_or_not (at + k) from);
      }

-- the code's copy is the part laid
pub laid_copy : (b part : List ℕ) (at from : ℕ) (s : Span) → s ≡ span_of at from (length part) → s.skip + s.count ≤ length part
    → (let taken = take (s.skip + s.count - s.skip) (drop s.skip part) in paste b s.place taken (length taken))
    ≡ part_laid b at part from
unfolding part_laid
laid_copy b part at from s e h =
    let l = drop s.skip part in
    let r : s.skip + s.count - s.skip ≡ s.count = omega arith in
    let n : length (take s.count l) ≡ s.count = length-take-le s.count l (omega (arith, length-drop s.skip part)) in
    let t : take s.count (take s.count l) ≡ take s.count l = take-take s.count s.count l (omega arith) in
    rw (r, n, t) (ap (λ (x : Span). paste b x.place (drop x.skip part) x.count) e)

-- zeros more
pub shows-zeros : (b w : List ℕ) (at z : ℕ) → Shows b at w → Shows b at (w ++ replicate z 0)
shows-zeros b w at z shown =
    record {
      size = shown.size;
      same = λ k h. shown.same k h ∙ sym (zeros-more w z (at + k));
    }

-- a list that has p's elements from at on is that part of p
is_part : (b p : List ℕ) (at : ℕ) → at + length b ≤ length p → ((k : ℕ) → k < length b → get_or b k 0 ≡ get_or p (at + k) 0)
    → b ≡ take (length b) (drop at p)
is_part b p at h same =
    ext_get_or 0 b (take (length b) (drop at p))
    (omega (arith, length-take (length b) (drop at p), length-drop at p))
    (λ k l. same k l ∙ sym (get_or-take (length b) (drop at p) k 0 l ∙ get_or-drop at p k 0))

-- all of a block that the list has
pub shows-all : (b w : List ℕ) (at : ℕ) → Shows b at w → at + 64 ≤ length w → b ≡ take 64 (drop at w)
shows-all b w at shown h =
    rw shown.size at (is_part b w at (omega (arith, shown.size)) (λ k l. shown.same k (omega (arith, shown.size))))

-- ---- the padded message

-- the parts of it that are not zeros, laid in a block of zeros
abbrev pub parts : List ℕ → List ℕ → ℕ → List ℕ
parts prefix rest at =
    let n = length prefix + length rest in
    part_laid (part_laid (part_laid (part_laid (replicate 64 0) at prefix 0) at rest (length prefix)) at (128 ∷ []) n) at (field (prefix ++ rest)) (n + 1 + zeros n)

pub shows-padded : (prefix rest : List ℕ) (at : ℕ) → Shows (parts prefix rest at) at (padded (prefix ++ rest))
unfolding padded
shows-padded prefix rest at =
    let m = prefix ++ rest in
    let n = length prefix + length rest in
    let z = replicate {A = ℕ} (zeros n) 0 in
    let l = length-append prefix rest in
    let first = shows_more (replicate 64 0) [] prefix at 0 (shows-none at) refl in
    let second = shows_more _ prefix rest at (length prefix) first refl in
    let third = shows_more _ m (128 ∷ []) at n second l in
    let fourth = shows-zeros _ (m ++ (128 ∷ [])) at (zeros n) third in
    let long : length (m ++ (128 ∷ []) ++ z) ≡ n + 1 + zeros n =
    omega (arith, l, length-append (m ++ (128 ∷ [])) z, length-append m (128 ∷ []), length-replicate {A = ℕ} (zeros n) 0) in
    let fifth = shows_more _ (m ++ (128 ∷ []) ++ z) (field m) at (n + 1 + zeros n) fourth long in
    let whole : m ++ (128 ∷ []) ++ z ++ field m ≡ padded m =
    append_assoc (m ++ (128 ∷ [])) z (field m)
    ∙ append_assoc m (128 ∷ []) (z ++ field m)
    ∙ ap (λ (k : ℕ). m ++ (128 ∷ (replicate (zeros k) 0 ++ field m))) (sym l) in
    subst (λ (w : List ℕ). Shows (parts prefix rest at) at w) whole fifth

-- a part of what follows the prefix is that part of the padded message
pub in_rest : (p r : List ℕ) (at n : ℕ) → length p ≤ at → at + n ≤ length p + length r
    → take n (drop at (padded (p ++ r))) ≡ take n (drop (at - length p) r)
in_rest p r at n l h =
    let e : at ≡ length p + (at - length p) = omega arith in
    in_part (p ++ r) at n (omega (arith, length-append p r))
    ∙ ap (λ (k : ℕ). take n (drop k (p ++ r))) e
    ∙ ap (take n) (drop-append-add p r (at - length p))
