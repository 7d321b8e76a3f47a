-- Lines, words and values: what stands before and behind a byte, by places; the lines of a text, one after the other. Assumes nothing.
use mathlib.Core.Path.{◌≡◌, refl, sym, ap, ap₂, ◌∙◌}
use mathlib.Core.Bool.{Bool, true, false, ◌&&◌}
use mathlib.Core.List.{List, [], ◌∷◌}
use mathlib.Core.Option.{none, some}
use Prim.Native.Nat.{ℕ, zero, suc, ◌+◌, ◌-◌, ◌≤◌, ◌<◌}
use native.Mathlib.Omega.{arith}
use native.Mathlib.Numerals.{add-one}
use lib.Dec.{eqb, ltb}
use lib.ListN.{length, get_or, take, drop, length-drop, drop_of_length-le}
use lib.Seq.{take_all, take-take, drop-cons, drop-drop, take-nil, drop-nil}
use borrow.Author.Tests.{eq-eqb, ne_eqb, ltb-true, lt-ltb, le-ltb}
use Rattle.packet.specs.Auth.{same}
use Rattle.packet.proofs.SameBytes.{same-equal}
use Rattle.filing.specs.Lines.{up_to, behind, on_first, lines_of, under, value_for}
use Rattle.filing.specs.Users.{first_user}

-- ---- a byte and its place

pub before-least : (x : ℕ) (l : List ℕ) → length (up_to x l) ≤ length l
unfolding up_to
before-least x [] = omega arith
before-least x (b ∷ l) = go (before-least x l) (eqb b x) refl
  where
    go : length (up_to x l) ≤ length l → (y : Bool) → eqb b x ≡ y → length (up_to x (b ∷ l)) ≤ length (b ∷ l)
    go ih true e = rw e (omega arith)
    go ih false e = rw e (omega (arith, ih))

pub before-take : (x : ℕ) (l : List ℕ) → take (length (up_to x l)) l ≡ up_to x l
unfolding up_to
before-take x [] = refl
before-take x (b ∷ l) = go (before-take x l) (eqb b x) refl
  where
    go : take (length (up_to x l)) l ≡ up_to x l → (y : Bool) → eqb b x ≡ y → take (length (up_to x (b ∷ l))) (b ∷ l) ≡ up_to x (b ∷ l)
    go ih true e = rw e refl
    go ih false e = rw e (ap (λ (m : List ℕ). b ∷ m) ih)

pub behind-drop : (x : ℕ) (l : List ℕ) → behind x l ≡ drop (suc (length (up_to x l))) l
unfolding up_to behind
behind-drop x [] = refl
behind-drop x (b ∷ l) = go (behind-drop x l) (eqb b x) refl
  where
    go : behind x l ≡ drop (suc (length (up_to x l))) l → (y : Bool) → eqb b x ≡ y
        → behind x (b ∷ l) ≡ drop (suc (length (up_to x (b ∷ l)))) (b ∷ l)
    go ih true e = rw e refl
    go ih false e = rw e ih

pub before_here : (x : ℕ) (l : List ℕ) (i : ℕ) → i < length l → get_or l i 0 ≡ x → length (up_to x (drop i l)) ≡ 0
unfolding up_to
before_here x l i h e = rw (drop-cons l i 0 h, eq-eqb (get_or l i 0) x e) refl

pub before-next : (x : ℕ) (l : List ℕ) (i : ℕ) → i < length l → (get_or l i 0 ≡ x → ⊥)
    → length (up_to x (drop i l)) ≡ 1 + length (up_to x (drop (i + 1) l))
unfolding up_to
before-next x l i h n =
    let e : suc (length (up_to x (drop (suc i) l))) ≡ 1 + length (up_to x (drop (i + 1) l)) =
    omega (arith, ap (λ (k : ℕ). length (up_to x (drop k l))) (add-one i)) in
    rw (drop-cons l i 0 h, ne_eqb (get_or l i 0) x n) e

pub before-none : (x : ℕ) (l : List ℕ) (i : ℕ) → length l ≤ i → length (up_to x (drop i l)) ≡ 0
unfolding up_to
before-none x l i h = ap (λ (m : List ℕ). length (up_to x m)) (drop_of_length-le l {i = i} h)

-- ---- lines

-- the first line of a text, and those behind it
pub lines_first : (l : List ℕ) → 0 < length l → lines_of l ≡ up_to 10 l ∷ lines_of (behind 10 l)
unfolding lines_of up_to behind
lines_first [] h = absurd (omega arith)
lines_first (b ∷ l) h = go (on l (lines_first l)) (eqb b 10) refl
  where
    on : (l : List ℕ) → (0 < length l → lines_of l ≡ up_to 10 l ∷ lines_of (behind 10 l))
        → on_first b (lines_of l) ≡ (b ∷ up_to 10 l) ∷ lines_of (behind 10 l)
    on [] ih = refl
    on (c ∷ l) ih = ap (on_first b) (ih (omega arith))

    go : on_first b (lines_of l) ≡ (b ∷ up_to 10 l) ∷ lines_of (behind 10 l) → (y : Bool) → eqb b 10 ≡ y
        → lines_of (b ∷ l) ≡ up_to 10 (b ∷ l) ∷ lines_of (behind 10 (b ∷ l))
    go ih true e = rw e refl
    go ih false e = rw e ih

-- at a place of a text that a line begins at, with the line's length
pub record LineAt (text : List ℕ) (at n : ℕ) : Type 0 where
  pub line : take n (drop at text) ≡ up_to 10 (drop at text)
  pub lines : lines_of (drop at text) ≡ take n (drop at text) ∷ lines_of (drop (at + n + 1) text)
  pub fits : at + n ≤ length text

pub line_at : (text : List ℕ) (at n : ℕ) → at < length text → n ≡ length (up_to 10 (drop at text)) → LineAt text at n
line_at text at n h e =
    let r = drop at text in
    let d = length-drop at text in
    let t : take n r ≡ up_to 10 r = ap (λ (k : ℕ). take k r) e ∙ before-take 10 r in
    let k : at + suc n ≡ at + n + 1 = omega arith in
    let b : behind 10 r ≡ drop (at + n + 1) text =
    behind-drop 10 r ∙ ap (λ (k : ℕ). drop (suc k) r) (sym e) ∙ drop-drop (suc n) at text ∙ ap (λ (k : ℕ). drop k text) k in
    let m = before-least 10 r in
    record {
      line = t;
      lines = lines_first r (omega (arith, d)) ∙ ap₂ (λ (l : List ℕ) (ls : List (List ℕ)). l ∷ ls) (sym t) (ap lines_of b);
      fits = omega (arith, d, m, e);
    }

-- the same, for a text of which the code lends the rest
pub line_found : (text : List ℕ) (at n : ℕ) → at < length text → n ≡ length (up_to 10 (take (length text - at) (drop at text))) → LineAt text at n
line_found text at n h e =
    line_at text at n h (e ∙ ap (λ (l : List ℕ). length (up_to 10 l)) (take_all (length text - at) (drop at text) (omega
    (arith, length-drop at text))))

pub no_lines : (text : List ℕ) (at : ℕ) → length text ≤ at → lines_of (drop at text) ≡ []
unfolding lines_of
no_lines text at h = ap lines_of (drop_of_length-le text {i = at} h)

-- ---- a word and a value

and_both : (a b : Bool) → (a && b) ≡ true → (a ≡ true) × (b ≡ true)
and_both true b e = (refl, e)
and_both false b e = let z : ◌≡◌ {A = ℕ} 0 1 = cc in absurd (omega arith)

pub under-word : (x : ℕ) (w l : List ℕ) → under x w l ≡ true → up_to x l ≡ w
unfolding under
under-word x w l e = same-equal (up_to x l) w (and_both (ltb (length (up_to x l)) (length l)) (same (up_to x l) w) e).1

pub under-size : (x : ℕ) (w l : List ℕ) → under x w l ≡ true → length w < length l
unfolding under
under-size x w l e =
    let h = ltb-true (length (up_to x l)) (length l) (and_both (ltb (length (up_to x l)) (length l)) (same (up_to x l) w) e).0 in
    omega (arith, h, ap length (under-word x w l e))

drop-take : (k n : ℕ) (l : List ℕ) → drop k (take n l) ≡ take (n - k) (drop k l)
drop-take zero n l = let z : n ≡ n - 0 = omega arith in ap (λ (m : ℕ). take m l) z
drop-take (suc k) zero l =
    let z : 0 ≡ 0 - suc k = omega arith in
    drop-nil (suc k) ∙ ap (λ (m : ℕ). take m (drop (suc k) l)) z
drop-take (suc k) (suc n) [] = sym (take-nil (suc n - suc k))
drop-take (suc k) (suc n) (b ∷ l) =
    let z : n - k ≡ suc n - suc k = omega arith in
    drop-take k n l ∙ ap (λ (m : ℕ). take m (drop k l)) z

-- the value behind a word, as a place of the text
pub value-here : (text w : List ℕ) (x at n : ℕ) → LineAt text at n → under x w (take n (drop at text)) ≡ true
    → some (take (at + n - (at + length w + 1)) (drop (at + length w + 1) text)) ≡ value_for x w (lines_of (drop at text))
unfolding value_for
value-here text w x at n k e =
    let l = take n (drop at text) in
    let i : n - suc (length w) ≡ at + n - (at + length w + 1) = omega arith in
    let j : at + suc (length w) ≡ at + length w + 1 = omega arith in
    let v : behind x l ≡ take (at + n - (at + length w + 1)) (drop (at + length w + 1) text) =
    behind-drop x l ∙ ap (λ (m : List ℕ). drop (suc (length m)) l) (under-word x w l e) ∙ drop-take (suc (length w)) n (drop at text)
    ∙ ap₂ (λ (a : ℕ) (m : List ℕ). take a m) i (drop-drop (suc (length w)) at text ∙ ap (λ (a : ℕ). drop a text) j) in
    sym (ap (value_for x w) k.lines ∙ rw e (ap some v))

pub value-later : (text w : List ℕ) (x at n : ℕ) → LineAt text at n → under x w (take n (drop at text)) ≡ false
    → value_for x w (lines_of (drop at text)) ≡ value_for x w (lines_of (drop (at + n + 1) text))
unfolding value_for
value-later text w x at n k e = ap (value_for x w) k.lines ∙ rw e refl

pub value_none : (text w : List ℕ) (x at : ℕ) → length text ≤ at → none ≡ value_for x w (lines_of (drop at text))
unfolding value_for
value_none text w x at h = sym (ap (value_for x w) (no_lines text at h))

-- the code's part from the line's start up to its end
pub part_is : (text : List ℕ) (at n : ℕ) → take (at + n - at) (drop at text) ≡ take n (drop at text)
part_is text at n = let z : at + n - at ≡ n = omega arith in ap (λ (k : ℕ). take k (drop at text)) z

-- whether a line is under a word
pub not-under : (x : ℕ) (w l : List ℕ) → length l ≤ length (up_to x l) → false ≡ under x w l
unfolding under
not-under x w l h = rw (le-ltb (length (up_to x l)) (length l) h) refl

pub under_by : (x : ℕ) (w l : List ℕ) (n : ℕ) (r : Bool) → n ≡ length (up_to x l) → n < length l → r ≡ same (take (n - 0) (drop 0 l)) w → r
    ≡ under x w l
unfolding under
under_by x w l n r e h p =
    let z : n - 0 ≡ n = omega arith in
    let a : take n l ≡ up_to x l = ap (λ (k : ℕ). take k l) e ∙ before-take x l in
    let b : r ≡ same (up_to x l) w = p ∙ ap (λ (k : ℕ). same (take k l) w) z ∙ ap (λ (m : List ℕ). same m w) a in
    b ∙ sym (rw (lt-ltb (length (up_to x l)) (length l) (omega (arith, e))) refl)

-- the user id of the first line, which is the front of the text
pub first-user : (text l : List ℕ) (end n : ℕ) → end ≡ length (up_to 10 text) → l ≡ take (end - 0) (drop 0 text) → n ≡ length (up_to 9 l)
    → take (n - 0) (drop 0 text) ≡ first_user text
unfolding first_user
first-user text l end n e q p =
    let z : end - 0 ≡ end = omega arith in
    let y : n - 0 ≡ n = omega arith in
    let a : l ≡ up_to 10 text = q ∙ ap (λ (k : ℕ). take k text) (z ∙ e) ∙ before-take 10 text in
    let b : n ≡ length (up_to 9 (up_to 10 text)) = p ∙ ap (λ (m : List ℕ). length (up_to 9 m)) a in
    let h = before-least 9 (up_to 10 text) in
    ap (λ (k : ℕ). take k text) y ∙ sym (take-take n (length (up_to 10 text)) text (omega (arith, b, h)))
    ∙ ap (take n) (before-take 10 text) ∙ ap (λ (k : ℕ). take k (up_to 10 text)) b ∙ before-take 9 (up_to 10 text)
