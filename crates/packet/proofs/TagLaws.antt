-- The laws of tag lists: `tags` by what the bytes are, and by what the cursor finds. Assumes nothing.
use mathlib.Core.Path.{◌≡◌, refl, sym, ap, ◌∙◌, subst}
use mathlib.Core.Bool.{Bool, true, false}
use mathlib.Core.List.{List, [], ◌∷◌}
use Prim.Native.Nat.{ℕ, zero, suc, ◌+◌, ◌-◌, ◌≤◌, ◌<◌}
use native.Mathlib.Omega.{arith}
use native.Mathlib.Numerals.{add-one}
use lib.ListN.{length, get_or, set, take, drop, length-drop, drop_of_length-le}
use lib.Seq.{drop-cons, drop-drop, length-take-le}
use lib.Dec.{leb, ltb}
use borrow.Author.Tests.{leb-true, leb-false, ltb-true, ltb-false, le-leb, lt-leb}
use Rattle.base.specs.Pick.{pick}
use Rattle.base.specs.Place.{Place, span}
use Rattle.packet.specs.declared.tlv.TagAt.{TagAt}
use Rattle.packet.specs.declared.tlv.TagAt.TheVariants.{At, Bad, End}
use Rattle.packet.specs.Tags.{Tag, Tags, unreadable, tag_list, push, tags_by, tags, is_readable, tag_at, counts, last_from, last_in}
use Rattle.packet.specs.Placed.{laid}
use Rattle.packet.proofs.Laid.{set-laid, set_more, laid-append}

-- any fuel over the length gives the same
enough : (f g : ℕ) (s : List ℕ) → length s < f → length s < g → tags_by f s ≡ tags_by g s
unfolding tags_by
enough zero g s h k = absurd (omega arith)
enough (suc f) zero s h k = absurd (omega arith)
enough (suc f) (suc g) [] h k = refl
enough (suc f) (suc g) (t ∷ []) h k = refl
enough (suc f) (suc g) (t ∷ n ∷ s) h k =
    ap (λ (r : Tags). pick (leb n (length s)) (push (record { tag = t; value = take n s }) r) unreadable)
    (enough f g (drop n s) (omega (arith, length-drop n s)) (omega (arith, length-drop n s)))

-- ---- by what the bytes are

pub tags-end : tags [] ≡ tag_list []
unfolding tags tags_by
tags-end = refl

pub tags-cut : (t : ℕ) → tags (t ∷ []) ≡ unreadable
unfolding tags tags_by
tags-cut t = refl

pub tags-cons : (t n : ℕ) (s : List ℕ)
    → tags (t ∷ n ∷ s) ≡ pick (leb n (length s)) (push (record { tag = t; value = take n s }) (tags (drop n s))) unreadable
unfolding tags tags_by
tags-cons t n s =
    ap (λ (r : Tags). pick (leb n (length s)) (push (record { tag = t; value = take n s }) r) unreadable)
    (enough (suc (suc (length s))) (suc (length (drop n s))) (drop n s) (omega (arith, length-drop n s)) (omega arith))

-- ---- by what the cursor finds

-- a tag at a place: its value starts two bytes on and ends within the payload, and the list there is it and what follows it
pub record Here (s : List ℕ) (at t b n : ℕ) : Type 0 where
  pub start : b ≡ at + 2
  pub past : b ≤ n
  pub fits : n ≤ length s
  pub list : tags (drop at s) ≡ push (record { tag = t; value = take (n - b) (drop b s) }) (tags (drop n s))

abbrev pub Reads : List ℕ → ℕ → TagAt → Type 0
Reads s at End = tags (drop at s) ≡ tag_list []
Reads s at Bad = tags (drop at s) ≡ unreadable
Reads s at (At t b n) = Here s at t b n

drop-one : (s : List ℕ) (at : ℕ) → length s ≡ at + 1 → drop at s ≡ get_or s at 0 ∷ []
drop-one s at h =
    drop-cons s at 0 (omega arith) ∙ ap (λ (l : List ℕ). get_or s at 0 ∷ l) (drop_of_length-le s {i = suc at} (omega arith))

drop-two : (s : List ℕ) (at : ℕ) → at + 1 < length s → drop at s ≡ get_or s at 0 ∷ get_or s (at + 1) 0 ∷ drop (at + 2) s
drop-two s at h =
    let e : suc (at + 1) ≡ at + 2 = omega arith in
    drop-cons s at 0 (omega arith)
    ∙ ap (λ (m : ℕ). get_or s at 0 ∷ drop m s) (sym (add-one at))
    ∙ ap (λ (l : List ℕ). get_or s at 0 ∷ l) (drop-cons s (at + 1) 0 h)
    ∙ ap (λ (m : ℕ). get_or s at 0 ∷ get_or s (at + 1) 0 ∷ drop m s) e

-- two bytes stand there: the list by the second of them
two : (s : List ℕ) (at : ℕ) → at + 1 < length s → let n = get_or s (at + 1) 0 in
    tags (drop at s)
    ≡ pick (leb n (length s - (at + 2)))
    (push (record { tag = get_or s at 0; value = take n (drop (at + 2) s) }) (tags (drop (at + 2 + n) s))) unreadable
two s at h = let n = get_or s (at + 1) 0 in
    ap tags (drop-two s at h) ∙ tags-cons (get_or s at 0) n (drop (at + 2) s) ∙ simp (length-drop, drop-drop)

read_by : (s : List ℕ) (at : ℕ) (x y z : Bool)
    → leb (length s) at ≡ x → ltb (length s - at) 2 ≡ y → ltb (length s - (at + 2)) (get_or s (at + 1) 0) ≡ z
    → Reads s at (pick x End (pick y Bad (pick z Bad (At (get_or s at 0) (at + 2) (at + 2 + get_or s (at + 1) 0)))))
read_by s at true y z p q r = ap tags (drop_of_length-le s (leb-true _ _ p)) ∙ tags-end
read_by s at false true z p q r =
    let l : at < length s = leb-false (length s) at p in
    let h : length s - at < 2 = ltb-true (length s - at) 2 q in
    ap tags (drop-one s at (omega arith)) ∙ tags-cut (get_or s at 0)
read_by s at false false true p q r =
    let l : at < length s = leb-false (length s) at p in
    let h : 2 ≤ length s - at = ltb-false (length s - at) 2 q in
    two s at (omega arith) ∙ simp (lt-leb (get_or s (at + 1) 0) (length s - (at + 2)) (ltb-true (length s - (at + 2)) (get_or s (at + 1) 0) r))
read_by s at false false false p q r =
    let l : at < length s = leb-false (length s) at p in
    let h : 2 ≤ length s - at = ltb-false (length s - at) 2 q in
    let n = get_or s (at + 1) 0 in
    let k : n ≤ length s - (at + 2) = ltb-false (length s - (at + 2)) n r in
    let e : at + 2 + n - (at + 2) ≡ n = omega arith in
    record {
      start = refl;
      past = omega arith;
      fits = omega arith;
      list = two s at (omega arith) ∙ simp (le-leb n (length s - (at + 2)) k, e);
    }

-- what the cursor finds at a place says what the list from there on is: so the walk from 0 gives `tags s`
pub by_cursor_lem : (s : List ℕ) (at : ℕ) (g : TagAt) → tag_at s at ≡ g → Reads s at g
unfolding tag_at
by_cursor_lem s at g e =
    subst (λ (g : TagAt). Reads s at g) e
    (read_by s at (leb (length s) at) (ltb (length s - at) 2) (ltb (length s - (at + 2)) (get_or s (at + 1) 0)) refl refl refl)

pub push-readable : (t : Tag) (r : Tags) → is_readable (push t r) ≡ is_readable r
push-readable t unreadable = refl
push-readable t (tag_list ts) = refl

-- ---- the last value under a tag

pub value-length : (s : List ℕ) (at t b n : ℕ) → Here s at t b n → length (take (n - b) (drop b s)) ≡ n - b
value-length s at t b n h = length-take-le (n - b) (drop b s) (omega (arith, length-drop b s, h.past, h.fits))

last-push : (want : ℕ) (empty : Bool) (at : ℕ) (before : Place) (t : Tag) (r : Tags)
    → last_in want empty at before (push t r)
    ≡ last_in want empty (at + 2 + length t.value)
    (pick (counts want empty t.tag (length t.value)) (span (at + 2) (at + 2 + length t.value)) before) r
unfolding last_from
last-push want empty at before t unreadable = refl
last-push want empty at before t (tag_list ts) = refl

-- a step of the cursor
pub last-here : (s : List ℕ) (at t b n want : ℕ) (empty : Bool) (before : Place) → Here s at t b n
    → last_in want empty at before (tags (drop at s)) ≡ last_in want empty n (pick (counts want empty t (n - b)) (span b n) before) (tags (drop n s))
last-here s at t b n want empty before h =
    let v = take (n - b) (drop b s) in
    let e : b + (n - b) ≡ n = omega (arith, h.past) in
    ap (last_in want empty at before) h.list
    ∙ last-push want empty at before (record { tag = t; value = v }) (tags (drop n s))
    ∙ simp (value-length s at t b n h, ← h.start, e)

-- ---- the writer

-- the two bytes and the value, stored one after the other, are laid at once
pub tag-laid : (d v : List ℕ) (at t : ℕ) → at + 2 + length v ≤ length d
    → laid (set (set d at t) (at + 1) (length v)) (at + 2) v ≡ laid d at (t ∷ length v ∷ v)
tag-laid d v at t h =
    let n = length v in
    ap (λ (l : List ℕ). laid (set l (at + 1) n) (at + 2) v) (set-laid d at t (omega arith))
    ∙ ap (λ (l : List ℕ). laid l (at + 2) v) (set_more d (t ∷ []) at (at + 1) n (omega arith) (omega arith))
    ∙ laid-append d (t ∷ n ∷ []) v at (at + 2) (omega arith) h
