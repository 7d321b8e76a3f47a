-- The writer against the reader: lists of tags and payloads go over into each other, and a tag written is one more of the list.
-- Assumes nothing.
use mathlib.Core.Path.{◌≡◌, refl, sym, ap, ◌∙◌}
use mathlib.Core.Bool.{Bool, true, false}
use mathlib.Core.List.{List, [], ◌∷◌, ◌++◌, append_assoc, append-nil}
use mathlib.Core.Option.{Option, some}
use Prim.Native.Nat.{ℕ, zero, suc, ◌+◌, ◌-◌, ◌≤◌, ◌<◌}
use native.Mathlib.Omega.{arith}
use lib.ListN.{length, take, drop, length-append, take-append-drop}
use lib.Seq.{paste, length-take-le, take-append_seam, drop-append_seam, take-paste, take-length, drop-drop}
use lib.Dec.{leb, ltb}
use borrow.Author.Tests.{leb-true, ltb-false, le-leb}
use Rattle.base.specs.Pick.{pick}
use Rattle.base.specs.Place.{Place, span, Some, None}
use Rattle.packet.specs.declared.tlv.TagAt.{TagAt}
use Rattle.packet.specs.declared.tlv.TagAt.TheVariants.{At, Bad, End}
use Rattle.packet.specs.declared.tlv.Wrote.TheVariants.{Written, BadValue, Short}
use Rattle.packet.specs.Tags.{Tag, Tags, unreadable, tag_list, push, tags_by, tags, tag_at, counts, last_from, last_in, last_under, bytes_at, last_bytes, last_of, write_tag, write_tags, put_tag}
use Rattle.packet.specs.Placed.{Putting, putting, numbered, laid, placed}
use Rattle.packet.proofs.TagLaws.{by_cursor_lem, tags-end, tags-cons}

-- ---- there and back

-- what is written of any list of tags reads as that list
pub write_read : (ts : List Tag) → tags (write_tags ts) ≡ tag_list ts
unfolding write_tags
write_read [] = tags-end
write_read (t ∷ ts) =
    let v = t.value in
    let w = write_tags ts in
    tags-cons t.tag (length v) (v ++ w)
    ∙ rw (le-leb (length v) (length (v ++ w)) (omega (arith, length-append v w)), take-append_seam v w, drop-append_seam v w, write_read ts)

-- a list that is read has a first tag before the list of the rest
record First (t : Tag) (r : Tags) (ts : List Tag) : Type 0 where
  rest : List Tag
  is : ts ≡ t ∷ rest
  of : r ≡ tag_list rest

first : (t : Tag) (r : Tags) (ts : List Tag) → push t r ≡ tag_list ts → First t r ts
first t unreadable ts e = let z : ◌≡◌ {A = ℕ} 0 1 = cc in absurd (omega arith)
first t (tag_list rs) ts e = record { rest = rs; is = cc; of = refl }

-- a tag in front of what goes back
back-cons : (t n : ℕ) (s : List ℕ) (r : Tags) (ts : List Tag) (x : Bool) → leb n (length s) ≡ x
    → ((rest : List Tag) → r ≡ tag_list rest → write_tags rest ≡ drop n s)
    → pick x (push (record { tag = t; value = take n s }) r) unreadable ≡ tag_list ts → write_tags ts ≡ t ∷ n ∷ s
unfolding write_tags
back-cons t n s r ts false l back e = let z : ◌≡◌ {A = ℕ} 0 1 = cc in absurd (omega arith)
back-cons t n s r ts true l back e =
    let k = first (record { tag = t; value = take n s }) r ts e in
    let h : n ≤ length s = leb-true n (length s) l in
    ap write_tags k.is
    ∙ ap (λ (w : List ℕ). t ∷ length (take n s) ∷ take n s ++ w) (back k.rest k.of)
    ∙ rw (length-take-le n s h, take-append-drop n s)

back_by : (f : ℕ) (s : List ℕ) (ts : List Tag) → tags_by f s ≡ tag_list ts → write_tags ts ≡ s
unfolding tags_by write_tags
back_by zero s ts e = let z : ◌≡◌ {A = ℕ} 0 1 = cc in absurd (omega arith)
back_by (suc f) [] ts e = let k : ts ≡ [] = cc in ap write_tags k
back_by (suc f) (t ∷ []) ts e = let z : ◌≡◌ {A = ℕ} 0 1 = cc in absurd (omega arith)
back_by (suc f) (t ∷ n ∷ s) ts e =
    back-cons t n s (tags_by f (drop n s)) ts (leb n (length s)) refl (λ rest q. back_by f (drop n s) rest q) e

-- what is read, written, is the payload again
pub read_write : (s : List ℕ) (ts : List Tag) → tags s ≡ tag_list ts → write_tags ts ≡ s
unfolding tags
read_write s ts e = back_by (suc (length s)) s ts e

-- ---- the walk of the cursor from 0

abbrev walk_on : List ℕ → TagAt → (ℕ → Tags) → Tags
walk_on s End rest = tag_list []
walk_on s Bad rest = unreadable
walk_on s (At t b n) rest = push (record { tag = t; value = take (n - b) (drop b s) }) (rest n)

-- the tags that the cursor finds from a place on, in at most k steps
unfoldable pub walk : ℕ → List ℕ → ℕ → Tags
walk zero s at = unreadable
walk (suc k) s at = walk_on s (tag_at s at) (λ n. walk k s n)

walk_step : (s : List ℕ) (at : ℕ) (rest : ℕ → Tags) → ((n : ℕ) → length s - n < length s - at → rest n ≡ tags (drop n s))
    → (g : TagAt) → tag_at s at ≡ g → walk_on s g rest ≡ tags (drop at s)
walk_step s at rest on End e = sym (by_cursor_lem s at End e)
walk_step s at rest on Bad e = sym (by_cursor_lem s at Bad e)
walk_step s at rest on (At t b n) e =
    let w = by_cursor_lem s at (At t b n) e in
    ap (push (record { tag = t; value = take (n - b) (drop b s) })) (on n (omega arith)) ∙ sym w.list

walked : (k : ℕ) (s : List ℕ) (at : ℕ) → length s - at < k → walk k s at ≡ tags (drop at s)
unfolding walk
walked zero s at h = absurd (omega arith)
walked (suc k) s at h = walk_step s at (walk k s) (λ n l. walked k s n (omega arith)) (tag_at s at) refl

-- the walk gives exactly the list
pub walk-tags : (s : List ℕ) → walk (suc (length s)) s 0 ≡ tags s
walk-tags s = walked (suc (length s)) s 0 (omega arith)

-- ---- the last value's bytes

pick-bytes : (s v : List ℕ) (b e : ℕ) (before : Place) (x : Bool) → take (e - b) (drop b s) ≡ v
    → bytes_at s (pick x (span b e) before) ≡ pick x (some v) (bytes_at s before)
pick-bytes s v b e before true q = ap some q
pick-bytes s v b e before false q = refl

tied_by : (s : List ℕ) (want : ℕ) (empty : Bool) (ts : List Tag) (at : ℕ) (before : Place) → drop at s ≡ write_tags ts
    → bytes_at s (last_from want empty at before ts) ≡ last_bytes want empty (bytes_at s before) ts
unfolding last_from last_bytes write_tags
tied_by s want empty [] at before e = refl
tied_by s want empty (t ∷ ts) at before e =
    let v = t.value in
    let n = at + 2 + length v in
    let w = write_tags ts in
    let e₂ : drop (at + 2) s ≡ v ++ w = sym (drop-drop 2 at s) ∙ ap (drop 2) e in
    let e₃ : drop n s ≡ w = sym (drop-drop (length v) (at + 2) s) ∙ ap (drop (length v)) e₂ ∙ drop-append_seam v w in
    let m : n - (at + 2) ≡ length v = omega arith in
    let e₄ : take (n - (at + 2)) (drop (at + 2) s) ≡ v = rw (m, e₂) (take-append_seam v w) in
    let x = counts want empty t.tag (length v) in
    tied_by s want empty ts n (pick x (span (at + 2) n) before) e₃
    ∙ ap (λ (o : Option (List ℕ)). last_bytes want empty o ts) (pick-bytes s v (at + 2) n before x e₄)

last_by : (s : List ℕ) (want : ℕ) (empty : Bool) (r : Tags) → tags s ≡ r
    → bytes_at s (last_in want empty 0 None r) ≡ last_of want empty r
last_by s want empty unreadable e = refl
last_by s want empty (tag_list ts) e = tied_by s want empty ts 0 None (sym (read_write s ts e))

-- the place that `last_under` gives holds the value of the list's last tag that counts
pub last-under-bytes : (s : List ℕ) (want : ℕ) (empty : Bool) → bytes_at s (last_under s want empty) ≡ last_of want empty (tags s)
unfolding last_under
last-under-bytes s want empty = last_by s want empty (tags s) refl

-- ---- and its place lies within the list

abbrev pub Within : List ℕ → Place → Type 0
Within s (Some p) = (p.start ≤ p.end) × (p.end ≤ length s)
Within s None = Unit {0}

pick-within : (s : List ℕ) (x : Bool) (b e : ℕ) (before : Place) → b ≤ e → e ≤ length s → Within s before → Within s (pick x (span b e) before)
pick-within s true b e before l h w = (l, h)
pick-within s false b e before l h w = w

within-from : (s : List ℕ) (want : ℕ) (empty : Bool) (ts : List Tag) (at : ℕ) (before : Place) → at + length (write_tags ts) ≡ length s
    → Within s before → Within s (last_from want empty at before ts)
unfolding last_from write_tags
within-from s want empty [] at before e w = w
within-from s want empty (t ∷ ts) at before e w =
    let v = t.value in
    let l = length-append v (write_tags ts) in
    within-from s want empty ts (at + 2 + length v) _ (omega arith)
    (pick-within s (counts want empty t.tag (length v)) (at + 2) (at + 2 + length v) before (omega arith) (omega arith) w)

within_by : (s : List ℕ) (want : ℕ) (empty : Bool) (r : Tags) → tags s ≡ r → Within s (last_in want empty 0 None r)
within_by s want empty unreadable e = tt
within_by s want empty (tag_list ts) e = within-from s want empty ts 0 None (let l = ap length (read_write s ts e) in omega arith) tt

pub last_within : (s : List ℕ) (want : ℕ) (empty : Bool) → Within s (last_under s want empty)
unfolding last_under
last_within s want empty = within_by s want empty (tags s) refl

-- ---- a tag written

writes_more : (ts : List Tag) (t : Tag) → write_tags (ts ++ (t ∷ [])) ≡ write_tags ts ++ write_tag t
unfolding write_tags
writes_more [] t = append-nil (write_tag t)
writes_more (x ∷ ts) t = rw (writes_more ts t) (sym (append_assoc (write_tag x) (write_tags ts) (write_tag t)))

-- what a tag that was written tells
pub record Done (store v : List ℕ) (at t n : ℕ) (after : List ℕ) : Type 0 where
  pub small : length v ≤ 255
  pub next : n ≡ at + 2 + length v
  pub fits : n ≤ length store
  pub stored : after ≡ paste store at (write_tag (record { tag = t; value = v })) (suc (suc (length v)))

done_by : (store v : List ℕ) (at t n : ℕ) (after : List ℕ) (x y : Bool)
    → ltb (length store) (at + suc (suc (length v))) ≡ x → ltb 255 (length v) ≡ y
    → pick x (numbered 10 Short store)
    (pick y (numbered 8 BadValue store)
    (numbered 0 (Written (at + suc (suc (length v)))) (laid store at (write_tag (record { tag = t; value = v })))))
    ≡ putting (Written n) after → Done store v at t n after
done_by store v at t n after true y p q e =
    let z : Short ≡ Written n = ap (λ (x : Putting). x.answer) e in
    let w : ◌≡◌ {A = ℕ} 0 1 = cc in absurd (omega arith)
done_by store v at t n after false true p q e =
    let z : BadValue ≡ Written n = ap (λ (x : Putting). x.answer) e in
    let w : ◌≡◌ {A = ℕ} 0 1 = cc in absurd (omega arith)
done_by store v at t n after false false p q e =
    let z : Written (at + suc (suc (length v))) ≡ Written n = ap (λ (x : Putting). x.answer) e in
    let m : at + suc (suc (length v)) ≡ n = cc in
    let h : at + suc (suc (length v)) ≤ length store = ltb-false (length store) (at + suc (suc (length v))) p in
    record {
      small = ltb-false 255 (length v) q;
      next = omega arith;
      fits = omega arith;
      stored = sym (ap (λ (x : Putting). x.store) e);
    }

pub done : (store v : List ℕ) (at t n : ℕ) (after : List ℕ) → put_tag store at t v ≡ putting (Written n) after → Done store v at t n after
unfolding put_tag placed
done store v at t n after e =
    done_by store v at t n after (ltb (length store) (at + suc (suc (length v)))) (ltb 255 (length v)) refl refl e

-- after tags written up to a place, a tag written there is one more of them
pub put_appends : (store v : List ℕ) (at t n : ℕ) (after : List ℕ) (ts : List Tag)
    → take at store ≡ write_tags ts → put_tag store at t v ≡ putting (Written n) after
    → take n after ≡ write_tags (ts ++ (record { tag = t; value = v } ∷ []))
put_appends store v at t n after ts e p =
    let d = done store v at t n after p in
    let x : List ℕ = write_tag (record { tag = t; value = v }) in
    let m : n ≡ at + suc (suc (length v)) = omega arith in
    ap (take n) d.stored
    ∙ ap (λ (k : ℕ). take k (paste store at x (length x))) m
    ∙ take-paste store at x (length x) (omega arith) (omega arith)
    ∙ rw (take-length x, e) (sym (writes_more ts (record { tag = t; value = v })))
