-- Bytes laid into a store one after the other are laid at once; what is refused leaves it as it was. Assumes nothing.
use mathlib.Core.Path.{◌≡◌, refl, sym, ap, ap₂, subst, ◌∙◌}
use mathlib.Core.Logic.{inl, inr}
use mathlib.Core.Bool.{Bool, true, false}
use mathlib.Core.List.{List, [], ◌∷◌, ◌++◌, append_assoc}
use Prim.Native.Nat.{ℕ, ◌+◌, ◌≤◌, ◌<◌}
use native.Mathlib.Omega.{arith}
use native.Mathlib.Numerals.{add-one}
use lib.ListN.{length, take, drop, set, length-append}
use lib.Seq.{sets, sets-eq, paste-zero, length-paste, take-paste, drop-paste, take-length, drop-drop, set_split}
use lib.Dec.{ltb}
use denote.Enum.Declared.{tag_of}
use types.Run.{OneOf}
use borrow.Author.Tests.{le-ltb, ltb-false}
use Rattle.base.specs.Pick.{pick}
use Rattle.packet.specs.contracts.tlv.Wrote.{the_type}
use Rattle.packet.specs.declared.tlv.Wrote.{Wrote}
use Rattle.packet.specs.declared.tlv.Wrote.TheVariants.{Written, Short}
use Rattle.packet.specs.declared.store.LengthField.{LengthField}
use Rattle.packet.specs.declared.store.LengthField.TheVariants.{OneByte, TwoBytes}
use Rattle.packet.specs.Tags.{write_tag, put_tag}
use Rattle.packet.specs.Placed.{Putting, putting, numbered, overlong_for, overlong_number, laid, room_of, placed}

pub length-laid : (d l : List ℕ) (at : ℕ) → at + length l ≤ length d → length (laid d at l) ≡ length d
length-laid d l at h = length-paste d at l (length l) h (omega arith)

pub laid-nothing : (d : List ℕ) (at : ℕ) → laid d at [] ≡ d
laid-nothing d at = sym (paste-zero d at [])

-- two runs of bytes, the second behind the first
pub laid-append : (d a b : List ℕ) (at next : ℕ) → at + length a ≡ next → next + length b ≤ length d
    → laid (laid d at a) next b ≡ laid d at (a ++ b)
laid-append d a b at next e h =
    let d₁ = laid d at a in
    let t : take next d₁ ≡ take at d ++ a =
    ap (λ (m : ℕ). take m d₁) (sym e) ∙ take-paste d at a (length a) (omega arith) (omega arith) ∙ ap (λ (l : List ℕ). take at d ++ l) (take-length a) in
    let n : at + length (a ++ b) ≡ next + length b = omega (arith, length-append a b) in
    let r : drop next d₁ ≡ drop next d =
    ap (λ (m : ℕ). drop m d₁) (sym e) ∙ drop-paste d at a (length a) (omega arith) (omega arith) ∙ ap (λ (m : ℕ). drop m d) e in
    let s : drop (next + length b) d₁ ≡ drop (next + length b) d =
    sym (drop-drop (length b) next d₁) ∙ ap (drop (length b)) r ∙ drop-drop (length b) next d in
    let x = drop (next + length b) d in
    ap₂ (λ (u v : List ℕ). u ++ take (length b) b ++ v) t s
    ∙ ap (λ (l : List ℕ). take at d ++ a ++ l ++ x) (take-length b)
    ∙ simp (n, take-length (a ++ b), append_assoc)

-- bytes set one by one, and others laid behind them
pub sets-laid : (d a b : List ℕ) (at next : ℕ) → at + length a ≡ next → next + length b ≤ length d → laid (sets d at a) next b ≡ laid d at (a ++ b)
sets-laid d a b at next e h =
    let s : sets d at a ≡ laid d at a =
    sets-eq a d at (omega arith) ∙ ap (λ (l : List ℕ). take at d ++ l ++ drop (at + length a) d) (sym (take-length a)) in
    ap (λ (l : List ℕ). laid l next b) s ∙ laid-append d a b at next e h

-- one byte
pub set-laid : (d : List ℕ) (at x : ℕ) → at < length d → set d at x ≡ laid d at (x ∷ [])
set-laid d at x h = set_split d at x h ∙ simp (append_assoc, add-one)

-- a tag that fits
pub put-laid : (store v after : List ℕ) (at t : ℕ) (r : Wrote) → length v ≤ 255 → at + 2 + length v ≤ length store
    → putting r after ≡ put_tag store at t v → after ≡ laid store at (write_tag (record { tag = t; value = v }))
unfolding put_tag placed
put-laid store v after at t r s h e =
    let n = length (write_tag (record { tag = t; value = v })) in
    ap (λ (p : Putting). p.store) (rw (le-ltb 255 (length v) s, le-ltb (length store) (at + n) (omega arith)) at e)

-- what a place that was granted tells
pub record Granted (len at need next : ℕ) (forbidden : Bool) : Type 0 where
  pub allowed : forbidden ≡ false
  pub fits : at + need ≤ len
  pub next_is : next ≡ at + need

overlong_no : (next : ℕ) (f : LengthField) → Written next ≡ overlong_for f → ⊥
overlong_no next OneByte e = let z : ◌≡◌ {A = ℕ} 0 1 = cc in omega arith
overlong_no next TwoBytes e = let z : ◌≡◌ {A = ℕ} 0 1 = cc in omega arith

granted_by : (len at need next : ℕ) (f : LengthField) (forbidden x : Bool) → ltb len (at + need) ≡ x
    → Written next ≡ pick x Short (pick forbidden (overlong_for f) (Written (at + need))) → Granted len at need next forbidden
granted_by len at need next f y true p e = let z : ◌≡◌ {A = ℕ} 0 1 = cc in absurd (omega arith)
granted_by len at need next f true false p e = absurd (overlong_no next f e)
granted_by len at need next f false false p e = record { allowed = refl; fits = ltb-false len (at + need) p; next_is = cc }

pub granted : (len at need next : ℕ) (f : LengthField) (forbidden : Bool) → Written next ≡ room_of len at need f forbidden
    → Granted len at need next forbidden
unfolding room_of
granted len at need next f forbidden e = granted_by len at need next f forbidden (ltb len (at + need)) refl e

-- a refused answer is none that says what was written
pub written-not : (end : ℕ) → OneOf (1 ∷ 2 ∷ 3 ∷ []) (tag_of the_type (Written end)) → ⊥
written-not end (inl k) = omega arith
written-not end (inr (inl k)) = omega arith
written-not end (inr (inr k)) = omega arith

-- the answers
placed_as : (store bytes : List ℕ) (at next : ℕ) (l : LengthField) (forbidden : Bool) → Written next ≡ room_of (length store) at (length bytes) l forbidden
    → putting (Written next) (laid store at bytes) ≡ placed store at l forbidden bytes
unfolding placed
placed_as store bytes at next l f e =
    let g = granted (length store) at (length bytes) next l f e in
    rw (le-ltb (length store) (at + length bytes) g.fits, g.allowed, g.next_is)

-- the number that the definition says is that of the answer
overlong-number : (l : LengthField) (store : List ℕ) → putting (overlong_for l) store ≡ numbered (overlong_number l) (overlong_for l) store
overlong-number OneByte store = refl
overlong-number TwoBytes store = refl

refused_by : (store bytes : List ℕ) (at : ℕ) (l : LengthField) (x y : Bool) (r : Wrote) → OneOf (1 ∷ 2 ∷ 3 ∷ []) (tag_of the_type r)
    → r ≡ pick x Short (pick y (overlong_for l) (Written (at + length bytes)))
    → putting r store
    ≡ pick x (numbered 10 Short store)
    (pick y (numbered (overlong_number l) (overlong_for l) store) (numbered 0 (Written (at + length bytes)) (laid store at bytes)))
refused_by store bytes at l true y r k e = ap (λ (r : Wrote). putting r store) e
refused_by store bytes at l false true r k e = ap (λ (r : Wrote). putting r store) e ∙ overlong-number l store
refused_by store bytes at l false false r k e =
    absurd (written-not (at + length bytes) (subst (λ (r : Wrote). OneOf (1 ∷ 2 ∷ 3 ∷ []) (tag_of the_type r)) e k))

-- as the code says them, which has the length and the test as values of its own
pub placed-written : (store bytes after : List ℕ) (at need next : ℕ) (l : LengthField) (f g : Bool) → length bytes ≡ need → g ≡ f
    → Written next ≡ room_of (length store) at need l g → after ≡ laid store at bytes → putting (Written next) after ≡ placed store at l f bytes
placed-written store bytes after at need next l f g n q e a =
    ap (putting (Written next)) a ∙ placed_as store bytes at next l f (rw (n, ← q) e)

pub placed-refused : (store bytes : List ℕ) (at need : ℕ) (l : LengthField) (f g : Bool) (r : Wrote)
    → OneOf (1 ∷ 2 ∷ 3 ∷ []) (tag_of the_type r) → length bytes ≡ need → g ≡ f → r ≡ room_of (length store) at need l g
    → putting r store ≡ placed store at l f bytes
unfolding placed room_of
placed-refused store bytes at need l f g r k n q e = refused_by store bytes at l (ltb (length store) (at + length bytes)) f r k (rw (n, ← q) e)

-- one byte behind what was laid
pub set_more : (d l : List ℕ) (at next x : ℕ) → at + length l ≡ next → next < length d → set (laid d at l) next x ≡ laid d at (l ++ (x ∷ []))
set_more d l at next x e h =
    set-laid (laid d at l) next x (omega (arith, length-laid d l at (omega arith)))
    ∙ laid-append d l (x ∷ []) at next e (omega (arith, add-one next))

-- three bytes, one by one
pub three_laid : (d : List ℕ) (at x y z : ℕ) → at + 3 ≤ length d → set (set (set d at x) (at + 1) y) (at + 2) z ≡ laid d at (x ∷ y ∷ z ∷ [])
three_laid d at x y z h =
    ap (λ (l : List ℕ). set (set l (at + 1) y) (at + 2) z) (set-laid d at x (omega arith))
    ∙ ap (λ (l : List ℕ). set l (at + 2) z) (set_more d (x ∷ []) at (at + 1) y (omega arith) (omega arith))
    ∙ set_more d (x ∷ y ∷ []) at (at + 2) z (omega arith) (omega arith)
