-- The text of a note: digits written from the last one on, zeros in front left out, bytes in hexadecimal, and parts laid one behind the other.
-- Assumes nothing.
use mathlib.Core.Path.{◌≡◌, refl, sym, ap, ap₂, subst, ◌∙◌}
use mathlib.Core.Bool.{Bool, true, false, ◌&&◌}
use mathlib.Core.Option.{some}
use mathlib.Core.List.{List, [], ◌∷◌, ◌++◌, append_assoc, append-nil}
use Prim.Native.Nat.{ℕ, suc, ◌+◌, ◌-◌, ◌*◌, ◌/◌, ◌%◌, ◌≤◌, ◌<◌}
use native.Mathlib.Omega.{arith}
use native.Mathlib.Numerals.{add-one}
use lib.Dec.{eqb, leb}
use lib.ListN.{length, take, drop, get_or, set, length-append, length-drop, length-set, drop_of_length-le}
use lib.Seq.{paste, take_all, take-length, paste-zero, take-suc, drop-cons, drop-length, drop-set-lt, get_or-set_same}
use borrow.Author.Tests.{eq-eqb, ne_eqb, eqb-true, leb-true, le-leb, le-ltb}
use Rattle.archive.specs.Writing.{writing, front}
use Rattle.std.specs.Prelude.{Ok}
use Rattle.archive.proofs.Laid.{parts-laid}
use Rattle.calendar.specs.Day.{leap, days_in, month_from, date_from}
use Rattle.calendar.specs.Time.{decimal, text_of, instant_of, time_of}
use Rattle.files.specs.Path.{hex_digit, hex_of}
use Rattle.filing.specs.Note.{stripped, decimal_of, note_of, right_lengths, note_for, note_written, Laid}
use Rattle.filing.specs.FileFrame.{FileFrame, file_bytes, file_read}
use Rattle.filing.specs.Claims.{NoteSays, ExampleNote}
use Rattle.filing.proofs.FileRows.{file_size, file_back}
use Rattle.filing.specs.declared.note.LogPlace.{LogPlace}

-- ---- digits

pub digits_all : (text : List ℕ) (x : ℕ) → decimal (length text) x ≡ decimal (length text) x ++ drop (length text) text
digits_all text x = sym (ap (λ (l : List ℕ). decimal (length text) x ++ l) (drop-length text) ∙ append-nil (decimal (length text) x))

pub digits_next : (text : List ℕ) (i j left : ℕ) → i ≡ suc j → j < length text
    → decimal i left ++ drop i text ≡ decimal j (left / 10) ++ drop j (set text j (0x30 + left % 10))
unfolding decimal
digits_next text i j left e h =
    let d = 0x30 + left % 10 in
    let a : drop j (set text j d) ≡ d ∷ drop (suc j) text =
    drop-cons (set text j d) j 0 (omega (arith, length-set text j d))
    ∙ ap₂ (λ (x : ℕ) (l : List ℕ). x ∷ l) (get_or-set_same text j d 0 h) (drop-set-lt (suc j) text j d (omega arith)) in
    rw (e, a, append_assoc (decimal j (left / 10)) (d ∷ []) (drop (suc j) text)) refl

pub digits_done : (text : List ℕ) (i left : ℕ) → i ≡ 0 → decimal i left ++ drop i text ≡ text
unfolding decimal
digits_done text i left e = ap (λ (k : ℕ). decimal k left ++ drop k text) e

-- ---- zeros in front

-- the last digit stays
pub strip_last : (l : List ℕ) (i : ℕ) → i + 1 ≡ length l → stripped (drop i l) ≡ drop i l
unfolding stripped
strip_last l i e =
    let n : drop (suc i) l ≡ [] = drop_of_length-le l {i = suc i} (omega arith) in
    let a : drop i l ≡ get_or l i 0 ∷ [] = drop-cons l i 0 (omega arith) ∙ ap (λ (r : List ℕ). get_or l i 0 ∷ r) n in
    rw a refl

-- two digits at least are left
two-left : (l : List ℕ) (i : ℕ) → i + 1 < length l → drop i l ≡ get_or l i 0 ∷ get_or l (suc i) 0 ∷ drop (suc (suc i)) l
two-left l i h =
    drop-cons l i 0 (omega arith) ∙ ap (λ (r : List ℕ). get_or l i 0 ∷ r) (drop-cons l (suc i) 0 (omega arith))

pub strip_stop : (l : List ℕ) (i : ℕ) → i + 1 < length l → (get_or l i 0 ≡ 0x30 → ⊥) → stripped (drop i l) ≡ drop i l
unfolding stripped
strip_stop l i h k = rw (two-left l i h, ne_eqb (get_or l i 0) 0x30 k) refl

pub strip_on : (l : List ℕ) (i : ℕ) → i + 1 < length l → get_or l i 0 ≡ 0x30 → stripped (drop i l) ≡ stripped (drop (i + 1) l)
unfolding stripped
strip_on l i h k =
    let a : drop (i + 1) l ≡ get_or l (suc i) 0 ∷ drop (suc (suc i)) l =
    ap (λ (n : ℕ). drop n l) (add-one i) ∙ drop-cons l (suc i) 0 (omega arith) in
    rw (two-left l i h, a, eq-eqb (get_or l i 0) 0x30 k) refl

pub strip_none : (l : List ℕ) (i : ℕ) → length l ≤ i → drop i l ≡ stripped (drop i l)
unfolding stripped
strip_none l i h =
    let n : drop i l ≡ [] = drop_of_length-le l {i = i} h in
    rw n refl

-- ---- bytes

hex_append : (a b : List ℕ) → hex_of (a ++ b) ≡ hex_of a ++ hex_of b
unfolding hex_of
hex_append [] b = refl
hex_append (x ∷ a) b = ap (λ (l : List ℕ). hex_digit (x / 16 % 16) ∷ hex_digit (x % 16) ∷ l) (hex_append a b)

pub length_hex : (l : List ℕ) → length (hex_of l) ≡ 2 * length l
unfolding hex_of
length_hex [] = refl
length_hex (x ∷ l) = omega (arith, length_hex l)

hex_one : (x : ℕ) → hex_of (x ∷ []) ≡ hex_digit (x / 16 % 16) ∷ hex_digit (x % 16) ∷ []
unfolding hex_of
hex_one x = refl

pub hex_next : (l : List ℕ) (i : ℕ) (two : List ℕ) → i < length l
    → two ≡ hex_digit (get_or l i 0 / 16 % 16) ∷ hex_digit (get_or l i 0 % 16) ∷ [] → hex_of (take i l) ++ two ≡ hex_of (take (i + 1) l)
hex_next l i two h e =
    let a : take (i + 1) l ≡ take i l ++ (get_or l i 0 ∷ []) = ap (λ (n : ℕ). take n l) (add-one i) ∙ take-suc l i 0 h in
    sym (ap hex_of a ∙ hex_append (take i l) (get_or l i 0 ∷ []) ∙ ap (λ (r : List ℕ). hex_of (take i l) ++ r) (hex_one (get_or l i 0) ∙ sym e))

-- ---- parts laid one behind the other

pub laid_none : (s : List ℕ) (at : ℕ) → Laid s at [] at s
laid_none s at = record { ends = omega arith; lays = paste-zero s at [] }

pub laid_more : {s s₁ s₂ p q : List ℕ} {at r₁ r₂ : ℕ} → Laid s at p r₁ s₁ → Laid s₁ r₁ q r₂ s₂ → r₂ ≤ length s → Laid s at (p ++ q) r₂ s₂
laid_more {s} {s₁} {s₂} {p} {q} {at} {r₁} {r₂} e₁ e₂ h =
    let a = e₁.ends in
    let b = e₂.ends in
    let x : s₂ ≡ paste s at (p ++ q) (length p + length q) =
    e₂.lays ∙ ap₂ (λ (u : List ℕ) (k : ℕ). paste u k q (length q)) e₁.lays a
    ∙ parts-laid s p q at (length p) (length q) refl refl (omega arith) in
    record { ends = omega (arith, length-append p q); lays = x ∙ ap (paste s at (p ++ q)) (sym (length-append p q)) }

-- the same bytes, said otherwise
pub laid_as : {s t p q : List ℕ} {at r : ℕ} → Laid s at p r t → p ≡ q → Laid s at q r t
laid_as {s} {t} {p} {q} {at} {r} l e = subst (λ (x : List ℕ). Laid s at x r t) e l

pub laid_three : {s s₁ s₂ s₃ p q x : List ℕ} {at r₁ r₂ r₃ : ℕ} → Laid s at p r₁ s₁ → Laid s₁ r₁ q r₂ s₂ → Laid s₂ r₂ x r₃ s₃
    → r₂ ≤ length s → r₃ ≤ length s → Laid s at (p ++ (q ++ x)) r₃ s₃
laid_three {p = p} {q = q} {x = x} e₁ e₂ e₃ h k = laid_as (laid_more (laid_more e₁ e₂ h) e₃ k) (append_assoc p q x)

-- from the front of a store on
pub laid-front : {s t p : List ℕ} {r : ℕ} → Laid s 0 p r t → t ≡ front p s
laid-front {s} {t} {p} l =
    let z : 0 + length p ≡ length p = omega arith in
    l.lays ∙ ap₂ (λ (u : List ℕ) (k : ℕ). u ++ drop k s) (take-length p) z

-- ---- the note

length_digits : (x : ℕ) → length (decimal 20 x) ≡ 20
unfolding decimal
length_digits x = refl

-- the digits of a number without the zeros in front, as they are cut out of all
pub number_cut : (text : List ℕ) (x from : ℕ) → text ≡ decimal 20 x → drop from text ≡ stripped text → take (20 - from) (drop from text) ≡ decimal_of x
unfolding decimal_of
number_cut text x from e d =
    let n : length text ≡ 20 = ap length e ∙ length_digits x in
    take_all (20 - from) (drop from text) (omega (arith, length-drop from text)) ∙ d ∙ ap stripped e

-- all of it from a place on
pub cut_on : (l : List ℕ) (from n : ℕ) → length l - from ≤ n → take n (drop from l) ≡ drop from l
cut_on l from n h = take_all n (drop from l) (omega (arith, length-drop from l))

pub note_parts : (a b c d e f g : List ℕ) → ((((a ++ b) ++ (c ++ d)) ++ e) ++ f) ++ g ≡ a ++ (b ++ (c ++ (d ++ (e ++ (f ++ g)))))
note_parts a b c d e f g = simp append_assoc

both : (x y : Bool) → (x && y) ≡ true → (x ≡ true) × (y ≡ true)
both true y e = (refl, e)
both false y e = (e, cc)

-- what the test of the lengths says
pub lengths_say : (name check body payload : ℕ) → right_lengths name check body payload ≡ true
    → (name ≡ 33) × (check ≡ 16) × (body ≡ 16) × (49 ≤ payload) × (payload ≤ 303)
lengths_say name check body payload h =
    let a = both (eqb name 33) (eqb check 16 && (eqb body 16 && (leb 49 payload && leb payload 303))) h in
    let b = both (eqb check 16) (eqb body 16 && (leb 49 payload && leb payload 303)) a.1 in
    let c = both (eqb body 16) (leb 49 payload && leb payload 303) b.1 in
    let d = both (leb 49 payload) (leb payload 303) c.1 in
    (eqb-true name 33 a.0, eqb-true check 16 b.0, eqb-true body 16 c.0, leb-true 49 payload d.0, leb-true payload 303 d.1)

pub note_done : (s name : List ℕ) (p : LogPlace) (f : FileFrame) (check body : List ℕ) {r : ℕ} {t : List ℕ}
    → Laid s 0 (note_of name p f check body) r t
    → writing (Ok r) t ≡ note_for s name p (some f) check body
note_done s name p f check body {r} l =
    let e : r ≡ length (note_of name p f check body) = omega (arith, l.ends) in
    ap₂ (λ (k : ℕ) (u : List ℕ). writing (Ok k) u) e (laid-front l)

-- ---- the claims

pub note_says : NoteSays
unfolding note_written
note_says s name p f check body h fits n k m =
    let z = file_size f fits in
    rw (
      le-ltb (length s) 1024 h,
      eq-eqb (length name) 33 n,
      eq-eqb (length check) 16 k,
      eq-eqb (length body) 16 m,
      le-leb 49 (length (file_bytes f)) (omega arith),
      le-leb (length (file_bytes f)) 303 (omega arith),
      file_back f fits,
    ) refl

pub example_note_lem : ExampleNote
unfolding file_read note_of decimal_of stripped decimal hex_of time_of text_of instant_of date_from month_from leap days_in
example_note_lem = refl
