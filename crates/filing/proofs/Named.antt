-- The names below an archive: the parts of a session's name laid one behind the other, records by their digits. Assumes nothing.
use mathlib.Core.Path.{◌≡◌, refl, sym, ap, ◌∙◌}
use mathlib.Core.Bool.{true}
use mathlib.Core.List.{List, [], ◌∷◌, ◌++◌, append_assoc, append-nil}
use Prim.Native.Nat.{ℕ, ◌+◌, ◌-◌, ◌*◌, ◌/◌, ◌%◌, ◌<◌}
use native.Mathlib.Omega.{arith}
use lib.ListN.{length, drop, get_or, replicate, length-append}
use lib.Seq.{paste}
use borrow.Author.Tests.{le-leb}
use Rattle.std.proofs.Common.{Result}
use Rattle.archive.proofs.Laid.{front-more}
use Rattle.base.specs.declared.Short.{Short}
use Rattle.calendar.specs.Time.{Writing, writing, write_time, time_of, instant_of, decimal, is_digit_of, all_digits}
use Rattle.calendar.proofs.Text.{text-size}
use Rattle.filing.specs.Names.{record_name, part_name}
use Rattle.filing.specs.Claims.{RecordNames, PlainNames}

-- ---- a session's name

module _ (time front back d₁ d₂ d₃ : List ℕ) (lt : length time ≡ 16) (lf : length front ≡ 8) (lb : length back ≡ 8) where
  abbrev hyphens : List ℕ
  hyphens = replicate 33 0x2D

  pub name-laid : d₁ ≡ paste hyphens 0 time (length time) → d₂ ≡ paste d₁ 17 front (length front) → d₃ ≡ paste d₂ 25 back (length back)
      → d₃ ≡ time ++ (0x2D ∷ (front ++ back))
  name-laid e₁ e₂ e₃ =
      let a : d₁ ≡ time ++ drop 16 hyphens =
      e₁ ∙ ap (paste hyphens 0 time) lt ∙ front-more [] hyphens hyphens time 0 16 refl refl lt (omega arith) in
      let b : d₁ ≡ (time ++ (0x2D ∷ [])) ++ drop 17 hyphens = a ∙ sym (append_assoc time (0x2D ∷ []) (drop 17 hyphens)) in
      let q = time ++ (0x2D ∷ []) in
      let lq : length q ≡ 17 = omega (arith, length-append time (0x2D ∷ []), lt) in
      let c : d₂ ≡ (q ++ front) ++ drop 25 hyphens =
      e₂ ∙ ap (paste d₁ 17 front) lf ∙ front-more q hyphens d₁ front 17 8 b lq lf (omega arith) in
      let lr : length (q ++ front) ≡ 25 = omega (arith, length-append q front, lq, lf) in
      let d : d₃ ≡ ((q ++ front) ++ back) ++ drop 33 hyphens =
      e₃ ∙ ap (paste d₂ 25 back) lb ∙ front-more (q ++ front) hyphens d₂ back 25 8 c lr lb (omega arith) in
      d ∙ append-nil ((q ++ front) ++ back) ∙ append_assoc q front back ∙ append_assoc time (0x2D ∷ []) (front ++ back)

-- the time that is written to a store of sixteen bytes
pub time-written : (r : Result (Unit {0}) Short) (n : ℕ) (t : List ℕ) → writing r t ≡ write_time n (replicate 16 0) → t ≡ time_of n
unfolding write_time
time-written r n t e = ap (λ (w : Writing). w.target) e ∙ append-nil (time_of n)

pub length-time : (n : ℕ) → length (time_of n) ≡ 16
unfolding time_of
length-time n = text-size (instant_of n)

-- ---- records

-- the number that six digits tell
abbrev told : List ℕ → ℕ
told l =
    get_or l 0 0 * 100000 + get_or l 1 0 * 10000 + get_or l 2 0 * 1000 + get_or l 3 0 * 100 + get_or l 4 0 * 10 + get_or l 5 0 - 0x30 * 111111

digits_tell : (n : ℕ) → n < 1000000 → told (record_name n) ≡ n
unfolding record_name decimal
digits_tell n h =
    let a = n / 10 in
    let b = a / 10 in
    let c = b / 10 in
    let d = c / 10 in
    let e : d / 10 % 10 ≡ d / 10 = omega arith in
    omega (arith, e)

two-names : (m n : ℕ) → m < 1000000 → n < 1000000 → record_name m ≡ record_name n → m ≡ n
two-names m n h k e = sym (digits_tell m h) ∙ ap told e ∙ digits_tell n k

pub length-record : (n : ℕ) → length (record_name n) ≡ 6
unfolding record_name decimal
length-record n = refl

other_name : (m n : ℕ) → part_name m ≡ record_name n → ⊥
unfolding part_name
other_name m n e =
    let l = ap length e in
    omega (arith, l, length-append (record_name m) (0x2E ∷ 0x70 ∷ 0x61 ∷ 0x72 ∷ 0x74 ∷ []), length-record m, length-record n)

pub record-names : RecordNames
record-names = record { one = two-names; other = other_name }

digit_is : (x : ℕ) → is_digit_of (0x30 + x % 10) ≡ true
digit_is x = rw (le-leb 0x30 (0x30 + x % 10) (omega arith), le-leb (0x30 + x % 10) 0x39 (omega arith)) refl

pub plain-names : PlainNames
unfolding record_name decimal all_digits
plain-names n =
    let a = n / 10 in
    let b = a / 10 in
    let c = b / 10 in
    let d = c / 10 in
    rw (digit_is (d / 10), digit_is d, digit_is c, digit_is b, digit_is a, digit_is n) refl
