-- Texts of the form YYYYMMDDTHHMMSSZ: an instant is read back from its text, and a text of the form is the text of what it names. Assumes nothing.
use mathlib.Core.Path.{◌≡◌, refl, sym, ap, ◌∙◌}
use mathlib.Core.List.{List, [], ◌∷◌}
use mathlib.Core.Bool.{Bool, true, ◌&&◌}
use Prim.Native.Nat.{ℕ, zero, suc, ◌+◌, ◌-◌, ◌*◌, ◌/◌, ◌%◌, ◌≤◌, ◌<◌}
use native.Mathlib.Omega.{arith}
use native.Mathlib.Nat.{div-div-eq-div-mul}
use lib.Dec.{eqb, leb}
use lib.ListN.{length, get_or, take, drop, length-drop}
use lib.Seq.{drop-cons, drop-length, length-take-le, get_or-take, get_or-drop}
use Rattle.std.specs.List.{list_all}
use Rattle.std.specs.Char.{is_ascii_digit}
use borrow.Author.Tests.{eqb-true, leb-true, le-leb}
use Rattle.calendar.specs.Time.{decimal, text_of, is_digit_of, all_digits, is_form, number_at, Digit, DigitsAt, read_instant}
use Rattle.calendar.specs.declared.time.Instant.{Instant}
use Rattle.calendar.proofs.Months.{both}

-- ---- digits

is_digit : (b : ℕ) → is_digit_of b ≡ true → Digit b
is_digit b e =
    let t = both (leb 0x30 b) (leb b 0x39) e in
    record { low = leb-true 0x30 b t.0; high = leb-true b 0x39 t.1 }

last_digit : (x : ℕ) → is_digit_of (0x30 + x % 10) ≡ true
last_digit x = rw (le-leb 0x30 (0x30 + x % 10) (omega arith), le-leb (0x30 + x % 10) 0x39 (omega arith))

digit_in : (l : List ℕ) (k : ℕ) → all_digits l ≡ true → k < length l → Digit (get_or l k 0)
unfolding all_digits
digit_in [] k e h = absurd (omega arith)
digit_in (b ∷ l) zero e h = is_digit b (both (is_digit_of b) (all_digits l) e).0
digit_in (b ∷ l) (suc k) e h = digit_in l k (both (is_digit_of b) (all_digits l) e).1 (omega arith)

-- the library's word for the same test
pub digits_all : (s : List ℕ) → list_all is_ascii_digit s ≡ all_digits s
unfolding all_digits
digits_all [] = refl
digits_all (b ∷ l) = ap (λ (t : Bool). is_digit_of b && t) (digits_all l)

-- ---- the form

pub record Form (t : List ℕ) : Type 0 where
  pub size : length t ≡ 16
  pub date_digits : all_digits (take 8 t) ≡ true
  pub mark : get_or t 8 0 ≡ 0x54
  pub clock_digits : all_digits (take 6 (drop 9 t)) ≡ true
  pub end : get_or t 15 0 ≡ 0x5A

pub form : (t : List ℕ) → is_form t ≡ true → Form t
unfolding is_form
form t e =
    let ds = all_digits (take 8 t) in
    let m = eqb (get_or t 8 0) 0x54 in
    let cs = all_digits (take 6 (drop 9 t)) in
    let z = eqb (get_or t 15 0) 0x5A in
    let a = both (eqb (length t) 16) (ds && (m && (cs && z))) e in
    let b = both ds (m && (cs && z)) a.1 in
    let c = both m (cs && z) b.1 in
    let d = both cs z c.1 in
    record {
      size = eqb-true (length t) 16 a.0;
      date_digits = b.0;
      mark = eqb-true (get_or t 8 0) 0x54 c.0;
      clock_digits = d.0;
      end = eqb-true (get_or t 15 0) 0x5A d.1;
    }

module _ (t : List ℕ) (f : Form t) where
  date_digit : (k : ℕ) → k < 8 → Digit (get_or t k 0)
  date_digit k h =
      let n = f.size in
      let l : length (take 8 t) ≡ 8 = length-take-le 8 t (omega arith) in
      rw (← get_or-take 8 t k 0 h) (digit_in (take 8 t) k f.date_digits (omega arith))

  clock_digit : (k : ℕ) → 9 ≤ k → k < 15 → Digit (get_or t k 0)
  clock_digit k l h =
      let n = f.size in
      let r : length (drop 9 t) ≡ 7 = omega (arith, length-drop 9 t) in
      let p : length (take 6 (drop 9 t)) ≡ 6 = length-take-le 6 (drop 9 t) (omega arith) in
      let e : 9 + (k - 9) ≡ k = omega arith in
      let d = digit_in (take 6 (drop 9 t)) (k - 9) f.clock_digits (omega arith) in
      rw (get_or-take 6 (drop 9 t) (k - 9) 0 (omega arith), get_or-drop 9 t (k - 9) 0, e) at d

  digits_at : (at : ℕ) → at + 2 ≤ 16 → Digit (get_or t at 0) → Digit (get_or t (at + 1) 0) → DigitsAt t at
  digits_at at h a b =
      let n = f.size in
      record { inside = omega arith; tens = a; ones = b }

  pub in_date : (at : ℕ) → at + 2 ≤ 8 → DigitsAt t at
  in_date at h = digits_at at (omega arith) (date_digit at (omega arith)) (date_digit (at + 1) (omega arith))

  pub in_clock : (at : ℕ) → 9 ≤ at → at + 2 ≤ 15 → DigitsAt t at
  in_clock at l h = digits_at at (omega arith) (clock_digit at l (omega arith)) (clock_digit (at + 1) (omega arith) (omega arith))

-- ---- from an instant to its text and back

pair-back : (x : ℕ) → x < 100 → (0 * 10 + (0x30 + x / 10 % 10 - 0x30)) * 10 + (0x30 + x % 10 - 0x30) ≡ x
pair-back x h = omega arith

year_back : (x : ℕ) → x < 10000
    → (((0 * 10 + (0x30 + x / 10 / 10 / 10 % 10 - 0x30)) * 10 + (0x30 + x / 10 / 10 % 10 - 0x30)) * 10 + (0x30 + x / 10 % 10 - 0x30))
    * 10 + (0x30 + x % 10 - 0x30) ≡ x
year_back x h = omega arith

-- the numbers of an instant have as many digits as their places in a text
pub record InPlaces (i : Instant) : Type 0 where
  pub year : i.date.year < 10000
  pub month : i.date.month < 100
  pub day : i.date.day < 100
  pub hour : i.hour < 100
  pub minute : i.minute < 100
  pub second : i.second < 100

pub read_back : (i : Instant) → InPlaces i → read_instant (text_of i) ≡ i
unfolding text_of decimal read_instant number_at
read_back i s =
    rw (
      year_back i.date.year s.year,
      pair-back i.date.month s.month,
      pair-back i.date.day s.day,
      pair-back i.hour s.hour,
      pair-back i.minute s.minute,
      pair-back i.second s.second,
    )

-- the bytes of a text, one by one
pub text_digits : (i : Instant) → text_of i ≡ (0x30 + i.date.year / 1000 % 10) ∷ (0x30 + i.date.year / 100 % 10) ∷ (0x30 + i.date.year / 10 % 10)
    ∷ (0x30 + i.date.year % 10) ∷ (0x30 + i.date.month / 10 % 10) ∷ (0x30 + i.date.month % 10) ∷ (0x30 + i.date.day / 10 % 10)
    ∷ (0x30 + i.date.day % 10) ∷ 0x54 ∷ (0x30 + i.hour / 10 % 10) ∷ (0x30 + i.hour % 10) ∷ (0x30 + i.minute / 10 % 10)
    ∷ (0x30 + i.minute % 10) ∷ (0x30 + i.second / 10 % 10) ∷ (0x30 + i.second % 10) ∷ 0x5A ∷ []
unfolding text_of decimal
text_digits i = rw (div-div-eq-div-mul i.date.year 10 10, div-div-eq-div-mul i.date.year (10 * 10) 10)

pub text-size : (i : Instant) → length (text_of i) ≡ 16
text-size i = rw (text_digits i)

pub text-form : (i : Instant) → is_form (text_of i) ≡ true
unfolding text_of decimal is_form all_digits
text-form i = simp last_digit

-- ---- from a text to an instant and back

-- a year is its century and its place in it
pub century : (t : List ℕ) → number_at t 0 2 * 100 + number_at t 2 2 ≡ number_at t 0 4
unfolding number_at
century t = omega arith

-- the elements of a list from a place on, one by one
abbrev spelled : (k : ℕ) (t : List ℕ) (at : ℕ) → List ℕ
spelled zero t at = []
spelled (suc k) t at = get_or t at 0 ∷ spelled k t (suc at)

spell : (k : ℕ) (t : List ℕ) (at : ℕ) → at + k ≡ length t → drop at t ≡ spelled k t at
spell zero t at e =
    let end : at ≡ length t = omega arith in
    rw (end, drop-length t)
spell (suc k) t at e = drop-cons t at 0 (omega arith) ∙ ap (λ (l : List ℕ). get_or t at 0 ∷ l) (spell k t (suc at) (omega arith))

-- ten times the tens and the ones have these two as their digits
module _ (a b : ℕ) (p : Digit a) (q : Digit b) where
  abbrev pair : ℕ
  pair = (0 * 10 + (a - 0x30)) * 10 + (b - 0x30)

  tens : 0x30 + pair / 10 % 10 ≡ a
  tens = omega arith

  ones : 0x30 + pair % 10 ≡ b
  ones = omega arith

  module _ (d e : ℕ) (r : Digit d) (s : Digit e) where
    abbrev four : ℕ
    four = (pair * 10 + (d - 0x30)) * 10 + (e - 0x30)

    -- the first two digits of four are those of two
    leading : four / 10 / 10 ≡ pair
    leading = omega arith

    third : 0x30 + four / 10 % 10 ≡ d
    third = omega arith

    fourth : 0x30 + four % 10 ≡ e
    fourth = omega arith

pair-text : (t : List ℕ) (at : ℕ) → DigitsAt t at → decimal 2 (number_at t at 2) ≡ get_or t at 0 ∷ get_or t (at + 1) 0 ∷ []
unfolding decimal number_at
pair-text t at x =
    let first : at + 0 ≡ at = omega arith in
    let a = get_or t at 0 in
    let b = get_or t (at + 1) 0 in
    rw (first, tens a b x.tens x.ones, ones a b x.tens x.ones)

year_text : (t : List ℕ) → DigitsAt t 0 → DigitsAt t 2 → decimal 4 (number_at t 0 4) ≡ get_or t 0 0 ∷ get_or t 1 0 ∷ get_or t 2 0 ∷ get_or t 3 0 ∷ []
unfolding decimal number_at
year_text t x y =
    let a = get_or t 0 0 in
    let b = get_or t 1 0 in
    let d = get_or t 2 0 in
    let e = get_or t 3 0 in
    rw (
      leading a b x.tens x.ones d e y.tens y.ones,
      tens a b x.tens x.ones,
      ones a b x.tens x.ones,
      third a b x.tens x.ones d e y.tens y.ones,
      fourth a b x.tens x.ones d e y.tens y.ones,
    )

pub text-back : (t : List ℕ) → Form t → text_of (read_instant t) ≡ t
unfolding text_of read_instant
text-back t f =
    rw (
      year_text t (in_date t f 0 (omega arith)) (in_date t f 2 (omega arith)),
      pair-text t 4 (in_date t f 4 (omega arith)),
      pair-text t 6 (in_date t f 6 (omega arith)),
      pair-text t 9 (in_clock t f 9 (omega arith) (omega arith)),
      pair-text t 11 (in_clock t f 11 (omega arith) (omega arith)),
      pair-text t 13 (in_clock t f 13 (omega arith) (omega arith)),
      ← f.mark,
      ← f.end,
    )
    (sym (spell 16 t 0 (sym f.size)))
