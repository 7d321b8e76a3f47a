-- One turn of the loops that copy within a store, repeat a group and read a word in hexadecimal, and their ends. Assumes nothing.
use mathlib.Core.Path.{◌≡◌, refl, sym, ap, ◌∙◌}
use mathlib.Core.List.{List}
use Prim.Native.Nat.{ℕ, zero, suc, ◌+◌, ◌-◌, ◌*◌, ◌≤◌, ◌<◌}
use native.Mathlib.Omega.{arith}
use lib.ListN.{length, get_or, set}
use borrow.Author.Tests.{le-ltb, lt-leb, ne_eqb}
use Rattle.lines.specs.declared.word.Scan.{Scan}
use Rattle.lines.specs.Word.{filled, between, first_from, number_of, copied_on, repeated_on, repeated, pushed}
use Rattle.lines.specs.Word.{Scanned, scanned, scan, scanned_group, scanned_pair, scanned_from, place_after, value_of}

-- ---- copies

pub copied_turn : (out : List ℕ) (to i n : ℕ) → i < to → n < length out → i < length out
    → copied_on (to - i) out i n ≡ copied_on (to - (i + 1)) (set out n (get_or out i 0)) (i + 1) (n + 1)
copied_turn out to i n h k l =
    let e : to - i ≡ suc (to - (i + 1)) = omega arith in
    ap (λ (m : ℕ). copied_on m out i n) e ∙ simp (lt-leb _ _ k, lt-leb _ _ l)

-- ---- repetitions

pub repeated-turn : (out after : List ℕ) (from to n next count i : ℕ) → i < count → filled after next ≡ copied_on (to - from) out from n
    → (next ≡ n → ⊥)
    → repeated_on (count - i) out from to n ≡ repeated_on (count - (i + 1)) after from to next
repeated-turn out after from to n next count i h e k =
    let g : count - i ≡ suc (count - (i + 1)) = omega arith in
    ap (λ (m : ℕ). repeated_on m out from to n) g ∙ simp (sym e, ne_eqb _ _ k)

-- ---- words

-- of what the code's functions give: the end of the count, the count, and the store with the group repeated
pub group_of : (s out after : List ℕ) (p : Scan) (end n count : ℕ) → end ≡ first_from s (p.at + 1) 41
    → count ≡ number_of (between s (p.at + 1) end)
    → filled after n ≡ repeated out p.unit p.n count
    → scanned (scan end n n) after ≡ scanned_group s p out
unfolding scanned_group
group_of s out after p end n count e f g = rw (← e, ← f, ← g) refl

pub pair_of : (s out after : List ℕ) (p : Scan) (next n : ℕ) → next ≡ place_after s (p.at + 1)
    → filled after n ≡ pushed out p.n (value_of (get_or s p.at 0) * 16 + value_of (get_or s (p.at + 1) 0))
    → scanned (scan next n p.unit) after ≡ scanned_pair s p out
unfolding scanned_pair
pair_of s out after p next n e g = rw (← e, ← g) refl

pub scan-end : (s out : List ℕ) (g : Scanned) (p : Scan) (f : ℕ) → length s ≤ p.at → g ≡ scanned_from f s p out → g ≡ scanned p out
scan-end s out g p zero h e = e
scan-end s out g p (suc f) h e = e ∙ simp (le-ltb _ _ h)
