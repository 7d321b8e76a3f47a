-- What stands before the first zero, element by element. Assumes nothing.
use mathlib.Core.Path.{◌≡◌, refl, ap, ◌∙◌}
use mathlib.Core.List.{List, [], ◌∷◌}
use Prim.Native.Nat.{ℕ, zero, suc, ◌+◌, ◌≤◌}
use native.Mathlib.Omega.{arith}
use lib.ListN.{length, take}
use Rattle.std.specs.Prelude.{Option, Some, None, unwrap_or}
use Rattle.std.specs.List.{position_or_len}
use Rattle.std.proofs.lemmas.List.Recursion.{is_position_or_len}
use Rattle.std.proofs.Common.{Bool, true, false, cond, eqb, ltb, ltb-false, ne_eqb, sym}
use Rattle.text.specs.Unicode.{up_to_zero_of}

pub cut-take : (s : List ℕ) → take (length (up_to_zero_of s)) s ≡ up_to_zero_of s
unfolding up_to_zero_of
cut-take [] = refl
cut-take (zero ∷ r) = refl
cut-take (suc u ∷ r) = ap (λ (l : List ℕ). suc u ∷ l) (cut-take r)

pub cut-within : (s : List ℕ) → length (up_to_zero_of s) ≤ length s
unfolding up_to_zero_of
cut-within [] = omega arith
cut-within (zero ∷ r) = omega arith
cut-within (suc u ∷ r) = let h = cut-within r in omega arith

-- the place of the first zero, as the library finds it
before_zero : (s : List ℕ) → length (up_to_zero_of s) ≡ position_or_len (λ b. eqb b 0) s
unfolding up_to_zero_of
before_zero s = is_position_or_len (λ l. length (up_to_zero_of l)) (λ b. eqb b 0) refl (λ x xs. step x xs) s
  where
    step : (x : ℕ) (xs : List ℕ) → length (up_to_zero_of (x ∷ xs)) ≡ cond (eqb x 0) 0 (1 + length (up_to_zero_of xs))
    step zero xs = refl
    step (suc u) xs = rw (ne_eqb (suc u) 0 (λ e. omega arith)) (omega arith)

pub zero_found : (s : List ℕ) (r : Option ℕ) (n : ℕ)
    → r ≡ cond (ltb (position_or_len (λ b. eqb b 0) s) (length s)) (Some (position_or_len (λ b. eqb b 0) s)) None
    → n ≡ unwrap_or r (length s) → n ≡ length (up_to_zero_of s)
zero_found s r n e h =
    let p = before_zero s in
    let within = cut-within s in
    go (ltb (position_or_len (λ b. eqb b 0) s) (length s)) refl
  where
    go : (t : Bool) → ltb (position_or_len (λ b. eqb b 0) s) (length s) ≡ t → n ≡ length (up_to_zero_of s)
    go true q = rw (e, q) at h ∙ sym (before_zero s)
    go false q =
        let all = rw (e, q) at h in
        omega (arith, all, before_zero s, cut-within s, ltb-false _ _ q)
