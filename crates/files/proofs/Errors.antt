-- An error's number as the code tells it, by the bits of a signed number, and as the definitions do. Assumes nothing.
use mathlib.Core.Path.{◌≡◌, refl, sym, ap, ◌∙◌}
use mathlib.Core.Logic.{inl, inr}
use mathlib.Core.Bool.{true, false}
use mathlib.Core.List.{[], ◌∷◌}
use Prim.Native.Nat.{ℕ}
use lib.IntN.{ℤ, pos, negsuc}
use borrow.Author.Tests.{ne_eqb}
use types.Run.{OneOf}
use mir.Syntax.{w32}
use mir.Val.{SFits, to_z, of_z}
use mir.ValLaws.{to_z-of_z}
use Rattle.files.specs.Errors.{is_error, refusal_of, read_alone, missing, is_full}

-- the bits tell the number
by_bits : (z : ℤ) (k : ℕ) → SFits w32 z → of_z w32 z ≡ k → z ≡ to_z w32 k
by_bits z k f e = sym (to_z-of_z w32 z f) ∙ ap (to_z w32) e

-- other bits are another number
other_bits : (z : ℤ) (k : ℕ) → (of_z w32 z ≡ k → ⊥) → is_error z k ≡ false
other_bits (pos n) k h = ne_eqb n k h
other_bits (negsuc n) k h = refl

-- ---- a folder that is not there

pub missing_is : (z : ℤ) → SFits w32 z → OneOf (2 ∷ 20 ∷ []) (of_z w32 z) → true ≡ missing z
unfolding missing
missing_is z f (inl k) = sym (ap missing (by_bits z 2 f k))
missing_is z f (inr k) = sym (ap missing (by_bits z 20 f k))

pub missing-not : (z : ℤ) → (OneOf (2 ∷ 20 ∷ []) (of_z w32 z) → ⊥) → false ≡ missing z
unfolding missing
missing-not z h = rw (other_bits z 2 (λ k. h (inl k)), other_bits z 20 (λ k. h (inr k))) refl

-- ---- what has no room

pub full_is : (z : ℤ) → SFits w32 z → OneOf (28 ∷ 122 ∷ []) (of_z w32 z) → true ≡ is_full z
unfolding is_full
full_is z f (inl k) = sym (ap is_full (by_bits z 28 f k))
full_is z f (inr k) = sym (ap is_full (by_bits z 122 f k))

pub full-not : (z : ℤ) → (OneOf (28 ∷ 122 ∷ []) (of_z w32 z) → ⊥) → false ≡ is_full z
unfolding is_full
full-not z h = rw (other_bits z 28 (λ k. h (inl k)), other_bits z 122 (λ k. h (inr k))) refl

-- ---- a file that can be read alone

pub read-only_is : (z : ℤ) → SFits w32 z → OneOf (1 ∷ 13 ∷ 26 ∷ 30 ∷ []) (of_z w32 z) → true ≡ read_alone z
unfolding read_alone
read-only_is z f (inl k) = sym (ap read_alone (by_bits z 1 f k))
read-only_is z f (inr (inl k)) = sym (ap read_alone (by_bits z 13 f k))
read-only_is z f (inr (inr (inl k))) = sym (ap read_alone (by_bits z 26 f k))
read-only_is z f (inr (inr (inr k))) = sym (ap read_alone (by_bits z 30 f k))

pub read-only-not : (z : ℤ) → (OneOf (1 ∷ 13 ∷ 26 ∷ 30 ∷ []) (of_z w32 z) → ⊥) → false ≡ read_alone z
unfolding read_alone
read-only-not z h =
    rw (
      other_bits z 1 (λ k. h (inl k)),
      other_bits z 13 (λ k. h (inr (inl k))),
      other_bits z 26 (λ k. h (inr (inr (inl k)))),
      other_bits z 30 (λ k. h (inr (inr (inr k)))),
    ) refl

-- ---- the code of the reply

pub refusal_missing : (z : ℤ) → SFits w32 z → of_z w32 z ≡ 2 → 0x44 ≡ refusal_of z
unfolding refusal_of
refusal_missing z f k = sym (ap refusal_of (by_bits z 2 f k))

pub refusal_forbidden : (z : ℤ) → SFits w32 z → OneOf (1 ∷ 6 ∷ 13 ∷ 21 ∷ 40 ∷ []) (of_z w32 z) → 0x43 ≡ refusal_of z
unfolding refusal_of
refusal_forbidden z f (inl k) = sym (ap refusal_of (by_bits z 1 f k))
refusal_forbidden z f (inr (inl k)) = sym (ap refusal_of (by_bits z 6 f k))
refusal_forbidden z f (inr (inr (inl k))) = sym (ap refusal_of (by_bits z 13 f k))
refusal_forbidden z f (inr (inr (inr (inl k)))) = sym (ap refusal_of (by_bits z 21 f k))
refusal_forbidden z f (inr (inr (inr (inr k)))) = sym (ap refusal_of (by_bits z 40 f k))

pub refusal_other : (z : ℤ) → (of_z w32 z ≡ 2 → ⊥) → (OneOf (1 ∷ 6 ∷ 13 ∷ 21 ∷ 40 ∷ []) (of_z w32 z) → ⊥) → 0x50 ≡ refusal_of z
unfolding refusal_of
refusal_other z g h =
    rw (
      other_bits z 2 g,
      other_bits z 1 (λ k. h (inl k)),
      other_bits z 6 (λ k. h (inr (inl k))),
      other_bits z 13 (λ k. h (inr (inr (inl k)))),
      other_bits z 21 (λ k. h (inr (inr (inr (inl k))))),
      other_bits z 40 (λ k. h (inr (inr (inr (inr k))))),
    ) refl
