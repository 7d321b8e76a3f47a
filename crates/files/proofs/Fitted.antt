-- Bytes at the front of a store: those that fit are laid there, and others leave it as it was. Assumes nothing.
use mathlib.Core.Path.{◌≡◌, refl, ap, ◌∙◌}
use mathlib.Core.List.{List, ◌++◌}
use Prim.Native.Nat.{ℕ, ◌+◌, ◌≤◌, ◌<◌}
use native.Mathlib.Omega.{arith}
use lib.ListN.{length, drop}
use lib.Seq.{take-length}
use borrow.Author.Tests.{lt-ltb, le-ltb}
use Rattle.packet.specs.Placed.{laid}
use Rattle.packet.proofs.Laid.{length-laid}
use Rattle.files.specs.Store.{filled, fit}

-- bytes laid at the very front
pub laid-front : (d t : List ℕ) → laid d 0 t ≡ t ++ drop (length t) d
laid-front d t =
    let z : 0 + length t ≡ length t = omega arith in
    rw (take-length t, z) refl

pub fit_none : (t d : List ℕ) → length d < length t → filled 0 d ≡ fit t d
unfolding fit
fit_none t d h = rw (lt-ltb (length d) (length t) h) refl

pub fit-fits : (t d e : List ℕ) (r : ℕ) → length t ≤ length d → r ≡ length t → e ≡ laid d 0 t → filled r e ≡ fit t d
unfolding fit
fit-fits t d e r h n p =
    let q = p ∙ laid-front d t in
    rw (le-ltb (length d) (length t) h, n, q) refl

-- what fits is no longer than the store
pub fit-room : (t d e : List ℕ) (r : ℕ) → length t ≤ length d → r ≡ length t → e ≡ laid d 0 t → r ≤ length e
fit-room t d e r h n p =
    let a = ap length p ∙ length-laid d t 0 (omega arith) in
    omega (arith, a)
