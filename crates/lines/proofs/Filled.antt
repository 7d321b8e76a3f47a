-- The length of a store that is made with one value at each place. Stores of the programs are too long for the checker to count. Assumes nothing.
use mathlib.Core.Path.{◌≡◌, sym}
use Prim.Native.Nat.{ℕ}
use lib.ListN.{length, replicate, length-replicate}

pub filled : (n v : ℕ) → n ≡ length {A = ℕ} (replicate n v)
filled n v = sym (length-replicate n v)
