-- The steps on a block: one more. Assumes nothing.
use Rattle.std.proofs.Common.{◌≡◌, ℕ, ◌+◌, ◌/◌, List, sym, add-one}
use Rattle.digest.specs.declared.md5.Regs.{Regs}
use Rattle.digest.specs.Md5.{step_of, word, word_at, steps}

pub steps_more : (p : List ℕ) (s t : Regs) (r i : ℕ) → i / 16 ≡ r → t ≡ steps p i s → step_of t i (word p (word_at r i)) ≡ steps p (i + 1) s
unfolding steps
steps_more p s t r i round at = rw (add-one, at, sym round)
