-- `load::main` meets its contract: a lemma gives the length of the stream's store, which is too long to be counted. Assumes nothing.
use Rattle.std.proofs.Common.{◌≡◌, ℕ, length, replicate, sym, rules}
use lib.ListN.{length-replicate}
use Rattle.load.proofs.main.Goals as goal

zeros : (n : ℕ) → n ≡ length {A = ℕ} (replicate n 0)
zeros n = sym (length-replicate n 0)

pub slice_bounds-run-end : goal.slice_bounds-run-end
slice_bounds-run-end c = zeros 1048576
