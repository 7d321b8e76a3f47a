-- `base::copy_into`: one byte more is copied in a turn.
use Rattle.std.proofs.Common.{◌≡◌, ◌+◌, ◌<◌, ℕ, List, length, get_or, arith, sym, ap, ◌∙◌, add-one}
use Rattle.std.proofs.Math.ListN.{length-set, set}
use Rattle.std.proofs.Math.Seq.{paste, paste-suc}
use Rattle.base.proofs.copy_into.Goals as goal

-- a turn's store
turn : (dst₀ src dst : List ℕ) (at i : ℕ) → dst ≡ paste dst₀ at src i → at + i < length dst₀ → i < length src
    → set dst (at + i) (get_or src i 0) ≡ paste dst₀ at src (i + 1)
turn dst₀ src dst at i e h k =
    ap (λ (l : List ℕ). set l (at + i) (get_or src i 0)) e ∙ paste-suc dst₀ at src i 0 h k ∙ ap (paste dst₀ at src) (sym (add-one i))

pub loop-i-preserved : goal.loop-i-preserved
loop-i-preserved c =
    (turn _ _ _ c.args.at c.loop-i.i c.loop-i.invariant.0 (omega arith) (omega arith), simp length-set c.loop-i.invariant.1)
