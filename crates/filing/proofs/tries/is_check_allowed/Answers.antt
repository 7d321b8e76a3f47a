-- `filing::tries::is_check_allowed` meets its contract: the last 64 letters are all in the window. Assumes nothing.
use mathlib.Core.Path.{◌≡◌, refl, sym, ap, ◌∙◌}
use mathlib.Core.Bool.{Bool, true, false, not}
use mathlib.Core.List.{List}
use Prim.Native.Nat.{ℕ, ◌-◌, ◌≤◌}
use native.Mathlib.Omega.{arith}
use lib.Dec.{leb, ltb}
use lib.ListN.{length, take, drop, length-drop}
use lib.Seq.{take_all}
use borrow.Author.Tests.{leb-true, leb-false, lt-ltb, le-ltb}
use Rattle.journal.specs.Checks.{wrongs, too_many_of}
use Rattle.filing.specs.Tries.{history_of, last_letters, check_allowed}
use Rattle.filing.proofs.Letters.{length_history}
use Rattle.filing.proofs.tries.is_check_allowed.Goals as goal

-- fewer than eight
few : (n : ℕ) → ltb n 8 ≡ not (leb 8 n)
few n = go (leb 8 n) refl
  where
    go : (b : Bool) → leb 8 n ≡ b → ltb n 8 ≡ not b
    go true e = le-ltb n 8 (leb-true 8 n e)
    go false e = lt-ltb n 8 (leb-false 8 n e)

may-by : (l : List ℕ) → length l ≤ 64 → ltb (wrongs (history_of l)) 8 ≡ check_allowed l
unfolding check_allowed too_many_of
may-by l h =
    few (wrongs (history_of l)) ∙ ap (λ (k : ℕ). not (leb 8 k)) (ap wrongs (sym (take_all 64 (history_of l) (omega (arith, length_history l, h)))))

-- the part that the code looks at
part : (l : List ℕ) (from : ℕ) → from ≡ length l - 64 → take (length l - from) (drop from l) ≡ last_letters l
part l from e = take_all (length l - from) (drop from l) (omega (arith, length-drop from l)) ∙ ap (λ (k : ℕ). drop k l) e

pub returns : goal.returns
returns c =
    let l = c.args.letters.now in
    let e = c.wrong_letters.ensures ∙ ap (λ (m : List ℕ). wrongs (history_of m)) (part l c.window_at-from.result c.window_at-from.ensures) in
    ap (λ (k : ℕ). ltb k 8) e ∙ may-by (last_letters l) (omega (arith, length-drop (length l - 64) l))
