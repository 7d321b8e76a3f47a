-- However many processes check passwords at once, none checks behind eight wrong ones among the last 64 letters: a letter that is still open
-- counts as wrong, so the count that is read is never below the count that comes out. Assumes nothing.
use Prim.Native.Nat.{ℕ, zero, suc, ◌≤◌}
use mathlib.Core.Path.{◌≡◌, refl}
use mathlib.Core.List.{List, [], ◌∷◌}
use native.Mathlib.Omega.{arith}
use lib.ListN.{take}
use borrow.Author.Tests.{leb-false, lt-leb, not-true}
use Rattle.journal.specs.Checks.{is_wrong, bit, wrongs, too_many_of, window_length, most_wrong}
use Rattle.filing.specs.Tries.{open_letter, letter_check, history_of, check_allowed, Becomes, stays, settles, Settled}
use Rattle.filing.proofs.Letters.{bit_most}
use Rattle.filing.specs.Claims.{NeverMore}

-- what is open counts as wrong
open-wrong : bit (is_wrong (letter_check open_letter)) ≡ 1
unfolding letter_check
open-wrong = refl

one_less : (b c : ℕ) → Becomes b c → bit (is_wrong (letter_check c)) ≤ bit (is_wrong (letter_check b))
one_less b c stays = omega arith
one_less b c settles = omega (arith, open-wrong, bit_most (letter_check c))

all_less : (k : ℕ) (l m : List ℕ) → Settled l m → wrongs (take k (history_of m)) ≤ wrongs (take k (history_of l))
unfolding wrongs
all_less zero l m s = omega arith
all_less (suc k) [] [] s = omega arith
all_less (suc k) [] (c ∷ m) s = absurd s
all_less (suc k) (b ∷ l) [] s = absurd s
all_less (suc k) (b ∷ l) (c ∷ m) (h, s) = omega (arith, one_less b c h, all_less k l m s)

pub never_more : NeverMore
unfolding check_allowed too_many_of
never_more l m s e =
    let few = leb-false most_wrong (wrongs (take window_length (history_of l))) (not-true (too_many_of (history_of l)) e) in
    lt-leb most_wrong (wrongs (take window_length (history_of m))) (omega (arith, few, all_less window_length l m s))
