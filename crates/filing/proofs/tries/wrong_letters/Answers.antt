-- `filing::tries::wrong_letters` meets its contract. The invariant: the count and the wrong letters that are left are all wrong ones. Assumes
-- nothing.
use mathlib.Core.Path.{◌≡◌}
use mathlib.Core.List.{[]}
use native.Mathlib.Omega.{arith}
use lib.ListN.{get_or, drop, drop_of_length-le}
use Rattle.journal.specs.Checks.{wrongs}
use Rattle.filing.specs.Tries.{letter_check}
use Rattle.filing.proofs.Letters.{bit_most, count_next}
use Rattle.filing.proofs.tries.wrong_letters.Goals as goal

pub loop-i-init : goal.loop-i-init
loop-i-init c = (omega arith, omega arith, omega arith)

pub overflow_add-count : goal.overflow_add-count
overflow_add-count c =
    omega (arith, c.wrong_number-count.ensures, bit_most (letter_check (get_or c.args.letters.now c.loop-i.i 0)))

pub loop-i-preserved : goal.loop-i-preserved
loop-i-preserved c =
    let l = c.loop-i in
    let s = c.args.letters.now in
    let e = c.wrong_number-count.ensures in
    let m = bit_most (letter_check (get_or s l.i 0)) in
    let n = count_next s l.i (omega arith) in
    (omega arith, omega (arith, e, m, l.invariant.1), omega (arith, e, n, l.invariant.2))

pub returns : goal.returns
unfolding wrongs
returns c =
    let s = c.args.letters.now in
    let e : drop c.loop-i.i s ≡ [] = drop_of_length-le s {i = c.loop-i.i} (omega arith) in
    let h = rw e at c.loop-i.invariant.2 in
    omega (arith, h)
