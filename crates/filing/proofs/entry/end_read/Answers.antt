-- `filing::entry::end_read` meets its contract. Its tests are those of the definition. Assumes nothing.
use mathlib.Core.Path.{refl}
use borrow.Author.Tests.{eq-eqb, ne_eqb}
use Rattle.filing.proofs.entry.end_read.Goals as goal

pub returns-then-number-eq1 : goal.returns-then-number-eq1
returns-then-number-eq1 c = rw (eq-eqb c.args.number 1 c.if-number-eq1.true) refl

pub returns-then-number-eq2 : goal.returns-then-number-eq2
returns-then-number-eq2 c =
    let n = c.args.number in
    rw (ne_eqb n 1 c.if-number-eq1.false, eq-eqb n 2 c.if-number-eq2.true) refl

pub returns : goal.returns
returns c =
    let n = c.args.number in
    rw (ne_eqb n 1 c.if-number-eq1.false, ne_eqb n 2 c.if-number-eq2.false) refl
