-- `engine_c::words::id_of` meets its contract. Its branch is the definition's test. Assumes nothing.
use borrow.Author.Tests.{eq-eqb, ne_eqb}
use Rattle.engine_c.proofs.words.id_of.Goals as goal

pub returns-then-n-eq1 : goal.returns-then-n-eq1
returns-then-n-eq1 c = simp (eq-eqb c.args.n 1 c.if-n-eq1.true)

pub returns : goal.returns
returns c = simp (ne_eqb c.args.n 1 c.if-n-eq1.false)
