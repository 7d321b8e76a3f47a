-- `filing::file::is_mark_right` meets its contract. Its tests are those of the definition. Assumes nothing.
use mathlib.Core.Path.{refl}
use borrow.Author.Tests.{eq-eqb, ne_eqb}
use Rattle.filing.proofs.file.is_mark_right.Goals as goal

pub returns-then-m-eq-NO_TARGET : goal.returns-then-m-eq-NO_TARGET
returns-then-m-eq-NO_TARGET c = rw (eq-eqb c.args.m 255 c.if-m-eq-NO_TARGET.true) refl

pub returns : goal.returns
returns c = rw (ne_eqb c.args.m 255 c.if-m-eq-NO_TARGET.false) refl
