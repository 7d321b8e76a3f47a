-- `filing::content::is_filing` meets its contract: both lengths are as they must be. Assumes nothing.
use mathlib.Core.Path.{refl}
use native.Mathlib.Omega.{arith}
use borrow.Author.Tests.{eq-eqb, ne_eqb}
use Rattle.filing.proofs.content.is_filing.Goals as goal

pub returns-then-m-ne-FILE_ROW : goal.returns-then-m-ne-FILE_ROW
returns-then-m-ne-FILE_ROW c = rw (ne_eqb c.args.m 49 c.if-m-ne-FILE_ROW.true) refl

pub returns : goal.returns
returns c = rw (eq-eqb c.args.m 49 (omega arith)) refl
