-- `filing::content::is_opening` meets its contract: both lengths are as they must be. Assumes nothing.
use mathlib.Core.Path.{refl}
use native.Mathlib.Omega.{arith}
use borrow.Author.Tests.{eq-eqb, ne_eqb}
use Rattle.filing.proofs.content.is_opening.Goals as goal

pub returns-then-m-ne-NAME : goal.returns-then-m-ne-NAME
returns-then-m-ne-NAME c = rw (ne_eqb c.args.m 33 c.if-m-ne-NAME.true) refl

pub returns : goal.returns
returns c = rw (eq-eqb c.args.m 33 (omega arith)) refl
