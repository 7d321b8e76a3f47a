-- `filing::content::object_row` meets its contract: a flag and two bytes of a length. Assumes nothing.
use mathlib.Core.Path.{refl}
use Rattle.filing.proofs.content.object_row.Goals as goal

pub returns-then-has_body : goal.returns-then-has_body
returns-then-has_body c = rw (c.if-has_body.true, c.row_of.ensures) refl

pub returns : goal.returns
returns c = rw (c.if-has_body.false, c.row_of-2.ensures) refl
