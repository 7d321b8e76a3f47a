-- `filing::file::target_mark` meets its contract: the length, or 255. Assumes nothing.
use mathlib.Core.Path.{refl}
use Rattle.filing.proofs.file.target_mark.Goals as goal

pub returns-then-not-has_target : goal.returns-then-not-has_target
returns-then-not-has_target c = rw c.if-not-has_target.true refl

pub returns : goal.returns
returns c = rw c.if-not-has_target.false refl
