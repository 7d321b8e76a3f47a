-- `filing::file::body_len` meets its contract: what is missing has no bytes. Assumes nothing.
use mathlib.Core.Path.{refl}
use Rattle.filing.proofs.file.body_len.Goals as goal

pub returns-then-has_body : goal.returns-then-has_body
returns-then-has_body c = rw c.if-has_body.true refl
