-- `filing::file::numbers_in` meets its contract: each number stands at its place. Assumes nothing.
use mathlib.Core.Path.{refl}
use Rattle.filing.proofs.file.numbers_in.Goals as goal

pub returns : goal.returns
returns c =
    rw (
      c.be32_at-4.ensures,
      c.be32_at-3.ensures,
      c.be32_at-2.ensures,
      c.be32_at.ensures,
    ) refl
