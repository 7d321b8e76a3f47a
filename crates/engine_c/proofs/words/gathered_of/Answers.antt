-- `engine_c::words::gathered_of` meets its contract. Each field is a number of the operation. Assumes nothing.
use Rattle.engine_c.proofs.words.gathered_of.Goals as goal

pub returns : goal.returns
returns c =
    simp (
      c.is_set-3.ensures,
      c.is_set-2.ensures,
      c.is_set.ensures,
      c.size-2.ensures,
      c.size.ensures,
    )
