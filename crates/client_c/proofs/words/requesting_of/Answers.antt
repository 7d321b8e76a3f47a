-- `client_c::words::requesting_of` meets its contract. Each field is a number of the operation. Assumes nothing.
use Rattle.client_c.proofs.words.requesting_of.Goals as goal

pub returns : goal.returns
returns c =
    simp (
      c.is_set-6.ensures,
      c.is_set-5.ensures,
      c.is_set-4.ensures,
      c.size-5.ensures,
      c.size-4.ensures,
      c.size-3.ensures,
      c.is_set-3.ensures,
      c.is_set-2.ensures,
      c.is_set.ensures,
      c.size-2.ensures,
      c.size.ensures,
    )
