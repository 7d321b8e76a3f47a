-- `client_c::words::client_of` meets its contract. Each part of the state is what its own function returns. Assumes nothing.
use Rattle.client_c.specs.Words.{client_of}
use Rattle.client_c.proofs.words.client_of.Goals as goal

pub returns : goal.returns
unfolding client_of
returns c =
    simp (
      c.size-2.ensures,
      c.size.ensures,
      c.is_set.ensures,
      c.await_of.ensures,
      c.operation_of.ensures,
      c.operation_in.ensures,
      c.id_of.ensures,
      c.settings_of.ensures,
    )
