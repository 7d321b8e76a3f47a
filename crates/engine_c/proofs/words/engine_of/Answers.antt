-- `engine_c::words::engine_of` meets its contract. Each part of the state is what its own function returns. Assumes nothing.
use Rattle.engine_c.specs.Words.{engine_of}
use Rattle.engine_c.proofs.words.engine_of.Goals as goal

pub returns : goal.returns
unfolding engine_of
returns c =
    simp (
      c.target_of.ensures,
      c.size-2.ensures,
      c.size.ensures,
      c.await_of.ensures,
      c.operation_of.ensures,
      c.operation_in.ensures,
      c.peer_of.ensures,
      c.settings_of.ensures,
    )
