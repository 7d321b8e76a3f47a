-- `engine_c::words::peer_of` meets its contract. Each field is the number at its place. Assumes nothing.
use Rattle.engine_c.proofs.words.peer_of.Goals as goal

pub returns : goal.returns
returns c =
    simp (
      c.challenge_of.ensures,
      c.is_set-2.ensures,
      c.is_set.ensures,
      c.size-2.ensures,
      c.size.ensures,
    )
