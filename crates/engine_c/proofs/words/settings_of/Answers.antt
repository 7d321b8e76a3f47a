-- `engine_c::words::settings_of` meets its contract. Each field is the number at its place. Assumes nothing.
use Rattle.engine_c.proofs.words.settings_of.Goals as goal

pub returns : goal.returns
returns c =
    simp (
      c.is_set-7.ensures,
      c.is_set-6.ensures,
      c.is_set-5.ensures,
      c.is_set-4.ensures,
      c.is_set-3.ensures,
      c.is_set-2.ensures,
      c.is_set.ensures,
    )
