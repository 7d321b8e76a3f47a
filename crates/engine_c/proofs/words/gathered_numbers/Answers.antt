-- `engine_c::words::gathered_numbers` meets its contract. Each field is left as the number that the definition says. Assumes nothing.
use Rattle.engine_c.proofs.words.gathered_numbers.Goals as goal

pub returns : goal.returns
returns c =
    simp (
      c.wide.ensures,
      c.wide-2.ensures,
      c.flag_number.ensures,
      c.flag_number-2.ensures,
      c.flag_number-3.ensures,
    )
