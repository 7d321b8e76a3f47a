-- `client_c::words::part_numbers` meets its contract. The second number says whether a body header came. Assumes nothing.
use Rattle.client_c.proofs.words.part_numbers.Goals as goal

pub returns-in-Some : goal.returns-in-Some
returns-in-Some c =
    simp (
      c.four_of.ensures,
      c.wide-in-Some.ensures,
      c.wide.ensures,
      c.in-Some.is,
    )

pub returns-in-None : goal.returns-in-None
returns-in-None c = simp (c.four_of-in-None.ensures, c.wide-in-None.ensures, c.in-None.is)
