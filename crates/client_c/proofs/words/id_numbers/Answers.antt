-- `client_c::words::id_numbers` meets its contract. The first number says whether there is an id, which comes back by its low bits. Assumes nothing.
use Rattle.client_c.proofs.words.id_numbers.Goals as goal

pub returns-in-Some : goal.returns-in-Some
returns-in-Some c =
    record {
      numbers = simp (c.four_of.ensures, c.wide32.ensures.0, c.in-Some.is);
      back = simp (c.wide32.ensures.1, c.in-Some.is);
    }

pub returns-in-None : goal.returns-in-None
returns-in-None c =
    record {
      numbers = simp (c.four_of-in-None.ensures, c.in-None.is);
      back = simp c.in-None.is;
    }
