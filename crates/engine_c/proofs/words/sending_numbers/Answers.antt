-- `engine_c::words::sending_numbers` meets its contract. Each field is left as the number that the definition says, and a byte is its own low
-- bits. Assumes nothing.
use Rattle.engine_c.proofs.words.sending_numbers.Goals as goal

pub returns : goal.returns
returns c =
    record {
      numbers = simp (
        c.wide.ensures,
        c.wide-2.ensures,
        c.flag_number.ensures,
        c.flag_number-2.ensures,
        c.flag_number-3.ensures,
        c.wide8.ensures.0,
        c.wide-3.ensures,
        c.wide-4.ensures,
        c.wide-5.ensures,
        c.flag_number-4.ensures,
        c.flag_number-5.ensures,
      );
      narrow = c.wide8.ensures.1;
    }
