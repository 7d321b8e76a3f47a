-- `client_c::words::requesting_numbers` meets its contract. Each field is left as the number that the definition says, and a byte is its
-- own low bits. Assumes nothing.
use Rattle.client_c.proofs.words.requesting_numbers.Goals as goal

pub returns : goal.returns
returns c =
    record {
      numbers = let at-flag-number2 = c in
          simp (
            c.wide-5.ensures,
            c.wide-4.ensures,
            c.wide-3.ensures,
            c.wide8.ensures.0,
            c.flag_number-3.ensures,
            c.flag_number-2.ensures,
            c.flag_number.ensures,
            c.wide-2.ensures,
            c.wide.ensures,
          );
      narrow = c.wide8.ensures.1;
    }
