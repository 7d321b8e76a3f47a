-- `filing::note::put_number` meets its contract: it lays the digits without the zeros in front. Assumes nothing.
use native.Mathlib.Omega.{arith}
use Rattle.filing.proofs.NoteText.{number_cut, laid_as}
use Rattle.filing.proofs.note.put_number.Goals as goal

pub returns : goal.returns
returns c =
    let w = c in record {
      value = laid_as c.put_text.ensures.value (number_cut _ _ c.first_digit-from.result c.write_digits.ensures c.first_digit-from.ensures.value);
      small = omega (arith, c.put_text.ensures.small);
    }
