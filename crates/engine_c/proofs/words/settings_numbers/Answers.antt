-- `engine_c::words::settings_numbers` meets its contract. Each field is left as the number that the definition says, and is read back
-- (`Back`). Assumes nothing.
use Rattle.engine_c.proofs.Back.{settings-back}
use Rattle.engine_c.proofs.words.settings_numbers.Goals as goal

pub returns : goal.returns
returns c =
    let at-wide8 = c in record {
      numbers = simp (
        c.flag_number-7.ensures,
        c.flag_number-6.ensures,
        c.flag_number-5.ensures,
        c.flag_number-4.ensures,
        c.flag_number-3.ensures,
        c.flag_number-2.ensures,
        c.flag_number.ensures,
        c.wide8.ensures.0,
        c.wide16.ensures.0,
        c.wide32.ensures.0,
      );
      back = settings-back _ c.wide32.ensures.1 c.wide16.ensures.1 c.wide8.ensures.1;
    }
