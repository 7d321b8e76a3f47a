-- `engine_c::words::peer_numbers` meets its contract. Each field is left as the number that the definition says, and is read back (`Back`).
-- Assumes nothing.
use Rattle.engine_c.proofs.Back.{peer-back}
use Rattle.engine_c.proofs.words.peer_numbers.Goals as goal

pub returns : goal.returns
returns c =
    record {
      numbers = simp (
        c.flag_number-2.ensures,
        c.flag_number.ensures,
        c.wide16.ensures.0,
        c.wide32.ensures.0,
        c.wide-2.ensures,
        c.wide.ensures,
        c.challenge_numbers-n.ensures,
      );
      back = peer-back _ c.wide32.ensures.1 c.wide16.ensures.1;
    }
