-- `engine_c::words::operation_numbers` meets its contract. Each kind gets the numbers that the definition says, and they are read back
-- (`Back`). Assumes nothing.
use Rattle.engine_c.specs.Words.{operation_of}
use Rattle.engine_c.proofs.Back.{putting-back, getting-back, sending-back, gathering-back}
use Rattle.engine_c.proofs.words.operation_numbers.Goals as goal

pub returns-in-Nothing : goal.returns-in-Nothing
unfolding operation_of
returns-in-Nothing c =
    record {
      numbers = simp (c.few.ensures, c.in-Nothing.is);
      back = simp c.in-Nothing.is;
    }

pub returns-in-Trailing : goal.returns-in-Trailing
unfolding operation_of
returns-in-Trailing c =
    record {
      numbers = simp (c.few-in-Trailing.ensures, c.in-Trailing.is);
      back = simp c.in-Trailing.is;
    }

pub returns-in-Putting : goal.returns-in-Putting
returns-in-Putting c =
    let known = c.in-Putting.is in record {
      numbers = simp (c.gathered_numbers.ensures, c.flag_number.ensures, known);
      back = rw known (putting-back _ _);
    }

pub returns-in-Getting : goal.returns-in-Getting
returns-in-Getting c =
    let known = c.in-Getting.is in record {
      numbers = simp (
        c.gathered_numbers-in-Getting.ensures,
        c.flag_number-in-Getting-3.ensures,
        c.flag_number-in-Getting-2.ensures,
        c.flag_number-in-Getting.ensures,
        known,
      );
      back = rw known (getting-back _ _ _ _);
    }

pub returns-in-Sending : goal.returns-in-Sending
returns-in-Sending c =
    let known = c.in-Sending.is in record {
      numbers = simp (c.sending_numbers.ensures.numbers, known);
      back = rw known (sending-back _ _ _ _ c.sending_numbers.ensures.narrow);
    }

pub returns-in-Gathering : goal.returns-in-Gathering
returns-in-Gathering c =
    let known = c.in-Gathering.is in record {
      numbers = simp (c.gathered_numbers-in-Gathering.ensures, c.opcode_numbers-n.ensures.numbers, known);
      back = rw known (gathering-back _ _ c.opcode_numbers-n.ensures.back);
    }

pub returns-in-Connecting : goal.returns-in-Connecting
returns-in-Connecting c =
    let known = c.in-Connecting.is in record {
      numbers = simp (c.connecting_numbers.ensures.numbers, known);
      back = rw known c.connecting_numbers.ensures.back;
    }

pub returns-in-Draining : goal.returns-in-Draining
unfolding operation_of
returns-in-Draining c =
    let known = c.in-Draining.is in record {
      numbers = simp (c.few-in-Draining.ensures, c.wide8.ensures.0, known);
      back = simp (c.wide8.ensures.1, known);
    }
