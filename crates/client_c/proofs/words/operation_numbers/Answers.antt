-- `client_c::words::operation_numbers` meets its contract. Each kind gets the numbers that the definition says, and they are read back
-- (`Back`). Assumes nothing.
use Rattle.client_c.specs.Words.{operation_of}
use Rattle.client_c.proofs.Back.{requesting_back, receiving_back}
use Rattle.client_c.proofs.words.operation_numbers.Goals as goal

pub returns-in-Nothing : goal.returns-in-Nothing
unfolding operation_of
returns-in-Nothing c =
    record {
      numbers = simp (c.few_of.ensures, c.in-Nothing.is);
      back = simp c.in-Nothing.is;
    }

pub returns-in-Connecting : goal.returns-in-Connecting
unfolding operation_of
returns-in-Connecting c =
    record {
      numbers = simp (c.few_of-in-Connecting.ensures, c.in-Connecting.is);
      back = simp c.in-Connecting.is;
    }

pub returns-in-Disconnecting : goal.returns-in-Disconnecting
unfolding operation_of
returns-in-Disconnecting c =
    record {
      numbers = simp (c.few_of-in-Disconnecting.ensures, c.in-Disconnecting.is);
      back = simp c.in-Disconnecting.is;
    }

pub returns-in-Requesting : goal.returns-in-Requesting
unfolding operation_of
returns-in-Requesting c =
    let known = c in record {
      numbers = simp (
        c.requesting_numbers.ensures.numbers,
        c.flag_number-in-Requesting-2.ensures,
        c.flag_number-in-Requesting.ensures,
        c.flag_number.ensures,
        c.request_kind.ensures,
        c.in-Requesting.is,
      );
      back = rw c.in-Requesting.is (requesting_back _ _ _ _ _ _ c.requesting_numbers.ensures.narrow);
    }

pub returns-in-Receiving : goal.returns-in-Receiving
unfolding operation_of
returns-in-Receiving c =
    record {
      numbers = simp (
        c.few_of-in-Receiving.ensures,
        c.wide8.ensures.0,
        c.flag_number-in-Receiving-2.ensures,
        c.flag_number-in-Receiving.ensures,
        c.in-Receiving.is,
      );
      back = rw c.in-Receiving.is (receiving_back _ _ _ c.wide8.ensures.1);
    }

pub returns-in-Aborting : goal.returns-in-Aborting
unfolding operation_of
returns-in-Aborting c =
    record {
      numbers = simp (c.few_of-in-Aborting.ensures, c.in-Aborting.is);
      back = simp c.in-Aborting.is;
    }
