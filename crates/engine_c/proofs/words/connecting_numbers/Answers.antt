-- `engine_c::words::connecting_numbers` meets its contract. The numbers are those that the definition says, and narrow ones come back by their
-- bits. Assumes nothing.
use Rattle.engine_c.specs.Words.{operation_of}
use Rattle.engine_c.proofs.words.connecting_numbers.Goals as goal

pub returns-in-Some : goal.returns-in-Some
unfolding operation_of
returns-in-Some c =
    record {
      numbers = simp (
        c.in-Some.is,
        c.wide32.ensures.0,
        c.wide.ensures,
        c.few-r.ensures,
        c.wide8.ensures.0,
      );
      back = simp (
        c.in-Some.is,
        c.wide32.ensures.1,
        c.wide8.ensures.1,
      );
    }

pub returns-in-None : goal.returns-in-None
unfolding operation_of
returns-in-None c =
    record {
      numbers = simp (
        c.in-None.is,
        c.wide.ensures,
        c.few-r.ensures,
        c.wide8.ensures.0,
      );
      back = simp (c.in-None.is, c.wide8.ensures.1);
    }
