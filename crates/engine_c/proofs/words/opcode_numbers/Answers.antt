-- `engine_c::words::opcode_numbers` meets its contract. Each kind gets the numbers that the definition says, and a byte is its own low bits.
-- Assumes nothing.
use Rattle.engine_c.specs.Words.{opcode_of}
use Rattle.engine_c.proofs.words.opcode_numbers.Goals as goal

pub returns-in-Connect : goal.returns-in-Connect
unfolding opcode_of
returns-in-Connect c =
    record {
      numbers = simp (c.few.ensures, c.in-Connect.is);
      back = simp c.in-Connect.is;
    }

pub returns-in-Disconnect : goal.returns-in-Disconnect
unfolding opcode_of
returns-in-Disconnect c =
    record {
      numbers = simp (c.few-in-Disconnect.ensures, c.in-Disconnect.is);
      back = simp c.in-Disconnect.is;
    }

pub returns-in-Put : goal.returns-in-Put
unfolding opcode_of
returns-in-Put c =
    record {
      numbers = simp (c.few-in-Put.ensures, c.in-Put.is);
      back = simp c.in-Put.is;
    }

pub returns-in-Get : goal.returns-in-Get
unfolding opcode_of
returns-in-Get c =
    record {
      numbers = simp (c.few-in-Get.ensures, c.in-Get.is);
      back = simp c.in-Get.is;
    }

pub returns-in-SetPath : goal.returns-in-SetPath
unfolding opcode_of
returns-in-SetPath c =
    record {
      numbers = simp (c.few-in-SetPath.ensures, c.in-SetPath.is);
      back = simp c.in-SetPath.is;
    }

pub returns-in-Action : goal.returns-in-Action
unfolding opcode_of
returns-in-Action c =
    record {
      numbers = simp (c.few-in-Action.ensures, c.in-Action.is);
      back = simp c.in-Action.is;
    }

pub returns-in-Session : goal.returns-in-Session
unfolding opcode_of
returns-in-Session c =
    record {
      numbers = simp (c.few-in-Session.ensures, c.in-Session.is);
      back = simp c.in-Session.is;
    }

pub returns-in-Abort : goal.returns-in-Abort
unfolding opcode_of
returns-in-Abort c =
    record {
      numbers = simp (c.few-in-Abort.ensures, c.in-Abort.is);
      back = simp c.in-Abort.is;
    }

pub returns-in-UserDefined : goal.returns-in-UserDefined
unfolding opcode_of
returns-in-UserDefined c =
    record {
      numbers = simp (c.few-in-UserDefined.ensures, c.wide8.ensures.0, c.in-UserDefined.is);
      back = simp
          (c.wide8.ensures.1, c.in-UserDefined.is);
    }
