-- `filing::note::put_text` meets its contract: it copies. Assumes nothing.
use mathlib.Core.Path.{refl}
use native.Mathlib.Omega.{arith}
use Rattle.filing.proofs.note.put_text.Goals as goal

pub returns : goal.returns
returns c =
    record {
      value = record { ends = refl; lays = c.copy_into.ensures };
      small = omega arith;
    }
