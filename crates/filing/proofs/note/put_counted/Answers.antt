-- `filing::note::put_counted` meets its contract: three parts stand one behind the other. Assumes nothing.
use native.Mathlib.Omega.{arith}
use Rattle.filing.proofs.NoteText.{laid_three}
use Rattle.filing.proofs.note.put_counted.Goals as goal

pub returns : goal.returns
returns c =
    let x = c.put_text-a.ensures in
    let y = c.put_number-b.ensures in
    let z = c.put_text.ensures in record {
      value = laid_three x.value y.value z.value (omega (arith, x.small, y.small)) (omega (arith, x.small, y.small, z.small));
      small = omega (arith, x.small, y.small, z.small);
    }
