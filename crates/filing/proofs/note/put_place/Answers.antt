-- `filing::note::put_place` meets its contract: its parts stand one behind the other. Assumes nothing.
use native.Mathlib.Omega.{arith}
use mathlib.Core.List.{append_assoc}
use Rattle.filing.proofs.NoteText.{laid_as, laid_more}
use Rattle.filing.proofs.note.put_place.Goals as goal

pub returns : goal.returns
returns c =
    let x = c.put_counted-a.ensures in
    let y = c.put_counted-b.ensures in
    let z = c.put_hexed.ensures in
    let l = laid_more x.value y.value (omega (arith, c.requires, x.small, y.small)) in record {
      value = laid_as (laid_more l z.value (omega (arith, c.requires, x.small, y.small, z.small))) (simp append_assoc);
      small = omega (arith, c.requires, x.small, y.small, z.small);
    }
