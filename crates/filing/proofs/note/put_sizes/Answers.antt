-- `filing::note::put_sizes` meets its contract: its parts stand one behind the other. Assumes nothing.
use mathlib.Core.Path.{refl}
use native.Mathlib.Omega.{arith}
use mathlib.Core.List.{append_assoc}
use borrow.Author.Tests.{eq-eqb, ne_eqb}
use Rattle.filing.proofs.NoteText.{laid_as, laid_more}
use Rattle.filing.proofs.note.put_sizes.Goals as goal

pub returns-then-numbers-eq0 : goal.returns-then-numbers-eq0
returns-then-numbers-eq0 c =
    let a = c.args in
    let x = c.put_counted-a.ensures in
    let y = c.put_text.ensures in record {
      value = laid_as (laid_more x.value y.value (omega (arith, x.small, y.small))) (rw (eq-eqb a.numbers.blocks 0 c.if-numbers-eq0.true) refl);
      small = omega (arith, x.small, y.small);
    }

pub returns : goal.returns
returns c =
    let a = c.args in
    let x = c.put_counted-a.ensures in
    let y = c.put_counted-b.ensures in
    let z = c.put_counted.ensures in
    let h = c.requires in
    let l = laid_more x.value y.value (omega (arith, h, x.small, y.small)) in record {
      value = laid_as (laid_more l z.value (omega (arith, h, x.small, y.small, z.small)))
          (simp (ne_eqb a.numbers.blocks 0 c.if-numbers-eq0.false, append_assoc));
      small = omega (arith, h, x.small, y.small, z.small);
    }
