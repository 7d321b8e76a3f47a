-- `filing::note::put_sums` meets its contract: one line or two. Assumes nothing.
use mathlib.Core.Path.{refl}
use native.Mathlib.Omega.{arith}
use mathlib.Core.List.{append_assoc}
use borrow.Author.Tests.{eq-eqb, ne_eqb}
use Rattle.filing.proofs.NoteText.{laid_as, laid_more}
use Rattle.filing.proofs.note.put_sums.Goals as goal

pub returns-then-blocks-eq0 : goal.returns-then-blocks-eq0
returns-then-blocks-eq0 c =
    let a = c.args in record {
      value = laid_as c.put_hexed-a.ensures.value (rw (eq-eqb a.blocks 0 c.if-blocks-eq0.true) refl);
      small = omega (arith, c.put_hexed-a.ensures.small);
    }

pub returns : goal.returns
returns c =
    let a = c.args in
    let x = c.put_hexed-a.ensures in
    let y = c.put_hexed.ensures in record {
      value = laid_as (laid_more x.value y.value (omega (arith, x.small, y.small))) (simp (ne_eqb a.blocks 0 c.if-blocks-eq0.false, append_assoc));
      small = omega (arith, x.small, y.small);
    }
