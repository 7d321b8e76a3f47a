-- `filing::note::put_target` meets its contract: there is none, or one of no bytes, or one in hexadecimal. Assumes nothing.
use mathlib.Core.Path.{refl}
use native.Mathlib.Omega.{arith}
use lib.ListN.{length}
use borrow.Author.Tests.{eq-eqb, ne_eqb}
use Rattle.filing.proofs.NoteText.{laid_as}
use Rattle.filing.proofs.note.put_target.Goals as goal

pub returns-then-mark-eq-NO_TARGET : goal.returns-then-mark-eq-NO_TARGET
returns-then-mark-eq-NO_TARGET c =
    let a = c.args in record {
      value = laid_as c.put_text.ensures.value (rw (eq-eqb a.mark 255 c.if-mark-eq-NO_TARGET.true) refl);
      small = omega (arith, c.put_text.ensures.small);
    }

pub returns-then-target-eq0 : goal.returns-then-target-eq0
returns-then-target-eq0 c =
    let a = c.args in record {
      value = laid_as c.put_text-then-target-eq0.ensures.value
          (rw (ne_eqb a.mark 255 c.if-mark-eq-NO_TARGET.false, eq-eqb (length a.target.now) 0 c.if-target-eq0.true) refl);
      small = omega (arith, c.put_text-then-target-eq0.ensures.small);
    }

pub returns : goal.returns
returns c =
    let a = c.args in record {
      value = laid_as c.put_hexed.ensures.value
          (rw (ne_eqb a.mark 255 c.if-mark-eq-NO_TARGET.false, ne_eqb (length a.target.now) 0 c.if-target-eq0.false) refl);
      small = omega (arith, c.put_hexed.ensures.small);
    }
