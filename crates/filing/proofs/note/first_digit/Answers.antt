-- `filing::note::first_digit` meets its contract. The invariant: what stands before is zeros, which are left out. Assumes nothing.
use mathlib.Core.Path.{refl, sym, ◌∙◌}
use native.Mathlib.Omega.{arith}
use Rattle.filing.proofs.NoteText.{strip_last, strip_stop, strip_on, strip_none}
use Rattle.filing.proofs.note.first_digit.Goals as goal

pub loop-i-init : goal.loop-i-init
loop-i-init c = (omega arith, refl)

pub returns-then-i-text : goal.returns-then-i-text
returns-then-i-text c =
    let l = c.loop-i in
    let t = c.args.text.now in record {
      value = sym (l.invariant.1 ∙ strip_last t l.i c.if-i-text.true);
      small = omega arith;
    }

pub returns-then-text-i-ne48 : goal.returns-then-text-i-ne48
returns-then-text-i-ne48 c =
    let l = c.loop-i in
    let t = c.args.text.now in record {
      value = sym (l.invariant.1 ∙ strip_stop t l.i (omega arith) c.if-text-i-ne48.true);
      small = omega arith;
    }

pub loop-i-preserved : goal.loop-i-preserved
loop-i-preserved c =
    let l = c.loop-i in
    let t = c.args.text.now in
    (omega arith, l.invariant.1 ∙ strip_on t l.i (omega arith) (omega arith))

pub returns : goal.returns
returns c =
    let l = c.loop-i in
    let t = c.args.text.now in record {
      value = strip_none t l.i (omega arith) ∙ sym l.invariant.1;
      small = omega arith;
    }
