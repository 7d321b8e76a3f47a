-- `filing::note::put_hex` meets its contract. The invariant: the digits of the bytes that were passed stand in the store. Assumes nothing.
use mathlib.Core.Path.{refl, ap}
use mathlib.Core.List.{List, []}
use Prim.Native.Nat.{ℕ}
use native.Mathlib.Omega.{arith}
use lib.ListN.{length}
use lib.Seq.{take_all}
use Rattle.files.specs.Path.{hex_of}
use Rattle.filing.specs.Note.{Laid}
use Rattle.filing.proofs.NoteText.{hex_next, laid_none, laid_more, laid_as}
use Rattle.filing.proofs.note.put_hex.Goals as goal

-- before the first byte nothing is laid
none_yet : (s : List ℕ) (at : ℕ) → Laid s at (hex_of []) at s
unfolding hex_of
none_yet s at = laid_none s at

pub loop-i-init : goal.loop-i-init
loop-i-init c = (omega arith, refl, omega arith, none_yet c.args.store.now c.args.at)

pub put_text-to-requires : goal.put_text-to-requires
put_text-to-requires c = omega (arith, ap length c.hex_pair-two.ensures)

pub loop-i-preserved : goal.loop-i-preserved
loop-i-preserved c =
    let l = c.loop-i in
    let a = c.args in
    let two = ap length c.hex_pair-two.ensures in
    let e = c.put_text-to.ensures.value.ends in (
      omega arith,
      omega arith,
      omega (arith, two, e),
      laid_as (laid_more l.invariant.3 c.put_text-to.ensures.value (omega (arith, two, e)))
          (hex_next a.bytes.now l.i c.hex_pair-two.result (omega arith) c.hex_pair-two.ensures),
    )

pub returns : goal.returns
returns c =
    let l = c.loop-i in
    let a = c.args in record {
      value = laid_as l.invariant.3 (ap hex_of (take_all l.i a.bytes.now (omega arith)));
      small = omega arith;
    }
