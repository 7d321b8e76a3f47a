-- `files::path::put_hex` meets its contract. The invariant: the digits of the first `i` bytes are laid. Assumes nothing.
use mathlib.Core.Path.{refl, sym, ap, ◌∙◌}
use mathlib.Core.List.{List}
use Prim.Native.Nat.{ℕ, ◌+◌, ◌*◌}
use native.Mathlib.Omega.{arith}
use lib.ListN.{length}
use lib.Seq.{take_all}
use Rattle.packet.specs.Placed.{laid}
use Rattle.packet.proofs.Laid.{laid-nothing, length-laid}
use Rattle.files.specs.Path.{hex_of}
use Rattle.files.proofs.Joins.{pair-laid}
use Rattle.files.proofs.path.put_hex.Goals as goal

pub loop-i-init : goal.loop-i-init
unfolding hex_of
loop-i-init c =
    let a = c.args in
    (sym (laid-nothing a.out.now a.at), refl)

pub copy_into-requires : goal.copy_into-requires
copy_into-requires c =
    let p = c in
    let l = c.loop-i in
    let e = ap length c.hex_pair-pair.ensures in
    omega (arith, e, l.invariant.1)

pub loop-i-preserved : goal.loop-i-preserved
loop-i-preserved c =
    let k = c in
    let p = c in
    let t = c in
    let l = c.loop-i in
    let a = c.args in (
      pair-laid a.out.now a.bytes.now l.out c.hex_pair-pair.result _ a.at l.i c.loop-i-test.true
          c.requires l.invariant.0
          c.hex_pair-pair.ensures c.copy_into.ensures,
      ap length c.copy_into.ensures ∙ length-laid l.out c.hex_pair-pair.result (a.at + 2 * l.i) (omega (
        arith,
        ap length
            c.hex_pair-pair.ensures,
        l.invariant.1,
      )) ∙ l.invariant.1,
    )

pub shape_of-out : goal.shape_of-out
shape_of-out c = c.loop-i.invariant.1

pub returns : goal.returns
returns c =
    let l = c.loop-i in
    let a = c.args in
    l.invariant.0 ∙ ap (λ (s : List ℕ). laid a.out.now a.at (hex_of s)) (take_all l.i a.bytes.now c.loop-i-test.false)
