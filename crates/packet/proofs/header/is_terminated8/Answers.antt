-- `packet::header::is_terminated8` meets its contract: what the writer gives ends in a zero after well-formed bytes. Assumes nothing.
use native.Mathlib.Omega.{arith}
use mathlib.Core.Path.{sym}
use Prim.Native.Nat.{◌-◌}
use lib.ListN.{length}
use lib.Seq.{length-take-le}
use Rattle.packet.proofs.TextForms.{ended8}
use Rattle.packet.proofs.CanonicalLaws.{not_same, empty8, test8}
use Rattle.packet.proofs.header.is_terminated8.Goals as goal

pub returns-then-value-eq0 : goal.returns-then-value-eq0
returns-then-value-eq0 c = empty8 c.args.value.now c.if-value-eq0.true

pub returns-then-value-n-ne0 : goal.returns-then-value-n-ne0
returns-then-value-n-ne0 c =
    let v = c.args.value.now in
    not_same _ _ (λ e. c.if-value-n-ne0.true (ended8 v (length v - 1) (omega arith) e).last)

pub slice_bounds-is_well_formed8-end : goal.slice_bounds-is_well_formed8-end
slice_bounds-is_well_formed8-end c = sym (length-take-le _ _ (omega arith))

pub returns : goal.returns
returns c =
    let v = c.args.value.now in
    test8 v (length v - 1) _ (omega arith) c.if-value-n-ne0.false c.is_well_formed8.ensures
