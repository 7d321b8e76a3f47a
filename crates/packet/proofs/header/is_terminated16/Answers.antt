-- `packet::header::is_terminated16` meets its contract: what the writer gives is no bytes, or ends in a zero unit after well-formed ones. Assumes nothing.
use native.Mathlib.Omega.{arith}
use mathlib.Core.Path.{sym}
use Prim.Native.Nat.{◌-◌}
use lib.ListN.{length}
use lib.Seq.{length-take-le}
use Rattle.packet.proofs.TextForms.{short16, ended16}
use Rattle.packet.proofs.CanonicalLaws.{not_same, empty16, test16}
use Rattle.packet.proofs.header.is_terminated16.Goals as goal

pub returns-then-value-eq0 : goal.returns-then-value-eq0
returns-then-value-eq0 c = empty16 c.args.value.now c.if-value-eq0.true

pub returns-then-value-lt4 : goal.returns-then-value-lt4
returns-then-value-lt4 c =
    not_same _ _ (short16 c.args.value.now
    (λ k. omega (arith, c.shared_slice_known-1.given k)) (omega arith) (omega arith))

pub returns-then-value-n-ne0 : goal.returns-then-value-n-ne0
returns-then-value-n-ne0 c =
    let v = c.args.value.now in
    not_same _ _ (λ e. c.if-value-n-ne0.true (ended16 v (length v - 2) (omega arith)
    (λ k. omega (arith, c.shared_slice_known-2-1.given k)) e).high)

pub returns-then-value-n-ne0-2 : goal.returns-then-value-n-ne0-2
returns-then-value-n-ne0-2 c =
    let v = c.args.value.now in
    not_same _ _ (λ e. c.if-value-n-ne0-2.true (ended16 v (length v - 2) (omega arith)
    (λ k. omega (arith, c.shared_slice_known-3-1.given k)) e).low)

pub slice_bounds-is_well_formed16-end : goal.slice_bounds-is_well_formed16-end
slice_bounds-is_well_formed16-end c = sym (length-take-le _ _ (omega arith))

pub returns : goal.returns
returns c =
    let v = c.args.value.now in
    test16 v (length v - 2) _ (omega arith) (λ k. omega (arith, c.shared_slice_known-3-1.given k)) (omega arith)
    c.if-value-n-ne0.false c.if-value-n-ne0-2.false c.is_well_formed16.ensures
