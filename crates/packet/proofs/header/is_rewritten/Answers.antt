-- `packet::header::is_rewritten` meets its contract: the tests are those of `rewritten`, in its order. Assumes nothing.
use mathlib.Core.Path.{sym, ap, ◌∙◌}
use mathlib.Core.List.{List}
use Prim.Native.Nat.{ℕ}
use borrow.Author.Tests.{lt-ltb, le-ltb, eq-eqb, ne_eqb}
use Rattle.packet.specs.Auth.{same}
use Rattle.packet.specs.Canonical.{rewritten}
use Rattle.packet.proofs.SameBytes.{same_self}
use Rattle.packet.proofs.CanonicalLaws.{plain_test, as_read}
use Rattle.packet.proofs.header.is_rewritten.Goals as goal

pub returns-then-id-lt64 : goal.returns-then-id-lt64
unfolding rewritten
returns-then-id-lt64 c = simp (lt-ltb _ _ c.if-id-lt64.true) c.is_terminated16.ensures

pub returns-then-id-eq-TYPE : goal.returns-then-id-eq-TYPE
unfolding rewritten
returns-then-id-eq-TYPE c = simp (le-ltb _ _ c.if-id-lt64.false, eq-eqb _ _ c.if-id-eq-TYPE.true) c.is_terminated8.ensures

pub returns-then-id-eq-TIME : goal.returns-then-id-eq-TIME
unfolding rewritten
returns-then-id-eq-TIME c =
    simp (le-ltb _ _ c.if-id-lt64.false, ne_eqb _ _ c.if-id-eq-TYPE.false, eq-eqb _ _ c.if-id-eq-TIME.true)
    (plain_test c.args.value.now _ c.is_well_formed8.ensures)

pub returns-then-id-eq-PERMISSIONS : goal.returns-then-id-eq-PERMISSIONS
unfolding rewritten
returns-then-id-eq-PERMISSIONS c =
    simp (
      le-ltb _ _ c.if-id-lt64.false,
      ne_eqb _ _ c.if-id-eq-TYPE.false,
      ne_eqb _ _ c.if-id-eq-TIME.false,
      eq-eqb _ _ c.if-id-eq-PERMISSIONS.true,
    ) c.is_top_zero.ensures

pub returns : goal.returns
returns c =
    let v = c.args.value.now in
    let e = as_read c.args.id v c.if-id-lt64.false
    c.if-id-eq-TYPE.false c.if-id-eq-TIME.false c.if-id-eq-PERMISSIONS.false in
    sym (ap (λ (l : List ℕ). same l v) e ∙ same_self v)
