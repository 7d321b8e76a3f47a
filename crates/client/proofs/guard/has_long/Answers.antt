-- `client::guard::has_long` meets its contract. The invariant: the answer is that of the headers that are left. Assumes nothing.
use native.Mathlib.Omega.{arith}
use mathlib.Core.Path.{refl, sym, ap, ◌∙◌}
use lib.Dec.{ltb}
use borrow.Author.Tests.{lt-ltb, le-ltb}
use borrow.Enum.Refused.{opened}
use Rattle.packet.specs.declared.header.HeaderAt.TheVariants.{At}
use Rattle.packet.proofs.HeaderLaws.{by_cursor_lem}
use Rattle.client_model.specs.Guard.{too_long_of}
use Rattle.client.proofs.Walks.{found, on, ends, header-length}
use Rattle.client.proofs.guard.has_long.Goals as goal

pub loop-end-init : goal.loop-end-init
unfolding too_long_of
loop-end-init c = record { readable = c.requires; gives = refl }

pub returns : goal.returns
returns c = ends _ _ _ _ c.loop-end.invariant _ c.step.ensures (opened c.in_default.in_default-own.keys2)

pub overflow_sub-end : goal.overflow_sub-end
overflow_sub-end c =
    let h = by_cursor_lem _ _ (At _ _ _ _) (sym c.step.ensures ∙ c.in-At.is) in omega (arith, h.next)

pub returns-then-capacity-end : goal.returns-then-capacity-end
returns-then-capacity-end c =
    let h = by_cursor_lem _ _ (At _ _ _ _) (sym c.step.ensures ∙ c.in-At.is) in
    found _ _ _ _ c.loop-end.invariant _ _ _ _ h _
    (ap (ltb _) (header-length _ _ _ _ _ _ (λ i. omega (arith, c.shared_slice_known-1.given i))
    (sym c.step.ensures ∙ c.in-At.is) h.stands.fits)) (lt-ltb _ _ c.if-capacity-end.true)

pub loop-end-smaller : goal.loop-end-smaller
loop-end-smaller c =
    let h = by_cursor_lem _ _ (At _ _ _ _) (sym c.step.ensures ∙ c.in-At.is) in omega (arith, h.next, h.stands.fits)

pub loop-end-preserved : goal.loop-end-preserved
loop-end-preserved c =
    let h = by_cursor_lem _ _ (At _ _ _ _) (sym c.step.ensures ∙ c.in-At.is) in
    on _ _ _ _ c.loop-end.invariant _ _ _ _ h _
    (ap (ltb _) (header-length _ _ _ _ _ _ (λ i. omega (arith, c.shared_slice_known-1.given i))
    (sym c.step.ensures ∙ c.in-At.is) h.stands.fits)) (le-ltb _ _ c.if-capacity-end.false)
