-- `client::guard::has_reserved` meets its contract. The invariant: the answer is that of the headers that are left. Assumes nothing.
use native.Mathlib.Omega.{arith}
use mathlib.Core.Path.{refl, sym, ◌∙◌}
use borrow.Enum.Refused.{opened}
use Rattle.packet.specs.declared.header.HeaderAt.TheVariants.{At}
use Rattle.packet.proofs.HeaderLaws.{by_cursor_lem}
use Rattle.client.proofs.Walks.{found, on, ends}
use Rattle.client.proofs.guard.has_reserved.Goals as goal

pub loop-id-init : goal.loop-id-init
loop-id-init c = record { readable = c.requires; gives = refl }

pub returns : goal.returns
returns c = ends _ _ _ _ c.loop-id.invariant _ c.step.ensures (opened c.in_default.in_default-own.keys2)

pub returns-then-is_reserved : goal.returns-then-is_reserved
returns-then-is_reserved c =
    found _ _ _ _ c.loop-id.invariant _ _ _ _ (by_cursor_lem _ _ (At _ _ _ _) (sym c.step.ensures ∙ c.in-At.is)) _
    (sym c.is_reserved.ensures) c.if-is_reserved.true

pub loop-id-smaller : goal.loop-id-smaller
loop-id-smaller c =
    let h = by_cursor_lem _ _ (At _ _ _ _) (sym c.step.ensures ∙ c.in-At.is) in omega (arith, h.next, h.stands.fits)

pub loop-id-preserved : goal.loop-id-preserved
loop-id-preserved c =
    on _ _ _ _ c.loop-id.invariant _ _ _ _ (by_cursor_lem _ _ (At _ _ _ _) (sym c.step.ensures ∙ c.in-At.is)) _
    (sym c.is_reserved.ensures) c.if-is_reserved.false
