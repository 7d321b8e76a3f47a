-- `packet::header::first_header` meets its contract: what the reader finds says what is left. Assumes nothing.
use native.Mathlib.Omega.{arith}
use mathlib.Core.Path.{sym, ◌∙◌}
use Rattle.packet.specs.declared.header.HeaderAt.TheVariants.{At, Unreadable, End}
use borrow.Author.Tests.{eq-eqb, ne_eqb}
use Rattle.packet.proofs.HeaderBytes.{header_at_within}
use Rattle.packet.proofs.HeaderLaws.{first_step}
use Rattle.packet.proofs.header.first_header.Goals as goal

pub returns-then-i-id : goal.returns-then-i-id
returns-then-i-id c =
    sym (rw (eq-eqb _ _ c.if-i-id.true) at (c.loop-i.invariant ∙ first_step _ _ _ (At _ _ _ _) (sym c.header_at.ensures ∙ c.in-At.is)))

pub loop-i-smaller : goal.loop-i-smaller
loop-i-smaller c = let h = header_at_within _ _ _ _ _ _ (sym c.header_at.ensures ∙ c.in-At.is) in omega arith

pub loop-i-preserved : goal.loop-i-preserved
loop-i-preserved c =
    rw (ne_eqb _ _ c.if-i-id.false) at (c.loop-i.invariant ∙ first_step _ _ _ (At _ _ _ _) (sym c.header_at.ensures ∙ c.in-At.is))

pub returns-in-Unreadable : goal.returns-in-Unreadable
returns-in-Unreadable c = sym (c.loop-i.invariant ∙ first_step _ _ _ Unreadable (sym c.header_at.ensures ∙ c.in-Unreadable.is))

pub returns-in-End : goal.returns-in-End
returns-in-End c = sym (c.loop-i.invariant ∙ first_step _ _ _ End (sym c.header_at.ensures ∙ c.in-End.is))
