-- `packet::auth::all_sixteen` meets its contract: what the cursor finds says what the list from there on is. Assumes nothing.
use native.Mathlib.Omega.{arith}
use mathlib.Core.Path.{sym, ap, ◌∙◌}
use Rattle.packet.specs.declared.tlv.TagAt.TheVariants.{Bad, End}
use Rattle.packet.specs.AuthRead.{all_sixteen, sixteen_in}
use Rattle.packet.proofs.TagLaws.{by_cursor_lem}
use Rattle.packet.proofs.AuthLaws.{sixteen-here}
use Rattle.packet.proofs.auth.all_sixteen.Goals as goal

pub overflow_sub-next : goal.overflow_sub-next
overflow_sub-next c = let h = by_cursor_lem _ _ _ (sym c.tag_at.ensures ∙ c.in-At.is) in h.past

pub returns-then-not-is_sixteen : goal.returns-then-not-is_sixteen
returns-then-not-is_sixteen c =
    let h = by_cursor_lem _ _ _ (sym c.tag_at.ensures ∙ c.in-At.is) in
    sym (rw (sym c.is_sixteen.ensures ∙ c.if-not-is_sixteen.true) at (c.loop-tag.invariant ∙ sixteen-here _ _ _ _ _ h))

pub loop-tag-smaller : goal.loop-tag-smaller
loop-tag-smaller c = let h = by_cursor_lem _ _ _ (sym c.tag_at.ensures ∙ c.in-At.is) in omega arith

pub loop-tag-preserved : goal.loop-tag-preserved
loop-tag-preserved c =
    let h = by_cursor_lem _ _ _ (sym c.tag_at.ensures ∙ c.in-At.is) in
    rw (sym c.is_sixteen.ensures ∙ c.if-not-is_sixteen.false) at (c.loop-tag.invariant ∙ sixteen-here _ _ _ _ _ h)

pub returns-in-Bad : goal.returns-in-Bad
returns-in-Bad c = sym (c.loop-tag.invariant ∙ ap sixteen_in (by_cursor_lem _ _ Bad (sym c.tag_at.ensures ∙ c.in-Bad.is)))

pub returns-in-End : goal.returns-in-End
unfolding all_sixteen
returns-in-End c = sym (c.loop-tag.invariant ∙ ap sixteen_in (by_cursor_lem _ _ End (sym c.tag_at.ensures ∙ c.in-End.is)))
