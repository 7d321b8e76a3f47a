-- `packet::tlv::last_under` meets its contract: what the cursor finds says what the list from there on is. Assumes nothing.
use native.Mathlib.Omega.{arith}
use mathlib.Core.Path.{refl, sym, ap, ◌∙◌}
use Rattle.packet.specs.declared.tlv.TagAt.TheVariants.{Bad, End}
use Rattle.packet.specs.Tags.{last_from, last_in, last_under}
use Rattle.packet.proofs.TagLaws.{by_cursor_lem, last-here}
use Rattle.packet.proofs.tlv.last_under.Goals as goal

pub loop-t-init : goal.loop-t-init
unfolding last_under
loop-t-init c = refl

pub overflow_sub-next : goal.overflow_sub-next
overflow_sub-next c = let h = by_cursor_lem _ _ _ (sym c.tag_at.ensures ∙ c.in-At.is) in h.past

pub loop-t-smaller-then-is_wanted : goal.loop-t-smaller-then-is_wanted
loop-t-smaller-then-is_wanted c = let h = by_cursor_lem _ _ _ (sym c.tag_at.ensures ∙ c.in-At.is) in omega arith

pub loop-t-preserved-then-is_wanted : goal.loop-t-preserved-then-is_wanted
loop-t-preserved-then-is_wanted c =
    let h = by_cursor_lem _ _ _ (sym c.tag_at.ensures ∙ c.in-At.is) in
    rw (sym c.is_wanted.ensures ∙ c.if-is_wanted.true) at (c.loop-t.invariant ∙ last-here _ _ _ _ _ _ _ _ h)

pub loop-t-smaller : goal.loop-t-smaller
loop-t-smaller c = let h = by_cursor_lem _ _ _ (sym c.tag_at.ensures ∙ c.in-At.is) in omega arith

pub loop-t-preserved : goal.loop-t-preserved
loop-t-preserved c =
    let h = by_cursor_lem _ _ _ (sym c.tag_at.ensures ∙ c.in-At.is) in
    rw (sym c.is_wanted.ensures ∙ c.if-is_wanted.false) at (c.loop-t.invariant ∙ last-here _ _ _ _ _ _ _ _ h)

pub returns-in-Bad : goal.returns-in-Bad
returns-in-Bad c = sym (c.loop-t.invariant ∙ ap (last_in _ _ _ c.loop-t.found) (by_cursor_lem _ _ Bad (sym c.tag_at.ensures ∙ c.in-Bad.is)))

pub returns-in-End : goal.returns-in-End
unfolding last_from
returns-in-End c = sym (c.loop-t.invariant ∙ ap (last_in _ _ _ c.loop-t.found) (by_cursor_lem _ _ End (sym c.tag_at.ensures ∙ c.in-End.is)))
