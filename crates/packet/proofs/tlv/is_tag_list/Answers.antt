-- `packet::tlv::is_tag_list` meets its contract: what the cursor finds says what the list from there on is. Assumes nothing.
use native.Mathlib.Omega.{arith}
use mathlib.Core.Path.{sym, ap, ◌∙◌}
use lib.ListN.{drop}
use Rattle.packet.specs.declared.tlv.TagAt.TheVariants.{Bad, End}
use Rattle.packet.specs.Tags.{tags, is_readable}
use Rattle.packet.proofs.TagLaws.{by_cursor_lem, push-readable}
use Rattle.packet.proofs.tlv.is_tag_list.Goals as goal

pub loop-next-smaller : goal.loop-next-smaller
loop-next-smaller c = let h = by_cursor_lem _ _ _ (sym c.tag_at.ensures ∙ c.in-At.is) in omega arith

pub loop-next-preserved : goal.loop-next-preserved
loop-next-preserved c =
    let h = by_cursor_lem _ _ _ (sym c.tag_at.ensures ∙ c.in-At.is) in
    c.loop-next.invariant ∙ ap is_readable h.list ∙ push-readable _ (tags (drop c.in-At.next c.args.s.now))

pub returns-in-Bad : goal.returns-in-Bad
returns-in-Bad c = sym (c.loop-next.invariant ∙ ap is_readable (by_cursor_lem _ _ Bad (sym c.tag_at.ensures ∙ c.in-Bad.is)))

pub returns-in-End : goal.returns-in-End
returns-in-End c = sym (c.loop-next.invariant ∙ ap is_readable (by_cursor_lem _ _ End (sym c.tag_at.ensures ∙ c.in-End.is)))
