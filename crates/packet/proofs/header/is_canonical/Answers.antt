-- `packet::header::is_canonical` meets its contract: what the reader finds says what is left. Assumes nothing.
use native.Mathlib.Omega.{arith}
use mathlib.Core.Path.{sym, ap, ◌∙◌}
use Rattle.packet.specs.declared.header.HeaderAt.TheVariants.{Unreadable, End}
use Rattle.packet.specs.Header.{read_headers}
use Rattle.packet.proofs.HeaderLaws.{by_cursor_lem}
use Rattle.packet.proofs.CanonicalLaws.{as_written, all_written, canonical_list, push-written}
use Rattle.packet.proofs.header.is_canonical.Goals as goal

pub loop-id-init : goal.loop-id-init
loop-id-init c = canonical_list c.args.s.now (λ k. omega (arith, c.type_inv.s k))

pub slice_bounds-is_rewritten-count : goal.slice_bounds-is_rewritten-count
slice_bounds-is_rewritten-count c =
    let h = by_cursor_lem _ _ _ (sym c.header_at.ensures ∙ c.in-At.is) in omega (arith, h.stands.past)

pub slice_bounds-is_rewritten-start : goal.slice_bounds-is_rewritten-start
slice_bounds-is_rewritten-start c =
    let h = by_cursor_lem _ _ _ (sym c.header_at.ensures ∙ c.in-At.is) in omega (arith, h.stands.past, h.stands.fits)

pub slice_bounds-is_rewritten-end : goal.slice_bounds-is_rewritten-end
slice_bounds-is_rewritten-end c =
    let h = by_cursor_lem _ _ _ (sym c.header_at.ensures ∙ c.in-At.is) in omega (arith, h.stands.past, h.stands.fits)

pub loop-id-smaller : goal.loop-id-smaller
loop-id-smaller c =
    let h = by_cursor_lem _ _ _ (sym c.header_at.ensures ∙ c.in-At.is) in omega (arith, h.next, h.stands.fits)

pub loop-id-preserved : goal.loop-id-preserved
loop-id-preserved c =
    let h = by_cursor_lem _ _ _ (sym c.header_at.ensures ∙ c.in-At.is) in
    rw (sym c.is_rewritten.ensures ∙ c.if-is_rewritten.true)
    at (c.loop-id.invariant ∙ ap all_written h.list ∙ push-written _ (read_headers c.args.s.now c.in-At.end))

pub returns-else-is_rewritten : goal.returns-else-is_rewritten
returns-else-is_rewritten c =
    let h = by_cursor_lem _ _ _ (sym c.header_at.ensures ∙ c.in-At.is) in
    sym
    (rw (sym c.is_rewritten.ensures ∙ c.if-is_rewritten.false)
    at (c.loop-id.invariant ∙ ap all_written h.list ∙ push-written _ (read_headers c.args.s.now c.in-At.end)))

pub returns-in-Unreadable : goal.returns-in-Unreadable
returns-in-Unreadable c =
    sym (c.loop-id.invariant ∙ ap all_written (by_cursor_lem _ _ Unreadable (sym c.header_at.ensures ∙ c.in-Unreadable.is)))

pub returns-in-End : goal.returns-in-End
unfolding as_written
returns-in-End c = sym (c.loop-id.invariant ∙ ap all_written (by_cursor_lem _ _ End (sym c.header_at.ensures ∙ c.in-End.is)).1)
