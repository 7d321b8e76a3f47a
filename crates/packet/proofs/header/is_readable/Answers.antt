-- `packet::header::is_readable` meets its contract: what the reader finds says what is left. Assumes nothing.
use native.Mathlib.Omega.{arith}
use mathlib.Core.Path.{sym, ap, ◌∙◌}
use Rattle.packet.specs.declared.header.HeaderAt.TheVariants.{Unreadable, End}
use Rattle.packet.specs.Header.{read_headers}
use Rattle.packet.specs.HeaderList.{is_read}
use Rattle.packet.proofs.HeaderLaws.{by_cursor_lem, push-read}
use Rattle.packet.proofs.header.is_readable.Goals as goal

pub loop-end-smaller : goal.loop-end-smaller
loop-end-smaller c = let h = by_cursor_lem _ _ _ (sym c.header_at.ensures ∙ c.in-At.is) in omega arith

pub loop-end-preserved : goal.loop-end-preserved
loop-end-preserved c =
    let h = by_cursor_lem _ _ _ (sym c.header_at.ensures ∙ c.in-At.is) in
    c.loop-end.invariant ∙ ap is_read h.list ∙ push-read _ (read_headers c.args.s.now c.in-At.end)

pub returns-in-Unreadable : goal.returns-in-Unreadable
returns-in-Unreadable c = sym (c.loop-end.invariant ∙ ap is_read (by_cursor_lem _ _ Unreadable (sym c.header_at.ensures ∙ c.in-Unreadable.is)))

pub returns-in-End : goal.returns-in-End
returns-in-End c = sym (c.loop-end.invariant ∙ ap is_read (by_cursor_lem _ _ End (sym c.header_at.ensures ∙ c.in-End.is)).1)
