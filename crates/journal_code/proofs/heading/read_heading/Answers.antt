-- `journal_code::heading::read_heading` meets its contract: what stands before the headers decides, then the survey, and then the
-- first of some headers.
use mathlib.Core.Path.{sym, ◌∙◌}
use borrow.Author.Tests.{not-true, not-false}
use Rattle.journal_code.proofs.Packets.{headless, unreadable, heading_is}
use Rattle.journal_code.proofs.heading.read_heading.Goals as goal

pub returns-in_default : goal.returns-in_default
returns-in_default c =
    headless c.args.p.now _ _
    (sym c.packet_head.ensures ∙ c.in_default.is)

pub returns-then-not-v : goal.returns-then-not-v
returns-then-not-v c =
    let k = c in
    unreadable c.args.p.now c.in-Some.head _ _
    (sym c.packet_head.ensures ∙ c.in-Some.is) _ c.survey_headers-v.ensures
    (not-true c.survey_headers-v.result.readable c.if-not-v.true)

pub returns : goal.returns
returns c =
    let k = c in
    let l = c in
    let j = c in
    heading_is c.args.p.now c.in-Some.head _ _ (sym c.packet_head.ensures ∙ c.in-Some.is) _
    c.survey_headers-v.ensures
    (not-false c.survey_headers-v.result.readable c.if-not-v.false) _
    c.link_of-link.ensures _ _ _ c.has_header.ensures
    c.has_header-2.ensures c.target_in.ensures
