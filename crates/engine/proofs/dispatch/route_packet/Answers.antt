-- `engine::dispatch::route_packet` meets its contract: what stands before the headers and whether they can be read decide as the definition
-- does (proofs/Arrivals.antt). Assumes nothing.
use mathlib.Core.Path.{◌∙◌, sym, ap}
use borrow.Author.Tests.{not-true, not-false}
use Rattle.incoming.specs.declared.survey.Survey.{Survey}
use Rattle.engine.proofs.Arrivals.{headless_way, unreadable_way, heading_way}
use Rattle.engine.proofs.dispatch.route_packet.Goals as goal

pub returns-in_default : goal.returns-in_default
returns-in_default c =
    c.unreadable_route.ensures ∙ sym (headless_way _ _ _ (sym c.packet_head.ensures ∙ c.in_default.is))

pub returns-then-not-survey : goal.returns-then-not-survey
returns-then-not-survey c =
    c.unreadable_route-then-not-survey.ensures
    ∙ sym (unreadable_way _ _ _ c.in-Some.head (sym c.packet_head.ensures ∙ c.in-Some.is)
    (ap (λ (s : Survey). s.readable) (sym c.survey_headers-survey.ensures) ∙ not-true _ c.if-not-survey.true))

pub returns : goal.returns
returns c =
    simp (
      c.packet_target-target.ensures,
      c.heading_route-route.ensures,
      c.is_trailed-trails.ensures,
      c.is_known-known.ensures,
      c.set_path_flags-flags.ensures,
      c.survey_headers-survey.ensures,
    )
    (sym (heading_way _ _ _ c.in-Some.head (sym c.packet_head.ensures ∙ c.in-Some.is)
    (ap (λ (s : Survey). s.readable) (sym c.survey_headers-survey.ensures) ∙ not-false _ c.if-not-survey.false)))
