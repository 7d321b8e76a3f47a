-- `audit::entry::take_frame` meets its contract: each act does what the definition says. Assumes nothing.
use Rattle.std.proofs.Common.{sym, refl, ◌∙◌}
use Rattle.audit.specs.Taken.{frame_taken}
use Rattle.audit.proofs.entry.take_frame.Goals as goal

pub returns-in-Pass : goal.returns-in-Pass
unfolding frame_taken
returns-in-Pass c = rw (sym c.act_for.ensures ∙ c.in-Pass.is) refl

pub returns-in-Start : goal.returns-in-Start
unfolding frame_taken
returns-in-Start c = rw (sym c.act_for.ensures ∙ c.in-Start.is, c.started.ensures) refl

pub returns-in-Wrong : goal.returns-in-Wrong
unfolding frame_taken
returns-in-Wrong c = rw (sym c.act_for.ensures ∙ c.in-Wrong.is, c.wrong.ensures) refl

pub returns-in-Feed : goal.returns-in-Feed
unfolding frame_taken
returns-in-Feed c =
    rw (
      sym c.act_for.ensures ∙ c.in-Feed.is,
      ← c.feed-state.ensures,
      c.fed.ensures,
    ) refl
