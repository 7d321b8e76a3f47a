-- `client_c::admit` meets its contract: its two tests are those of `judged_start`. Assumes nothing.
use mathlib.Core.Path.{sym, ◌∙◌}
use Rattle.client_model.specs.Step.{client_with}
use Rattle.client_c.proofs.admit.Goals as goal

pub returns-then-not-is_ready : goal.returns-then-not-is_ready
returns-then-not-is_ready c = rw (c.if-fit.false, sym c.is_ready.ensures ∙ c.if-not-is_ready.true)

pub returns : goal.returns
unfolding client_with
returns c = rw (c.if-fit.false, sym c.is_ready.ensures ∙ c.if-not-is_ready.false)
