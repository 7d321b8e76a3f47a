-- `engine_c::words::admit` meets its contract: its two tests are those of `judged_start`. Assumes nothing.
use mathlib.Core.Path.{sym, ◌∙◌}
use Rattle.model.specs.Step.{engine_with}
use Rattle.engine_c.proofs.words.admit.Goals as goal

pub returns-then-fit : goal.returns-then-fit
returns-then-fit c = simp c.if-fit.true

pub returns-then-not-is_waiting : goal.returns-then-not-is_waiting
returns-then-not-is_waiting c = rw (c.if-fit.false, sym c.is_waiting.ensures ∙ c.if-not-is_waiting.true)

pub returns : goal.returns
unfolding engine_with
returns c =
    let at-if-2 = c in
    rw (c.if-fit.false, sym c.is_waiting.ensures ∙ c.if-not-is_waiting.false)
