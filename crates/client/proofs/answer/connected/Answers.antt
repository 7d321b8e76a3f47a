-- `client::answer::connected` meets its contract. Each `return` rewrites with the tests that led there. Assumes nothing.
use mathlib.Core.Path.{sym, ◌∙◌}
use Rattle.client_model.specs.Step.{client_with}
use Rattle.client.specs.Answer.{connected_by}
use Rattle.client.proofs.answer.connected.Goals as goal

pub returns-then-not-is_success : goal.returns-then-not-is_success
unfolding connected_by
returns-then-not-is_success c =
    simp (sym c.is_success.ensures ∙ c.if-not-is_success.true, c.goes.ensures)

pub returns : goal.returns
unfolding connected_by client_with
returns c = simp (sym c.is_success.ensures ∙ c.if-not-is_success.false)
