-- `client::answer::last_way` meets its contract. Each `return` rewrites with the tests that led there. Assumes nothing.
use mathlib.Core.Path.{sym, ◌∙◌}
use Rattle.client.specs.Answer.{last_way}
use Rattle.client.proofs.answer.last_way.Goals as goal

pub returns-then-not-is_success : goal.returns-then-not-is_success
unfolding last_way
returns-then-not-is_success c =
    simp (
      sym c.is_success.ensures ∙ c.if-not-is_success.true,
      c.over.ensures,
      c.ended.ensures,
    )

pub returns-then-c : goal.returns-then-c
unfolding last_way
returns-then-c c =
    simp (
      sym c.is_success.ensures ∙ c.if-not-is_success.false,
      c.if-c.true,
      c.over-then-c.ensures,
      c.ended-then-c.ensures,
    )

pub returns : goal.returns
unfolding last_way
returns c =
    simp (sym c.is_success.ensures ∙ c.if-not-is_success.false, c.if-c.false)
