-- `client::guard::check_request` meets its contract. Each `return` rewrites with the tests that led there. Assumes nothing.
use mathlib.Core.Path.{sym, ◌∙◌}
use Rattle.client.proofs.Walks.{good}
use Rattle.client.proofs.guard.check_request.Goals as goal

pub returns-then-is_bad_headers : goal.returns-then-is_bad_headers
returns-then-is_bad_headers c = simp (sym c.is_bad_headers.ensures ∙ c.if-is_bad_headers.true)

pub has_long-requires : goal.has_long-requires
has_long-requires c = (good _ (sym c.is_bad_headers.ensures ∙ c.if-is_bad_headers.false)).readable

pub returns-then-has_long : goal.returns-then-has_long
returns-then-has_long c =
    simp (sym c.is_bad_headers.ensures ∙ c.if-is_bad_headers.false, sym c.has_long.ensures ∙ c.if-has_long.true)

pub returns : goal.returns
returns c =
    simp (sym c.is_bad_headers.ensures ∙ c.if-is_bad_headers.false, sym c.has_long.ensures ∙ c.if-has_long.false)
