-- `client::guard::is_bad_headers` meets its contract. The tests of the code are those of the definition. Assumes nothing.
use borrow.Author.Tests.{lt-ltb, le-ltb}
use mathlib.Core.Path.{sym, ◌∙◌}
use Rattle.client_model.specs.Guard.{bad_headers}
use Rattle.client.proofs.Walks.{canonical-readable}
use Rattle.client.proofs.guard.is_bad_headers.Goals as goal

pub returns-then-s-gt-MAX_PACKET : goal.returns-then-s-gt-MAX_PACKET
unfolding bad_headers
returns-then-s-gt-MAX_PACKET c = simp (lt-ltb _ _ c.if-s-gt-MAX_PACKET.true)

pub returns-then-not-is_canonical : goal.returns-then-not-is_canonical
unfolding bad_headers
returns-then-not-is_canonical c =
    simp (le-ltb _ _ c.if-s-gt-MAX_PACKET.false, sym c.is_canonical.ensures ∙ c.if-not-is_canonical.true)

pub has_reserved-requires : goal.has_reserved-requires
has_reserved-requires c = canonical-readable _ (sym c.is_canonical.ensures ∙ c.if-not-is_canonical.false)

pub returns : goal.returns
unfolding bad_headers
returns c =
    simp (
      le-ltb _ _ c.if-s-gt-MAX_PACKET.false,
      sym c.is_canonical.ensures ∙ c.if-not-is_canonical.false,
      c.has_reserved.ensures,
    )
