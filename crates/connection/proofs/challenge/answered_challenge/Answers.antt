-- `connection::challenge::answered_challenge` meets its contract. Where all challenges can be read, the first one found is the one answered. Assumes nothing.
use Rattle.std.proofs.Common.{◌≡◌, ℕ, Bool, true, List, sym, ap, ◌∙◌}
use Rattle.base.specs.Place.{Place}
use Rattle.packet.specs.Header.{read_headers, first_place}
use Rattle.packet.specs.Tags.{bytes_at}
use Rattle.packet.proofs.HeaderLaws.{first_found}
use Rattle.connection.specs.Pieces.{headers_from, known_in, answered_in}
use Rattle.connection.proofs.Challenges.{read_first, not-answered, answered_at}
use Rattle.connection.proofs.challenge.answered_challenge.Goals as goal

-- the answer by the place found
answered : (s : List ℕ) (from : ℕ) (b : Bool) (f g : Place) → b ≡ known_in (read_headers s from) → b ≡ true → f ≡ first_place 0x4D s from → f ≡ g
    → read_first (bytes_at s g) ≡ answered_in (headers_from s from)
answered s from b f g k t p q = sym (answered_at s from (sym k ∙ t) ∙ ap (λ (f : Place). read_first (bytes_at s f)) (sym p ∙ q))

pub returns-then-not-are_known : goal.returns-then-not-are_known
returns-then-not-are_known c = sym (not-answered _ (sym c.are_known.ensures ∙ c.if-not-are_known.true))

pub returns-in_default : goal.returns-in_default
returns-in_default c = answered _ _ _ _ _ c.are_known.ensures c.if-not-are_known.false c.first_header.ensures c.in_default.is

pub of-requires-clause-ordered : goal.of-requires-clause-ordered
of-requires-clause-ordered c = (first_found 0x4D _ _ _ _ (sym c.first_header.ensures ∙ c.in-Some.is)).stands.past

pub of-requires-clause-within : goal.of-requires-clause-within
of-requires-clause-within c = (first_found 0x4D _ _ _ _ (sym c.first_header.ensures ∙ c.in-Some.is)).stands.fits

pub returns : goal.returns
returns c =
    rw c.of.ensures at c.read_challenge.ensures
    ∙ answered _ _ _ _ _ c.are_known.ensures c.if-not-are_known.false c.first_header.ensures c.in-Some.is
