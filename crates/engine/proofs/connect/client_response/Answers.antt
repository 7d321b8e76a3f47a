-- `engine::connect::client_response` meets its contract: the first response's place holds the value that the definition reads.
-- Assumes nothing.
use mathlib.Core.Path.{◌∙◌, sym}
use native.Mathlib.Omega.{arith}
use Rattle.packet.proofs.HeaderBytes.{part_length}
use Rattle.packet.proofs.HeaderLaws.{first_found}
use Rattle.engine.proofs.Connects.{not-answered, answer-unread, answer-read, user-below}
use Rattle.engine.proofs.connect.client_response.Goals as goal

pub returns-in_default : goal.returns-in_default
returns-in_default c = not-answered _ c.requires (sym c.first_header.ensures ∙ c.in_default.is)

pub of-requires-clause-ordered : goal.of-requires-clause-ordered
of-requires-clause-ordered c = (first_found 0x4E _ 7 _ _ (sym c.first_header.ensures ∙ c.in-Some.is)).stands.past

pub of-requires-clause-within : goal.of-requires-clause-within
of-requires-clause-within c = (first_found 0x4E _ 7 _ _ (sym c.first_header.ensures ∙ c.in-Some.is)).stands.fits

pub returns-in_default-read_response : goal.returns-in_default-read_response
returns-in_default-read_response c =
    answer-unread _ c.requires _ _ (sym c.first_header.ensures ∙ c.in-Some.is)
    (sym (rw c.of.ensures at c.read_response.ensures) ∙ c.in_default-read_response.is)

pub placed-requires : goal.placed-requires
placed-requires c =
    let here = first_found 0x4E c.args.p.now 7 c.in-Some.value.start c.in-Some.value.end (sym c.first_header.ensures ∙ c.in-Some.is) in
    user-below _ _ _ (sym (rw c.of.ensures at c.read_response.ensures) ∙ c.in-Some-read_response.is) (omega (arith, here.stands.past, here.stands.fits, part_length c.args.p.now c.in-Some.value.start c.in-Some.value.end here.stands.fits))

pub returns : goal.returns
returns c =
    rw c.placed.ensures
    (answer-read _ c.requires _ _ _ (sym c.first_header.ensures ∙ c.in-Some.is) (sym (rw c.of.ensures at c.read_response.ensures) ∙ c.in-Some-read_response.is))
