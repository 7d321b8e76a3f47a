-- `engine::connect::challenge_realm` meets its contract: the first challenge's place holds the list that the realm is read from.
-- Assumes nothing.
use mathlib.Core.Path.{sym, ◌∙◌}
use native.Mathlib.Omega.{arith}
use Rattle.packet.specs.Header.{part}
use Rattle.packet.specs.Auth.{realm_place}
use Rattle.packet.proofs.HeaderBytes.{part_length}
use Rattle.packet.proofs.HeaderLaws.{first_found}
use Rattle.packet.proofs.AuthLaws.{realm-within}
use Rattle.engine.proofs.Connects.{below}
use Rattle.engine.proofs.connect.challenge_realm.Goals as goal

pub of-requires-clause-ordered : goal.of-requires-clause-ordered
of-requires-clause-ordered c = (first_found 0x4D _ 7 _ _ (sym c.first_header.ensures ∙ c.in_ok-value.was)).stands.past

pub of-requires-clause-within : goal.of-requires-clause-within
of-requires-clause-within c = (first_found 0x4D _ 7 _ _ (sym c.first_header.ensures ∙ c.in_ok-value.was)).stands.fits

pub placed-requires : goal.placed-requires
placed-requires c =
    let v = c.in_ok-value.value in
    let q = c.args.packet.now in
    let here = first_found 0x4D q 7 v.start v.end (sym c.first_header.ensures ∙ c.in_ok-value.was) in
    let n = part_length q v.start v.end here.stands.fits in
    rw (c.realm.ensures, c.of.ensures) (below (part q v.start v.end) v.start (realm_place (part q v.start v.end)) (realm-within (part q v.start v.end))
    (omega (arith, n, here.stands.past, here.stands.fits)))
