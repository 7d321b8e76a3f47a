-- `packet::auth::put_challenge` meets its contract: the three tags, laid one behind the other, are the list. Assumes nothing.
use native.Mathlib.Omega.{arith}
use mathlib.Core.List.{◌∷◌}
use Rattle.digest.specs.Md5.{octets16}
use Rattle.digest.proofs.Octets.{length-octets16}
use Rattle.packet.specs.AuthWrite.{given}
use Rattle.packet.proofs.AuthWrites.{challenge-length, challenge-steps}
use Rattle.packet.proofs.auth.put_challenge.Goals as goal

pub put_realm-requires : goal.put_realm-requires
put_realm-requires c =
    let x = c.args in
    (c.requires.0, omega (arith, c.requires.1, challenge-length (octets16 x.nonce) x.bits (given x.has_realm (x.charset ∷ x.value.now)) (length-octets16 x.nonce)))

pub returns : goal.returns
returns c =
    let x = c.args in
    challenge-steps x.store.now _ _ _ (octets16 x.nonce) _ x.at x.bits (given x.has_realm (x.charset ∷ x.value.now)) _ _
    c.octets-bytes.ensures
    (length-octets16 x.nonce)
    c.requires.1
    c.put_tag.ensures
    c.put_tag-2.ensures
    c.put_realm.ensures
