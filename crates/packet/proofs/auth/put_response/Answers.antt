-- `packet::auth::put_response` meets its contract: the tags, laid one behind the other, are the list. Assumes nothing.
use native.Mathlib.Omega.{arith}
use mathlib.Core.Path.{◌∙◌, sym}
use Rattle.digest.specs.Md5.{octets16}
use Rattle.digest.proofs.Octets.{length-octets16}
use Rattle.packet.specs.AuthWrite.{given}
use Rattle.packet.proofs.AuthWrites.{user-length, answer-length, answer-steps}
use Rattle.packet.proofs.auth.put_response.Goals as goal

pub put_user-requires : goal.put_user-requires
put_user-requires c =
    let x = c.args in
    let n = answer-length (octets16 x.digest) (octets16 x.nonce) (given x.has_user x.user.now) (length-octets16 x.digest) (length-octets16 x.nonce) in
    (c.requires.0, omega (arith, c.requires.1, n))

pub overflow_add-at-3 : goal.overflow_add-at-3
overflow_add-at-3 c =
    let x = c.args in
    let n = answer-length (octets16 x.digest) (octets16 x.nonce) (given x.has_user x.user.now) (length-octets16 x.digest) (length-octets16 x.nonce) in
    omega (arith, c.requires.1, n, c.tag_len.ensures, user-length x.has_user x.user.now)

pub returns : goal.returns
returns c =
    let x = c.args in
    answer-steps x.store.now _ _ _ (octets16 x.digest) _ (octets16 x.nonce) _ x.at _ (given x.has_user x.user.now) _ _
    c.octets-first.ensures
    c.octets-last.ensures
    (length-octets16 x.digest)
    (length-octets16 x.nonce)
    (c.tag_len.ensures ∙ sym (user-length x.has_user x.user.now))
    c.requires.1
    c.put_tag.ensures
    c.put_user.ensures
    c.put_tag-2.ensures
