-- `packet::auth::verify` meets its contract: the tests of `verified`, and a digest's value has the digest's bytes. Assumes nothing.
use mathlib.Core.Path.{sym, ap, ◌∙◌}
use Rattle.digest.specs.Md5.{octets16}
use Rattle.digest.specs.declared.md5.Octets16.{Octets16}
use Rattle.packet.specs.Auth.{matches, same}
use Rattle.packet.proofs.AuthLaws.{octets-request}
use Rattle.packet.proofs.auth.verify.Goals as goal

pub returns-then-not-brings_user : goal.returns-then-not-brings_user
returns-then-not-brings_user c = rw (sym c.brings_user.ensures ∙ c.if-not-brings_user.true)

pub returns-then-not-answers_nonce : goal.returns-then-not-answers_nonce
unfolding matches
returns-then-not-answers_nonce c = rw (sym c.brings_user.ensures ∙ c.if-not-brings_user.false, sym c.answers_nonce.ensures ∙ c.if-not-answers_nonce.true)

pub returns : goal.returns
unfolding matches
returns c =
    let x = c.args in
    rw (sym c.brings_user.ensures ∙ c.if-not-brings_user.false, sym c.answers_nonce.ensures ∙ c.if-not-answers_nonce.false)
    (c.same_octets.ensures
    ∙ ap (λ (n : Octets16). same (octets16 n) (octets16 x.digest)) c.request_digest.ensures
    ∙ rw (octets-request (octets16 x.nonce) x.password.now))
