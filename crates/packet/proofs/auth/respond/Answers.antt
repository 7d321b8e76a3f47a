-- `packet::auth::respond` meets its contract: `room` decides by the length of what is written, and what is granted is laid.
-- Assumes nothing.
use native.Mathlib.Omega.{arith}
use Prim.Native.Nat.{ℕ, ◌+◌}
use mathlib.Core.Path.{◌≡◌, ◌∙◌, sym, ap}
use mathlib.Core.Bool.{Bool}
use mathlib.Core.List.{List}
use lib.ListN.{length}
use Rattle.base.specs.Pick.{pick}
use Rattle.digest.specs.declared.md5.Octets16.{Octets16}
use Rattle.digest.specs.Md5.{octets16, request_digest}
use Rattle.digest.proofs.Octets.{length-octets16}
use Rattle.packet.specs.declared.store.LengthField.TheVariants.{OneByte}
use Rattle.packet.specs.Tags.{write_tags}
use Rattle.packet.specs.Auth.{answer_tags, response_tags}
use Rattle.packet.specs.Placed.{laid}
use Rattle.packet.specs.AuthWrite.{given, overlong, write_digest_response}
use borrow.Enum.Refused.{opened}
use Rattle.packet.proofs.Laid.{granted, placed-written, placed-refused}
use Rattle.packet.proofs.AuthLaws.{octets-request, length-request}
use Rattle.packet.proofs.AuthWrites.{at_most, user-length, tag-long, answer-length}
use Rattle.packet.proofs.auth.respond.Goals as goal

-- what is written is as long as the code says
size : (there : Bool) (user : List ℕ) (nonce : Octets16) (m : ℕ) → m ≡ pick there (2 + length user) 0 → (d : List ℕ) → length d ≡ 16
    → length (write_tags (answer_tags d (given there user) (octets16 nonce))) ≡ 36 + m
size there user nonce m q d e =
    answer-length d (octets16 nonce) (given there user) e (length-octets16 nonce)
    ∙ ap (λ (n : ℕ). 36 + n) (user-length there user ∙ sym q)

pub overflow_add-need : goal.overflow_add-need
overflow_add-need c = let x = c.args in omega (arith, c.tag_len-need.ensures, at_most x.has_user (2 + length x.user.now))

pub returns-in_default : goal.returns-in_default
unfolding write_digest_response response_tags
returns-in_default c =
    let x = c.args in
    let user = given x.has_user x.user.now in
    placed-refused x.store.now (write_tags (response_tags (octets16 x.nonce) user x.password.now)) x.at _ OneByte (overlong user) _ _
    (opened c.in_default.in_default-own.keys2)
    (size x.has_user x.user.now x.nonce c.tag_len-need.result c.tag_len-need.ensures _ (length-request (octets16 x.nonce) x.password.now))
    (c.is_long.ensures ∙ tag-long x.has_user x.user.now) c.room-answer.ensures

pub put_response-requires : goal.put_response-requires
put_response-requires c =
    let x = c.args in
    let d = c.request_digest-digest.result in
    let g = granted _ _ _ _ _ _ (sym c.in-Written.is ∙ c.room-answer.ensures) in (
      sym (c.is_long.ensures ∙ tag-long x.has_user x.user.now) ∙ g.allowed,
      omega (arith, size x.has_user x.user.now x.nonce c.tag_len-need.result c.tag_len-need.ensures (octets16 d) (length-octets16 d), g.fits),
    )

pub returns : goal.returns
unfolding write_digest_response response_tags
returns c =
    let x = c.args in
    let user = given x.has_user x.user.now in
    let digest = request_digest (octets16 x.nonce) x.password.now in
    placed-written x.store.now (write_tags (response_tags (octets16 x.nonce) user x.password.now)) _ x.at _ _ OneByte (overlong user) _
    (size x.has_user x.user.now x.nonce c.tag_len-need.result c.tag_len-need.ensures digest (length-request (octets16 x.nonce) x.password.now))
    (c.is_long.ensures ∙ tag-long x.has_user x.user.now)
    (sym c.in-Written.is ∙ c.room-answer.ensures)
    (c.put_response.ensures
    ∙ ap (λ (v : List ℕ). laid x.store.now x.at (write_tags (answer_tags v user (octets16 x.nonce))))
    (ap octets16 c.request_digest-digest.ensures ∙ octets-request (octets16 x.nonce) x.password.now))
