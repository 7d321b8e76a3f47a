-- `packet::auth::write_challenge` meets its contract: `room` decides by the length of what is written, and what is granted is laid.
-- Assumes nothing.
use native.Mathlib.Omega.{arith}
use Prim.Native.Nat.{ℕ, ◌+◌}
use mathlib.Core.Path.{◌≡◌, ◌∙◌, sym, ap}
use mathlib.Core.Bool.{Bool}
use mathlib.Core.List.{List, ◌∷◌}
use lib.ListN.{length}
use Rattle.base.specs.Pick.{pick}
use Rattle.digest.specs.declared.md5.Octets16.{Octets16}
use Rattle.digest.specs.Md5.{octets16}
use Rattle.digest.proofs.Octets.{length-octets16}
use Rattle.packet.specs.declared.store.LengthField.TheVariants.{OneByte}
use Rattle.packet.specs.Tags.{write_tags}
use Rattle.packet.specs.Auth.{challenge_tags}
use Rattle.packet.specs.Placed.{laid}
use Rattle.packet.specs.AuthWrite.{given, overlong, write_challenge}
use Rattle.packet.specs.Flags.{flag_bits}
use borrow.Enum.Refused.{opened}
use Rattle.packet.proofs.Laid.{granted, placed-written, placed-refused}
use Rattle.packet.proofs.AuthWrites.{at_most, realm-length, realm-long, challenge-length}
use Rattle.packet.proofs.auth.write_challenge.Goals as goal

-- what is written is as long as the code says
size : (there : Bool) (charset : ℕ) (value : List ℕ) (nonce : Octets16) (m : ℕ) → m ≡ pick there (2 + (length value + 1)) 0 → (bits : ℕ)
    → length (write_tags (challenge_tags (octets16 nonce) bits (given there (charset ∷ value)))) ≡ 21 + m
size there charset value nonce m q bits =
    challenge-length (octets16 nonce) bits (given there (charset ∷ value)) (length-octets16 nonce)
    ∙ ap (λ (n : ℕ). 21 + n) (realm-length there value charset ∙ sym q)

pub overflow_add-need : goal.overflow_add-need
overflow_add-need c =
    let x = c.args in omega (arith, c.tag_len-need.ensures, at_most x.has_realm (2 + (length x.value.now + 1)))

pub returns-in_default : goal.returns-in_default
unfolding write_challenge
returns-in_default c =
    let x = c.args in
    let bits = flag_bits x.user_id_required x.read_only in
    let realm = given x.has_realm (x.charset ∷ x.value.now) in
    placed-refused x.store.now (write_tags (challenge_tags (octets16 x.nonce) bits realm)) x.at _ OneByte (overlong realm) _ _
    (opened c.in_default.in_default-own.keys2)
    (size x.has_realm x.charset x.value.now x.nonce c.tag_len-need.result c.tag_len-need.ensures bits)
    (c.is_long.ensures ∙ realm-long x.has_realm x.value.now x.charset) c.room-answer.ensures

pub put_challenge-requires : goal.put_challenge-requires
put_challenge-requires c =
    let x = c.args in
    let g = granted _ _ _ _ _ _ (sym c.in-Written.is ∙ c.room-answer.ensures) in (
      sym (c.is_long.ensures ∙ realm-long x.has_realm x.value.now x.charset) ∙ g.allowed,
      omega (
        arith,
        size x.has_realm x.charset x.value.now x.nonce c.tag_len-need.result c.tag_len-need.ensures c.flag_bits-bits.result,
        g.fits,
      ),
    )

pub returns : goal.returns
unfolding write_challenge
returns c =
    let x = c.args in
    let bits = flag_bits x.user_id_required x.read_only in
    let realm = given x.has_realm (x.charset ∷ x.value.now) in
    placed-written x.store.now (write_tags (challenge_tags (octets16 x.nonce) bits realm)) _ x.at _ _ OneByte (overlong realm) _
    (size x.has_realm x.charset x.value.now x.nonce c.tag_len-need.result c.tag_len-need.ensures bits)
    (c.is_long.ensures ∙ realm-long x.has_realm x.value.now x.charset)
    (sym c.in-Written.is ∙ c.room-answer.ensures)
    (c.put_challenge.ensures
    ∙ ap (λ (n : ℕ). laid x.store.now x.at (write_tags (challenge_tags (octets16 x.nonce) n realm))) c.flag_bits-bits.ensures)
