-- `packet::auth::read_challenge` meets its contract: the parts that it reads are those that make the challenge. Assumes nothing.
use borrow.Author.Rules.{rules}
use mathlib.Core.Path.{sym, ◌∙◌}
use Rattle.packet.specs.Auth.{user_id_required_of, read_only_of}
use Rattle.packet.proofs.LowBits.{bit_0, bit_1}
use Rattle.packet.proofs.AuthLaws.{challenge-parts}
use Rattle.packet.proofs.auth.read_challenge.Goals as goal

pub returns-in_err-nonce : goal.returns-in_err-nonce
returns-in_err-nonce c =
    sym (challenge-parts c.args.v.now ∙ rw (sym c.tag_zero.ensures ∙ c.in_err-nonce.was, c.from_residual.ensures))

pub returns : goal.returns
unfolding user_id_required_of read_only_of
returns c =
    let bits = c.options-bits.result in
    sym
    (challenge-parts c.args.v.now
    ∙ rw (
      sym c.tag_zero.ensures ∙ c.in_ok-nonce.was,
      ← c.options-bits.ensures,
      ← c.realm.ensures,
      bit_0 bits (search rules),
      bit_1 bits (search rules),
    ))
