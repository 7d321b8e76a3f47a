-- `digest::md5::request_digest` meets its contract. The prefix is the nonce and the colon. Assumes nothing.
use Rattle.std.proofs.Common.{ℕ, List, [], ◌∷◌, ◌++◌, ap, ◌∙◌, append_assoc}
use Rattle.digest.specs.Md5.{digest_of, output_of, request_digest, numbers16, octets16}
use Rattle.digest.specs.declared.md5.Regs.{Regs}
use Rattle.digest.proofs.Octets.{colon_prefix}
use Rattle.digest.proofs.md5.request_digest.Goals as goal

pub returns : goal.returns
unfolding digest_of request_digest
returns c =
    let x = c.args in
    let pass = x.password.now in
    let e = c.put_octets16.ensures ∙ colon_prefix x.nonce in
    c.output.ensures
    ∙ ap (λ (s : Regs). numbers16 (output_of s)) c.all_blocks.ensures
    ∙ ap (λ (l : List ℕ). numbers16 (digest_of (l ++ pass))) e
    ∙ ap (λ (m : List ℕ). numbers16 (digest_of m)) (append_assoc (octets16 x.nonce) (0x3A ∷ []) pass)
