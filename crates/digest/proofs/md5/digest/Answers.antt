-- `digest::md5::digest` meets its contract. The message has no prefix, and the bytes of the digest's value are the digest. Assumes nothing.
use Rattle.std.proofs.Common.{ap, ◌∙◌}
use Rattle.digest.specs.Md5.{digest_of, octets16, numbers16, output_of}
use Rattle.digest.specs.declared.md5.Regs.{Regs}
use Rattle.digest.proofs.Octets.{octets-digest}
use Rattle.digest.proofs.md5.digest.Goals as goal

pub returns : goal.returns
unfolding digest_of
returns c =
    c.octets.ensures
    ∙ ap octets16 c.output.ensures
    ∙ ap (λ (s : Regs). octets16 (numbers16 (output_of s))) c.all_blocks.ensures
    ∙ octets-digest c.args.message.now
