-- `digest::md5::fill` meets its contract. The four parts of the padded message that are not zeros are laid one after the other.
-- Assumes nothing.
use Rattle.std.proofs.Common.{◌≡◌, ◌+◌, ◌*◌, ◌%◌, ◌^◌, ◌++◌, length, sym, arith, length-append}
use Rattle.digest.specs.Md5.{padded}
use Rattle.digest.proofs.Octets.{le-bytes}
use Rattle.digest.proofs.Blocks.{shows-padded, shows-all}
use Rattle.digest.proofs.md5.fill.Goals as goal

pub returns : goal.returns
returns c =
    let third = c in
    let second = c in
    let first = c in
    let start = c in
    let p = c.args.prefix.now in
    let r = c.args.rest.now in
    let bits : (length p + length r) * 8 % 2 ^ 64 ≡ 8 * length (p ++ r) % 2 ^ 64 = omega (arith, length-append p r) in
    let shown = shows-padded p r c.args.at in
    rw (
      c.put_part-4.ensures,
      c.put_part-3.ensures,
      c.put_part-2.ensures,
      c.put_part.ensures,
      c.field_at.ensures,
      c.to_le_bytes-bits.ensures,
      le-bytes,
      bits,
    )
    (sym shown.size, shows-all _ (padded (p ++ r)) c.args.at shown c.requires.1)
