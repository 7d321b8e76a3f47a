-- `digest::md5::all_blocks` meets its contract. The blocks that touch the prefix, those in rest, and those that touch the padding follow one another.
-- Assumes nothing.
use Rattle.std.proofs.Common.{◌≡◌, ◌+◌, ◌/◌, ◌++◌, length, refl, arith, length-append}
use Rattle.digest.specs.Md5.{padded, blocks}
use Rattle.digest.proofs.Padded.{length-padded, field_end, before-end, whole_part}
use Rattle.digest.proofs.md5.all_blocks.Goals as goal

pub filled_blocks-s-requires : goal.filled_blocks-s-requires
unfolding blocks
filled_blocks-s-requires c =
    let p = c.args.prefix.now in
    let r = c.args.rest.now in
    let l = length-append p r in
    (omega arith, omega arith, omega (arith, length-padded (p ++ r)), refl)

pub filled_blocks-requires : goal.filled_blocks-requires
filled_blocks-requires c =
    let p = c.args.prefix.now in
    let r = c.args.rest.now in
    let z = c.field_at.ensures in
    let blocks_of_prefix : c.div_ceil-head.result ≡ (length p + 63) / 64 = omega (arith, c.div_ceil-head.ensures) in (
      c.requires,
      rw (c.max.ensures, z, blocks_of_prefix) (before-end (length p) (length r) c.requires),
      rw (z, field_end p r) (whole_part (length (padded (p ++ r)))),
      rw c.max.ensures c.whole_blocks-t.ensures,
    )

pub returns : goal.returns
returns c =
    let p = c.args.prefix.now in
    let r = c.args.rest.now in
    rw (c.field_at.ensures, field_end p r) at c.filled_blocks.ensures
