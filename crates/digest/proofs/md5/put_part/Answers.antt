-- `digest::md5::put_part` meets its contract. One copy of the part's bytes that fall into the block. Assumes nothing.
use Rattle.std.proofs.Common.{◌∙◌}
use Rattle.digest.proofs.Blocks.{laid_copy}
use Rattle.digest.proofs.md5.put_part.Goals as goal

pub returns : goal.returns
returns c =
    let e = c.span_in-s in
    let x = c.args in
    c.copy_into.ensures
    ∙ laid_copy x.b.now x.part.now x.at x.from e.result e.ensures.0 e.ensures.2
