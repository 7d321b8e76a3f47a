-- `digest::md5::block` meets its contract. The 64 steps, and four sums. Assumes nothing.
use Rattle.digest.specs.Md5.{block_of}
use Rattle.digest.proofs.md5.block.Goals as goal

pub returns : goal.returns
unfolding block_of
returns c = rw c.all_steps-t.ensures
