-- `archive::block::is_last_block` meets its contract: its test is that of `is_last_block`. Assumes nothing.
use Rattle.archive.proofs.block.is_last_block.Goals as goal

pub returns : goal.returns
returns c = rw c.be16_at.ensures.value
