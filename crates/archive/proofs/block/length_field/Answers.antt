-- `archive::block::length_field` meets its contract, by the two cases of its mark. Assumes nothing.
use Rattle.archive.proofs.block.length_field.Goals as goal

pub returns-then-is_last : goal.returns-then-is_last
returns-then-is_last c = rw c.if-is_last.true
