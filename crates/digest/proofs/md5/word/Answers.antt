-- `digest::md5::word` meets its contract. Four bytes, each weighed by its place. Assumes nothing.
use Rattle.std.proofs.Common.{arith}
use Rattle.digest.specs.Md5.{word}
use Rattle.digest.proofs.md5.word.Goals as goal

pub returns : goal.returns
unfolding word
returns c = omega (arith, c.from_le_bytes.ensures)
