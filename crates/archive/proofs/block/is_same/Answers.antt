-- `archive::block::is_same` meets its contract: `==` of two slices compares them byte by byte. Assumes nothing.
use mathlib.Core.Path.{◌∙◌}
use Rattle.archive.proofs.Compare.{same_pointwise}
use Rattle.archive.proofs.block.is_same.Goals as goal

pub returns : goal.returns
returns c = c.eq.ensures ∙ same_pointwise c.args.a.now c.args.b.now
