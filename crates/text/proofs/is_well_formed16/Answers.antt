-- `text::is_well_formed16` meets its contract, as `is_whole` of UTF-16. Assumes nothing.
use Rattle.text.specs.Unicode.{well_formed16}
use Rattle.text.proofs.is_well_formed16.Goals as goal

pub returns : goal.returns
unfolding well_formed16
returns c = c.is_whole.ensures
