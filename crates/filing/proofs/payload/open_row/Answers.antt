-- `filing::payload::open_row` meets its contract: numbers and flags stand at their places. Assumes nothing.
use mathlib.Core.Path.{refl}
use Rattle.filing.specs.Kinds.{flags_in, open_row}
use Rattle.filing.proofs.payload.open_row.Goals as goal

pub returns : goal.returns
unfolding open_row flags_in
returns c = rw c.flag_byte.ensures refl
