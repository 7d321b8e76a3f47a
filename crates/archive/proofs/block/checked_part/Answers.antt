-- `archive::block::checked_part` meets its contract: head and payload are laid on zeros. Assumes nothing.
use mathlib.Core.Path.{refl}
use Rattle.archive.proofs.Laid.{checked-laid}
use Rattle.archive.proofs.block.checked_part.Goals as goal

pub returns : goal.returns
returns c =
    let a = c in
    let h = c.head-head.ensures in
    rw (c.copy_into-2.ensures, c.copy_into.ensures, h)
    (checked-laid c.args.is_last c.args.k c.args.payload.now 496 c.requires refl)
