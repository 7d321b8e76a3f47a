-- `files::path::put_hex` meets its contract. The invariant: the digits of the first `i` bytes are laid. Assumes nothing.
use mathlib.Core.Path.{◌≡◌}
use lib.ListN.{length, take}
use Rattle.packet.specs.Placed.{laid}
use Rattle.files.specs.Path.{hex_of}
use Rattle.files.proofs.path.put_hex.Given as goal

abbrev pub invariant-loop-i : goal.invariant-loop-i
invariant-loop-i l = (l.out ≡ laid l.initial.out l.at (hex_of (take l.i l.bytes))) × (length l.out ≡ length l.initial.out)
