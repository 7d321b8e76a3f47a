-- `filing::note::put_hex` meets its contract. The invariant: the digits of the bytes that were passed stand in the store. Assumes nothing.
use mathlib.Core.Path.{◌≡◌}
use Prim.Native.Nat.{◌+◌, ◌-◌, ◌*◌, ◌≤◌}
use lib.ListN.{length, take}
use Rattle.files.specs.Path.{hex_of}
use Rattle.filing.specs.Note.{Laid}
use Rattle.filing.proofs.note.put_hex.Given as goal

abbrev pub invariant-loop-i : goal.invariant-loop-i
invariant-loop-i l = (l.i ≤ length l.bytes) × (length l.store ≡ length l.initial.store) × (l.to ≡ l.at + 2 * l.i) × Laid l.initial.store l.at (hex_of (take l.i l.bytes)) l.to l.store

abbrev pub decreases-loop-i : goal.decreases-loop-i
decreases-loop-i l = length l.bytes - l.i
