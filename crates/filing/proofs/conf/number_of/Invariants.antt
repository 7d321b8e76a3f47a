-- `filing::conf::number_of` meets its contract. The invariant: the digits that are left go behind the number so far. Assumes nothing.
use mathlib.Core.Path.{◌≡◌}
use Prim.Native.Nat.{◌-◌, ◌≤◌}
use lib.ListN.{length, drop}
use Rattle.filing.specs.Conf.{digits_from, number_of}
use Rattle.filing.proofs.conf.number_of.Given as goal

abbrev pub invariant-loop-i : goal.invariant-loop-i
invariant-loop-i l = (l.i ≤ length l.v) × (number_of l.v ≡ digits_from l.n (drop l.i l.v))

abbrev pub decreases-loop-i : goal.decreases-loop-i
decreases-loop-i l = length l.v - l.i
