-- The loop of `packet::auth::all_sixteen`. The invariant: the answer is that of what is left of the list.
use Prim.Native.Nat.{◌-◌}
use mathlib.Core.Path.{◌≡◌}
use lib.ListN.{length, drop}
use Rattle.packet.specs.Tags.{tags}
use Rattle.packet.specs.AuthRead.{sixteen_in}
use Rattle.packet.proofs.auth.all_sixteen.Given as goal

abbrev pub invariant-loop-tag : goal.invariant-loop-tag
invariant-loop-tag l = sixteen_in (tags l.v) ≡ sixteen_in (tags (drop l.at l.v))

abbrev pub decreases-loop-tag : goal.decreases-loop-tag
decreases-loop-tag l = length l.v - l.at
