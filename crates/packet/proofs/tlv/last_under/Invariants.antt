-- The loop of `packet::tlv::last_under`. The invariant: the answer is that of what is left, after what was found.
use Prim.Native.Nat.{◌-◌}
use mathlib.Core.Path.{◌≡◌}
use lib.ListN.{length, drop}
use Rattle.packet.specs.Tags.{tags, last_in, last_under}
use Rattle.packet.proofs.tlv.last_under.Given as goal

abbrev pub invariant-loop-t : goal.invariant-loop-t
invariant-loop-t l = last_under l.s l.tag l.empty ≡ last_in l.tag l.empty l.at l.found (tags (drop l.at l.s))

abbrev pub decreases-loop-t : goal.decreases-loop-t
decreases-loop-t l = length l.s - l.at
