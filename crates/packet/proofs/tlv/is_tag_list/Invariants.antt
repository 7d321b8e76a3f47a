-- The loop of `packet::tlv::is_tag_list`. The invariant: the list is readable where what is left of it is.
use Prim.Native.Nat.{◌-◌}
use mathlib.Core.Path.{◌≡◌}
use lib.ListN.{length, drop}
use Rattle.packet.specs.Tags.{tags, is_readable, is_tag_list}
use Rattle.packet.proofs.tlv.is_tag_list.Given as goal

abbrev pub invariant-loop-next : goal.invariant-loop-next
invariant-loop-next l = is_tag_list l.s ≡ is_readable (tags (drop l.at l.s))

abbrev pub decreases-loop-next : goal.decreases-loop-next
decreases-loop-next l = length l.s - l.at
