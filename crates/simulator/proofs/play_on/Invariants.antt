-- The invariant of `simulator::play_on`: the turns that are left lead where all turns lead from the start, and what was counted and what is
-- left together stay below what 64 bits hold.
use mathlib.Core.Path.{◌≡◌}
use Prim.Native.Nat.{◌+◌, ◌≤◌}
use Rattle.model.specs.Step.{stores}
use Rattle.simulator.specs.Play.{moment, plays}
use Rattle.simulator.proofs.play_on.Given as goal

abbrev pub invariant-loop-left : goal.invariant-loop-left
invariant-loop-left l =
    (plays l.bytes l.left (moment l.g (stores l.packet l.headers l.body l.reply) l.tables)
    ≡ plays l.bytes l.turns (moment l.initial.g (stores l.initial.packet l.initial.headers l.initial.body l.initial.reply) l.tables))
    × ((l.g.packets + l.left ≤ l.initial.g.packets + l.turns) × (l.g.requests + l.left ≤ l.initial.g.requests + l.turns))

abbrev pub decreases-loop-left : goal.decreases-loop-left
decreases-loop-left l = l.left
