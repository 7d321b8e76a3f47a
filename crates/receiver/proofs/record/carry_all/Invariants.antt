-- `receiver::record::carry_all` meets its contract: the steps that are left are those of the plan behind the ones that went well, so the filing comes
-- out as the plan does with what the steps answered. Assumes nothing.
use Rattle.std.proofs.Common.{◌≡◌, ◌+◌, ◌≤◌, length, take, pos}
use Rattle.receiver.specs.Filing.{last_answer}
use Rattle.receiver.proofs.Carrying.{rank, Left}
use Rattle.receiver.proofs.record.carry_all.Given as goal

abbrev pub invariant-loop-session : goal.invariant-loop-session
invariant-loop-session g l =
    (l.count + rank l.step ≤ 8) × (length l.answers ≡ 8) × (last_answer (pos 0) (take l.count l.answers) ≡ pos 0)
    × Left l.has_body l.step (take l.count l.answers)

abbrev pub decreases-loop-session : goal.decreases-loop-session
decreases-loop-session g l = rank l.step
