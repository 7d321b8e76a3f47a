-- `receiver::turn::receive` meets its contract: each turn adds one to the run. The turns are counted down. Assumes nothing.
use Rattle.model.specs.Step.{stores}
use Rattle.reception.specs.Answers.{lending}
use Rattle.receiver.specs.Turning.{Run}
use Rattle.receiver.proofs.turn.receive.Given as goal

abbrev pub invariant-loop-left : goal.invariant-loop-left
invariant-loop-left g l =
    Run (lending l.initial.s.took.engine (stores l.initial.packet l.initial.headers l.initial.body l.initial.reply) l.initial.tables) l.s
    (stores l.packet l.headers l.body l.reply) l.tables

abbrev pub decreases-loop-left : goal.decreases-loop-left
decreases-loop-left g l = l.left
