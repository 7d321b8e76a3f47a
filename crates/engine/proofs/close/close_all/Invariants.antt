-- Each turn closes one id more, and what is still to be closed decides what is left.
use Rattle.engine.proofs.Closes.{Closing}
use Rattle.engine.proofs.close.close_all.Given as goal

abbrev pub invariant-loop-id : goal.invariant-loop-id
invariant-loop-id l = Closing l.ids l.count l.initial.tables l.id-index l.left l.tables
