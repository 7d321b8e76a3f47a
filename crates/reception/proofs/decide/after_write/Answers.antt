-- `reception::decide::after_write` meets its contract: the test is the definition's. Assumes nothing.
use mathlib.Core.Bool.{Bool}
use mathlib.Core.Path.{sym, ap}
use Rattle.reception.specs.Answers.{after_write}
use Rattle.reception.proofs.decide.after_write.Goals as goal

pub returns-then-is_written : goal.returns-then-is_written
returns-then-is_written c = sym (ap (λ (b : Bool). after_write b) c.if-is_written.true)
