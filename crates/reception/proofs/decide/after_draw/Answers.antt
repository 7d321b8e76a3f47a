-- `reception::decide::after_draw` meets its contract: the test is the definition's. Assumes nothing.
use mathlib.Core.Bool.{Bool}
use mathlib.Core.Path.{sym, ap}
use Rattle.reception.specs.Answers.{after_draw}
use Rattle.reception.proofs.decide.after_draw.Goals as goal

pub returns-then-is_drawn : goal.returns-then-is_drawn
returns-then-is_drawn c = sym (ap (λ (b : Bool). after_draw b c.args.nonce) c.if-is_drawn.true)
