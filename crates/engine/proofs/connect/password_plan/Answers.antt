-- `engine::connect::password_plan` meets its contract. The two arms are those of the definition.
use Rattle.engine.specs.Connect.{password_plan}
use Rattle.engine.proofs.connect.password_plan.Goals as goal

pub returns-then-right : goal.returns-then-right
unfolding password_plan
returns-then-right c = simp (c.asks.ensures, c.verified.ensures, c.with_check.ensures, c.if-right.true)

pub returns : goal.returns
unfolding password_plan
returns c = simp (c.asks-2.ensures, c.with_check-2.ensures, c.if-right.false)
