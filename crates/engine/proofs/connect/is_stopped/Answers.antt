-- `engine::connect::is_stopped` meets its contract: a response that is not missing is carried, readable or not. Assumes nothing.
use borrow.Enum.Refused.{opened}
use mathlib.Core.Bool.{and-false, and-true}
use mathlib.Core.Path.{sym, ◌∙◌}
use lib.Count.{ones}
use lib.Dec.{leb}
use Rattle.journal.specs.Checks.{most_wrong}
use Rattle.engine.specs.Connect.{stops_by}
use Rattle.engine.proofs.Connects.{is_carried}
use Rattle.engine.proofs.connect.is_stopped.Goals as goal

pub returns-in-Missing : goal.returns-in-Missing
unfolding stops_by
returns-in-Missing c = rw c.in-Missing.is (sym (and-false (leb most_wrong (ones c.args.window))))

pub returns-in_default : goal.returns-in_default
unfolding stops_by
returns-in_default c = rw (is_carried _ (opened c.in_default.in_default-own.keys2)) (c.too_many.ensures.value ∙ sym (and-true (leb most_wrong (ones c.args.window))))
