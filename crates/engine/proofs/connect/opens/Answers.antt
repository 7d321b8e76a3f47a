-- `engine::connect::opens` meets its contract: each part is what the definition asks for. Assumes nothing.
use mathlib.Core.Path.{◌∙◌}
use Rattle.engine.specs.Connect.{answer_for}
use Rattle.engine.proofs.connect.opens.Goals as goal

pub returns : goal.returns
unfolding answer_for
returns c =
    c.opened_for.ensures ∙ simp (c.first_target.ensures, c.first_id.ensures, c.srm_after.ensures)
