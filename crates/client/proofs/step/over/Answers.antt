-- `client::step::over` meets its contract. The state is the one that `goes` gives. Assumes nothing.
use Rattle.client.proofs.step.over.Goals as goal

pub returns : goal.returns
returns c = simp (c.took.ensures, c.goes.ensures)
