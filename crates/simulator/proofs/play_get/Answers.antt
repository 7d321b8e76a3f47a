-- `simulator::play_get` meets its contract: a session is opened, and its Get played; the stores are zeros. Assumes nothing.
use mathlib.Core.Path.{ap}
use Rattle.simulator.specs.Play.{Moment, moment, blank_store}
use Rattle.simulator.proofs.Moves.{played_by}
use Rattle.simulator.proofs.play_get.Goals as goal

pub returns : goal.returns
unfolding blank_store
returns c =
    let a = c.args in
    ap (λ (x : Moment). x.game)
    (played_by a.n a.m a.srm c.connect-took.result _ _ (moment c.play_on.result _ _) c.connect-took.ensures c.play_on.ensures)
