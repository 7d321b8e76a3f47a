-- `simulator::game_after` meets its contract: each part is what its function says. Assumes nothing.
use Rattle.simulator.specs.Play.{game_after}
use Rattle.simulator.proofs.game_after.Goals as goal

pub returns : goal.returns
unfolding game_after
returns c =
    let g = c.given_by.ensures in
    rw (c.minus.ensures, g, c.taken_by.ensures.value, c.asked_by.ensures.value, c.is_over_by.ensures)
