-- `filing::frame::write_check` meets its contract: the check before and the rows of a frame are one stretch of the store. Assumes nothing.
use mathlib.Core.Path.{◌∙◌}
use Rattle.filing.proofs.InStore.{check-laid}
use Rattle.filing.proofs.frame.write_check.Goals as goal

pub returns : goal.returns
returns c =
    let a = c.args in
    c.copy_into.ensures
    ∙ check-laid a.store.now c.digest-check.result a.at a.number a.n c.chain_at.result c.filling.result
    c.filling.ensures c.chain_at.ensures.value c.chain_at.ensures.back c.digest-check.ensures
