-- `filing::content::lay` meets its contract: four parts stand one behind the other. Assumes nothing.
use Rattle.filing.proofs.Contents.{four-laid}
use Rattle.filing.proofs.content.lay.Goals as goal

pub returns : goal.returns
returns c =
    let a = c.args in
    four-laid a.store.now _ _ _ _ a.row.now a.first.now a.second.now a.third.now c.requires c.copy_into.ensures
    c.copy_into-2.ensures c.copy_into-3.ensures c.copy_into-4.ensures
