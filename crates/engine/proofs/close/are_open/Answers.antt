-- `engine::close::are_open` meets its contract: what `all` computes is `all_open` (`opened`). Assumes nothing.
use Rattle.std.proofs.Common.{take, rules, ◌∙◌}
use Rattle.std.proofs.lemmas.Iterator.{YieldsList-from_slice}
use Rattle.std.proofs.lemmas.Iterator.Search.{all_from_yields_List}
use Rattle.journal.specs.Ids.{member}
use Rattle.engine.proofs.Closes.{opened}
use Rattle.engine.proofs.close.are_open.Goals as goal

pub returns : goal.returns
returns c =
    let x = c.args in
    let ids = take x.count x.tables.now in
    all_from_yields_List (λ i. member i ids) _ _ _ c.all.ensures.ran (YieldsList-from_slice x.ids.now cc) (λ i b q h. search rules)
    ∙ opened ids x.ids.now
