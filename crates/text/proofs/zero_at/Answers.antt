-- `text::zero_at` meets its contract: the first zero stands where what stands before it ends. Assumes nothing.
use Rattle.std.proofs.Common.{eqb, rules, tests}
use Rattle.std.proofs.lemmas.Iterator.{YieldsList-from_slice}
use Rattle.std.proofs.lemmas.Iterator.Search.{position_from_yields_List}
use Rattle.text.proofs.Cut.{zero_found}
use Rattle.text.proofs.zero_at.Goals as goal

pub returns : goal.returns
returns c =
    let s = c.args.s.now in
    zero_found s _ _
    (position_from_yields_List (λ b. eqb b 0) _ _ _ c.position.ensures.ran (YieldsList-from_slice s cc) (λ x b q k. search (rules, tests)))
    c.unwrap_or.ensures
