-- `archive::block::is_zero` meets its contract: each byte is tested. Assumes nothing.
use Rattle.std.proofs.Common.{rules, tests, ◌≡◌, ◌∙◌, eqb, ℕ}
use Rattle.std.specs.List.{list_all}
use Rattle.std.proofs.lemmas.Iterator.{YieldsList-from_slice}
use Rattle.std.proofs.lemmas.Iterator.Search.{all_from_yields_List}
use Rattle.archive.proofs.Compare.{all_zeros}
use Rattle.archive.proofs.block.is_zero.Goals as goal

pub returns : goal.returns
returns c =
    let s = c.args.s.now in
    let r : c.all.result ≡ list_all (λ (x : ℕ). eqb x 0) s =
    all_from_yields_List (λ (x : ℕ). eqb x 0) _ _ _ c.all.ensures.ran (YieldsList-from_slice s cc) (λ y b q k. search (rules, tests))
    in
    r ∙ all_zeros s
