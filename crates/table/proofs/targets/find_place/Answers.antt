-- `table::targets::find_place` meets its contract: `position` finds the first of the numbers that is the id. Assumes nothing.
use Rattle.std.proofs.Common.{rules, tests, ◌≡◌, ℕ, take, length, sym, arith, eqb, length-take-le}
use Rattle.std.specs.List.{position}
use Rattle.std.proofs.lemmas.Iterator.{YieldsList-from_slice}
use Rattle.std.proofs.lemmas.Iterator.Search.{position_from_yields_List}
use Rattle.table.proofs.Columns.{place_found}
use Rattle.table.proofs.targets.find_place.Goals as goal

pub returns : goal.returns
returns c =
    let x = c.args in
    let r = take x.count x.tables.now in
    let p : c.position.result ≡ position (λ (y : ℕ). eqb y x.id) r =
    position_from_yields_List (λ (y : ℕ). eqb y x.id) _ _ _ c.position.ensures.ran (YieldsList-from_slice r cc) (λ y b q k. search (rules, tests)) in
    place_found x.id x.count r _ p (sym (length-take-le x.count x.tables.now (omega arith)))
