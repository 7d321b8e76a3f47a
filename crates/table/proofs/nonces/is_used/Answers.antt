-- `table::nonces::is_used` meets its contract: `any` looks through the pairs of the nonces' halves. Assumes nothing.
use Rattle.std.proofs.Common.{rules, tests, ◌≡◌, ℕ, ◌+◌, take, drop, ◌∙◌, eqb}
use mathlib.Core.Bool.{◌&&◌}
use Rattle.std.specs.List.{list_any, zip}
use Rattle.std.proofs.lemmas.Iterator.{YieldsList-from_slice, YieldsList-from_zip}
use Rattle.std.proofs.lemmas.Iterator.Search.{any_from_yields_List}
use Rattle.table.specs.Nonces.{remembered}
use Rattle.table.proofs.Remembering.{among_pairs}
use Rattle.table.proofs.nonces.is_used.Goals as goal

pub returns : goal.returns
unfolding remembered
returns c =
    let x = c.args in
    let f = take x.count (drop 64 x.tables.now) in
    let s = take x.count (drop 96 x.tables.now) in
    let a : c.zip.result.a.rest.now ≡ f = simp (c.zip.ensures.first, c.iter.ensures.rest) (search rules) in
    let b : c.zip.result.b.rest.now ≡ s = simp (c.zip.ensures.second, c.iter-2.ensures.rest) (search rules) in
    any_from_yields_List (λ (p : ℕ × ℕ). eqb p.0 x.nonce.first && eqb p.1 x.nonce.second) c.any.new.self _ c.any.result c.any.ensures.ran
    (YieldsList-from_zip {s = c.zip.result} (YieldsList-from_slice f a) (YieldsList-from_slice s b)) (λ y b q k. search (rules, tests))
    ∙ among_pairs x.nonce f s
