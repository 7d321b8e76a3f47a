-- `journal_code::heading::link_of` meets its contract: it goes by the id's presence and by its place, if it has one, as the definition does.
use mathlib.Core.Path.{◌≡◌, sym, ◌∙◌}
use mathlib.Core.Bool.{true, false}
use native.Mathlib.Omega.{arith}
use lib.ListN.{length, take}
use lib.Seq.{length-take-le}
use borrow.Author.Tests.{not-true, not-false}
use Rattle.journal.specs.Ids.{member}
use Rattle.connection.proofs.Carrying.{found-open, none-open}
use Rattle.journal_code.specs.Heading.{link_by}
use Rattle.journal_code.proofs.heading.link_of.Goals as goal

pub returns-then-not-v : goal.returns-then-not-v
unfolding link_by
returns-then-not-v c = rw (not-true c.args.v.has_id c.if-not-v.true, c.unnamed.ensures)

pub returns-in-Some : goal.returns-in-Some
unfolding link_by
returns-in-Some c =
    let x = c.args in
    let ids = take x.count x.tables.now in
    let n : length ids ≡ x.count = length-take-le x.count x.tables.now (omega arith) in
    let e = c.in-Some.ensures in
    let m : member x.v.id ids ≡ true = found-open x.v.id ids (omega (arith, e.0, e.1, n)) in
    rw (not-false x.v.has_id c.if-not-v.false, m, c.target_at.ensures, e.0)

pub returns-in-None : goal.returns-in-None
unfolding link_by
returns-in-None c =
    let x = c.args in
    let ids = take x.count x.tables.now in
    let n : length ids ≡ x.count = length-take-le x.count x.tables.now (omega arith) in
    let m : member x.v.id ids ≡ false = none-open x.v.id ids (c.in-None.ensures ∙ sym n) in
    rw (not-false x.v.has_id c.if-not-v.false, m, c.unnamed-in-None.ensures)
