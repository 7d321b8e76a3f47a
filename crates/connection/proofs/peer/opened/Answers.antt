-- `connection::peer::opened` meets its contract. Its tests are those of the definition, in its order. Assumes nothing.
use Rattle.std.proofs.Common.{◌≡◌, true, false, take, length, sym, ◌∙◌, arith, length-take-le, le-leb}
use borrow.Author.Tests.{lt-leb}
use Rattle.journal.specs.Ids.{member}
use Rattle.connection.specs.Peer.{opened}
use Rattle.connection.proofs.Carrying.{found-open, none-open}
use Rattle.connection.proofs.peer.opened.Goals as goal

pub returns-in-Some : goal.returns-in-Some
unfolding opened
returns-in-Some c =
    let x = c.args in
    let ids = take x.peer.count x.tables.now in
    let n : length ids ≡ x.peer.count = length-take-le x.peer.count x.tables.now (omega arith) in
    let e = c.in-Some.ensures in
    let m : member x.id ids ≡ true = found-open x.id ids (omega (arith, e.0, e.1, n)) in
    rw (m, c.with_srm.ensures, c.put_target.ensures, e.0)

pub returns-then-count-ge-MAX_CONNECTIONS : goal.returns-then-count-ge-MAX_CONNECTIONS
unfolding opened
returns-then-count-ge-MAX_CONNECTIONS c =
    let x = c.args in
    let ids = take x.peer.count x.tables.now in
    let n : length ids ≡ x.peer.count = length-take-le x.peer.count x.tables.now (omega arith) in
    let m : member x.id ids ≡ false = none-open x.id ids (c.in_default.ensures ∙ sym n) in
    rw (m, le-leb _ _ c.if-count-ge-MAX_CONNECTIONS.true)

pub returns : goal.returns
unfolding opened
returns c =
    let x = c.args in
    let ids = take x.peer.count x.tables.now in
    let n : length ids ≡ x.peer.count = length-take-le x.peer.count x.tables.now (omega arith) in
    let m : member x.id ids ≡ false = none-open x.id ids (c.in_default.ensures ∙ sym n) in
    rw (m, lt-leb _ _ c.if-count-ge-MAX_CONNECTIONS.false, c.with_id.ensures, c.put_target-2.ensures, c.from.ensures)
