-- `engine::dispatch::packet_target` meets its contract: its tests are those of the definition, in its order. Assumes nothing.
use mathlib.Core.Path.{◌≡◌, sym, ◌∙◌}
use mathlib.Core.Bool.{true, true≢false}
use native.Mathlib.Omega.{arith}
use lib.ListN.{length, take}
use lib.Seq.{length-take-le}
use Rattle.journal.specs.Ids.{member}
use Rattle.connection.proofs.Carrying.{none-open}
use Rattle.model.proofs.Fit.{and_right}
use Rattle.engine.proofs.dispatch.packet_target.Goals as goal

pub returns-then-is_marked : goal.returns-then-is_marked
returns-then-is_marked c = rw (sym c.is_marked.ensures ∙ c.if-is_marked.true) c.unnamed.ensures

pub returns-then-is_busy : goal.returns-then-is_busy
returns-then-is_busy c =
    rw (sym c.is_marked.ensures ∙ c.if-is_marked.false, sym c.is_busy.ensures ∙ c.if-is_busy.true)

pub returns-in-Some : goal.returns-in-Some
returns-in-Some c =
    rw (
      sym c.is_marked.ensures ∙ c.if-is_marked.false,
      sym c.is_busy.ensures ∙ c.if-is_busy.false,
      sym c.requires.2 ∙ c.if-known.true,
      c.target_at.ensures,
      c.in-Some.ensures.0,
    )

-- an id that is known is in the list, and has a place there
pub returns-in-None : goal.returns-in-None
returns-in-None c =
    let x = c.args in
    let ids = take x.e.peer.count x.tables.now in
    let n : length ids ≡ x.e.peer.count = length-take-le x.e.peer.count x.tables.now (omega arith) in
    let m : member x.v.id ids ≡ true = and_right x.v.has_id _ (sym c.requires.2 ∙ c.if-known.true) in
    absurd (true≢false (sym m ∙ none-open x.v.id ids (c.in-None.ensures ∙ sym n)))

pub returns : goal.returns
returns c =
    rw (sym c.is_marked.ensures ∙ c.if-is_marked.false, sym c.is_busy.ensures ∙ c.if-is_busy.false, sym c.requires.2 ∙ c.if-known.false)
    c.unnamed-2.ensures
