-- `filing::frame::read_frame` meets its contract: nothing is left, less than a frame is left, or a frame is judged. Assumes nothing.
use mathlib.Core.Path.{sym, ◌∙◌}
use native.Mathlib.Omega.{arith}
use Prim.Native.Nat.{◌+◌}
use lib.ListN.{length}
use borrow.Author.Tests.{leb-true}
use Rattle.filing.specs.Frame.{frame_length}
use Rattle.filing.proofs.InStore.{number_at, turn_end, turn-short, turn-cut, turn-judged}
use Rattle.filing.proofs.frame.read_frame.Goals as goal

pub returns-then-log-at : goal.returns-then-log-at
returns-then-log-at c =
    let a = c.args in
    turn_end a.log.now a.at a.number (omega arith)

pub returns-then-log-at-lt-LEAST : goal.returns-then-log-at-lt-LEAST
returns-then-log-at-lt-LEAST c =
    let a = c.args in
    turn-short a.log.now a.at a.number (omega arith) (omega arith)

-- the length that the code reads is the frame's
pub returns-then-not-has_room : goal.returns-then-not-has_room
returns-then-not-has_room c =
    let a = c.args in
    turn-cut a.log.now a.at a.number (omega arith) (omega arith) c.be32_at-n.result
    (c.be32_at-n.ensures ∙ sym (number_at a.log.now a.at 8))
    (sym c.has_room.ensures ∙ c.if-not-has_room.true)

pub judge-requires : goal.judge-requires
judge-requires c =
    let a = c.args in (
      leb-true (a.at + frame_length c.be32_at-n.result) (length a.log.now) (sym c.has_room.ensures ∙ c.if-not-has_room.false),
      c.be32_at-n.ensures ∙ sym (number_at a.log.now a.at 8),
    )

pub returns : goal.returns
returns c =
    let a = c.args in
    c.judge.ensures
    ∙ turn-judged a.log.now a.at a.number (omega arith) (omega arith) c.be32_at-n.result
    (c.be32_at-n.ensures ∙ sym (number_at a.log.now a.at 8))
    (sym c.has_room.ensures ∙ c.if-not-has_room.false)
