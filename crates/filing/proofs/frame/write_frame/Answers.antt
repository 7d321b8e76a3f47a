-- `filing::frame::write_frame` meets its contract: it has room or it does not, the payload is short enough or not, and then rows and check
-- are laid. Assumes nothing.
use mathlib.Core.Path.{refl, sym, ◌∙◌}
use Prim.Native.Nat.{◌+◌}
use native.Mathlib.Omega.{arith}
use lib.ListN.{length}
use borrow.Author.Tests.{leb-true}
use Rattle.filing.specs.Frame.{frame_length}
use Rattle.filing.specs.Kinds.{content_in}
use Rattle.filing.proofs.InStore.{written-short, written-long, frame_written_lem}
use Rattle.filing.proofs.frame.write_frame.Goals as goal

pub returns-then-not-has_room : goal.returns-then-not-has_room
returns-then-not-has_room c =
    let a = c.args in
    written-short a.store.now a.at a.head.number (content_in a.head a.payload.now)
    (sym c.has_room.ensures ∙ c.if-not-has_room.true)

pub returns-then-n-gt-LONGEST : goal.returns-then-n-gt-LONGEST
returns-then-n-gt-LONGEST c =
    let a = c.args in
    written-long a.store.now a.at a.head.number (content_in a.head a.payload.now)
    (sym c.has_room.ensures ∙ c.if-not-has_room.false) c.if-n-gt-LONGEST.true

-- behind both tests there is room
pub write_rows-requires : goal.write_rows-requires
write_rows-requires c =
    let a = c.args in
    leb-true (a.at + frame_length (length a.payload.now)) (length a.store.now) (sym c.has_room.ensures ∙ c.if-not-has_room.false)

pub write_check-requires : goal.write_check-requires
write_check-requires c =
    let a = c.args in
    omega (
      arith,
      leb-true (a.at + frame_length (length a.payload.now)) (length a.store.now) (sym c.has_room.ensures ∙ c.if-not-has_room.false),
    )

pub returns : goal.returns
returns c =
    let a = c.args in
    frame_written_lem a.store.now a.at a.head.number (content_in a.head a.payload.now) _ _ c.filling.result refl
    (sym c.has_room.ensures ∙ c.if-not-has_room.false) c.if-n-gt-LONGEST.false c.filling.ensures
    c.write_rows.ensures c.write_check.ensures
