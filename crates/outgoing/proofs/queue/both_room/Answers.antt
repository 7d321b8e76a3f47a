-- `outgoing::queue::both_room` meets its contract: it asks `room` of one store, then of the other. Assumes nothing.
use borrow.Author.Tests.{le-ltb}
use mathlib.Core.Path.{sym, ◌∙◌}
use Rattle.packet.specs.declared.store.LengthField.TheVariants.{TwoBytes}
use Rattle.packet.proofs.Laid.{granted}
use Rattle.outgoing.specs.Queue.{both_room}
use Rattle.outgoing.proofs.Rooms.{refused}
use Rattle.outgoing.proofs.queue.both_room.Goals as goal

pub returns-in_default : goal.returns-in_default
unfolding both_room
returns-in_default c = rw (refused _ _ _ TwoBytes _ c.in_default.not-Written c.room.ensures)

pub returns-in_default-room : goal.returns-in_default-room
unfolding both_room
returns-in_default-room c =
    let h = c in
    let x = c.args in
    let g = granted x.len x.n x.kept _ TwoBytes _ (sym c.in-Written.is ∙ c.room.ensures) in
    rw (le-ltb _ _ g.fits, refused _ _ _ TwoBytes _ c.in_default-room.not-Written c.room-2.ensures)

pub returns : goal.returns
unfolding both_room
returns c =
    let b = c in
    let r = c in
    let h = c in
    let x = c.args in
    let g = granted x.len x.n x.kept _ TwoBytes _ (sym c.in-Written.is ∙ c.room.ensures) in
    let f = granted x.body_len x.pending x.chunks _ TwoBytes _ (sym c.in-Written-room.is ∙ c.room-2.ensures) in
    rw (le-ltb _ _ g.fits, le-ltb _ _ f.fits, g.next_is, f.next_is)
