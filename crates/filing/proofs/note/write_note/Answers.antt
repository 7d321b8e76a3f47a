-- `filing::note::write_note` meets its contract. Its tests are those of the definition, in their order. Assumes nothing.
use mathlib.Core.Path.{refl, sym, ◌∙◌}
use native.Mathlib.Omega.{arith}
use lib.ListN.{length}
use borrow.Author.Tests.{lt-ltb, le-ltb}
use Rattle.filing.specs.FileFrame.{frame_with}
use Rattle.filing.specs.Note.{note_written}
use Rattle.filing.proofs.NoteText.{lengths_say, note_done}
use Rattle.filing.proofs.note.write_note.Goals as goal

pub returns-then-store-lt-ROOM : goal.returns-then-store-lt-ROOM
unfolding note_written
returns-then-store-lt-ROOM c =
    rw (lt-ltb (length c.args.store.now) 1024 (omega arith)) refl

pub returns-then-not-are_lengths_right : goal.returns-then-not-are_lengths_right
unfolding note_written
returns-then-not-are_lengths_right c =
    let s = c.args.store.now in
    rw (le-ltb (length s) 1024 (omega arith), sym c.are_lengths_right.ensures ∙ c.if-not-are_lengths_right.true) refl

pub returns-in_default : goal.returns-in_default
unfolding note_written
returns-in_default c =
    let s = c.args.store.now in
    rw (
      le-ltb (length s) 1024 (omega arith),
      sym c.are_lengths_right.ensures ∙ c.if-not-are_lengths_right.false,
      sym c.read_file.ensures ∙ c.in_default.is,
    ) refl

pub put_note-requires : goal.put_note-requires
put_note-requires c =
    let a = c.args in
    let w = lengths_say (length a.name.now) (length a.check.now) (length a.body.now) (length a.payload.now)
    (sym c.are_lengths_right.ensures ∙ c.if-not-are_lengths_right.false) in
    omega (arith, w)

pub returns : goal.returns
unfolding note_written
returns c =
    let a = c.args in
    rw (
      le-ltb (length a.store.now) 1024 (omega arith),
      sym c.are_lengths_right.ensures ∙ c.if-not-are_lengths_right.false,
      sym c.read_file.ensures ∙ c.in-Some.is,
    )
    (note_done a.store.now a.name.now a.place (frame_with c.in-Some.numbers a.payload.now) a.check.now a.body.now
    c.put_note.ensures.value)
