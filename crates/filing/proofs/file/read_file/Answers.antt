-- `filing::file::read_file` meets its contract. Its tests are those of the definition, in their order. Assumes nothing.
use mathlib.Core.Path.{refl, sym, ◌∙◌}
use native.Mathlib.Omega.{arith}
use borrow.Author.Tests.{lt-ltb, le-ltb}
use lib.ListN.{length}
use Rattle.filing.specs.FileFrame.{file_read}
use Rattle.filing.proofs.file.read_file.Goals as goal

pub returns-then-payload-lt-ROW : goal.returns-then-payload-lt-ROW
unfolding file_read
returns-then-payload-lt-ROW c = rw (lt-ltb (length c.args.payload.now) 49 (omega arith)) refl

pub returns-then-not-is_mark_right : goal.returns-then-not-is_mark_right
unfolding file_read
returns-then-not-is_mark_right c =
    let p = c.args.payload.now in
    rw (
      le-ltb (length p) 49 (omega arith),
      sym c.is_mark_right.ensures ∙ c.if-not-is_mark_right.true,
    ) refl

pub returns : goal.returns
unfolding file_read
returns c =
    let p = c.args.payload.now in
    rw (
      le-ltb (length p) 49 (omega arith),
      sym c.is_mark_right.ensures ∙ c.if-not-is_mark_right.false,
      c.numbers_in.ensures,
    ) refl
