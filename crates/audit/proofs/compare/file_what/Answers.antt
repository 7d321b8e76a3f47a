-- `audit::compare::file_what` meets its contract: its tests are those of the definition. Assumes nothing.
use Rattle.std.proofs.Common.{refl, arith, le-ltb, lt-ltb}
use borrow.Author.Tests.{not-true, not-false}
use Rattle.audit.proofs.compare.file_what.Goals as goal

pub returns-then-not-file : goal.returns-then-not-file
returns-then-not-file c = rw (not-true c.args.file.is_there c.if-not-file.true) refl

pub returns-then-file-gt-KEPT : goal.returns-then-file-gt-KEPT
returns-then-file-gt-KEPT c =
    rw (not-false c.args.file.is_there c.if-not-file.false, lt-ltb 80 c.args.file.size c.if-file-gt-KEPT.true) refl

pub returns : goal.returns
returns c =
    rw (
      not-false c.args.file.is_there c.if-not-file.false,
      le-ltb 80 c.args.file.size (omega arith),
    ) (rw c.front.ensures at c.payload_what.ensures)
