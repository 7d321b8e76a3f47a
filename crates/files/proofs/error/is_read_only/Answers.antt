-- `files::error::is_read_only` meets its contract: the four numbers, and no other. Assumes nothing.
use Rattle.files.proofs.Errors.{read-only_is, read-only-not}
use Rattle.files.proofs.error.is_read_only.Goals as goal

pub returns-in-13 : goal.returns-in-13
returns-in-13 c = read-only_is c.args.error c.ranges.error c.in-13.in-13-own.keys1

pub returns-in_default : goal.returns-in_default
returns-in_default c = read-only-not c.args.error c.in_default.in_default-own.rest.1
