-- `files::error::is_full` meets its contract: the two numbers, and no other. Assumes nothing.
use Rattle.files.proofs.Errors.{full_is, full-not}
use Rattle.files.proofs.error.is_full.Goals as goal

pub returns-in-28 : goal.returns-in-28
returns-in-28 c = full_is c.args.error c.ranges.error c.in-28.in-28-own.keys1

pub returns-in_default : goal.returns-in_default
returns-in_default c = full-not c.args.error c.in_default.in_default-own.rest.1
