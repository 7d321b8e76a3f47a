-- `files::error::is_missing` meets its contract: the two numbers, and no other. Assumes nothing.
use Rattle.files.proofs.Errors.{missing_is, missing-not}
use Rattle.files.proofs.error.is_missing.Goals as goal

pub returns-in-2 : goal.returns-in-2
returns-in-2 c = missing_is c.args.error c.ranges.error c.in-2.in-2-own.keys1

pub returns-in_default : goal.returns-in_default
returns-in_default c = missing-not c.args.error c.in_default.in_default-own.rest.1
