-- `files::error::refusal_of` meets its contract: a number has one of three codes. Assumes nothing.
use Rattle.files.proofs.Errors.{refusal_missing, refusal_forbidden, refusal_other}
use Rattle.files.proofs.error.refusal_of.Goals as goal

pub returns-in-2 : goal.returns-in-2
returns-in-2 c = refusal_missing c.args.error c.ranges.error c.in-2.in-2-own.keys1

pub returns-in-13 : goal.returns-in-13
returns-in-13 c = refusal_forbidden c.args.error c.ranges.error c.in-13.in-13-own.keys2

pub returns-in_default : goal.returns-in_default
returns-in_default c = refusal_other c.args.error c.in_default.in_default-own.rest.0.1 c.in_default.in_default-own.rest.1
