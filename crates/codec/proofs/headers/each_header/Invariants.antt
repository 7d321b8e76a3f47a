-- The loop of `codec::headers::each_header`: each piece ends behind the place where it was looked for.
use Rattle.std.proofs.Common.{◌-◌, length}
use Rattle.codec.proofs.headers.each_header.Given as goal

abbrev pub decreases-loop-header : goal.decreases-loop-header
decreases-loop-header g l = length l.s - l.at
