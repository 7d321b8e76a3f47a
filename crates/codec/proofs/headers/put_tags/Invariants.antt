-- The loop of `codec::headers::put_tags`: each piece ends behind the place where it was looked for.
use Rattle.std.proofs.Common.{◌-◌, length}
use Rattle.codec.proofs.headers.put_tags.Given as goal

abbrev pub decreases-loop-tag : goal.decreases-loop-tag
decreases-loop-tag g l = length l.s - l.at
