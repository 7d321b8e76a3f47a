-- `digest::md5::all_steps` meets its contract. The four rounds follow one another. Assumes nothing.
use Rattle.std.proofs.Common.{refl}
use Rattle.digest.specs.Md5.{steps}
use Rattle.digest.proofs.md5.all_steps.Goals as goal

pub returns : goal.returns
unfolding steps
returns c =
    let s = c.args.s in
    c.round.ensures s (c.round-c.ensures s (c.round-b.ensures s (c.round-a.ensures s refl)))
