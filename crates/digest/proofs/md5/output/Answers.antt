-- `digest::md5::output` meets its contract. Two registers in a row are one number (`numbers_output`). Assumes nothing.
use Rattle.digest.proofs.Octets.{numbers_output}
use Rattle.digest.proofs.md5.output.Goals as goal

pub returns : goal.returns
returns c =
    rw (
      c.swapped-4.ensures.0,
      c.swapped-3.ensures.0,
      c.swapped-2.ensures.0,
      c.swapped.ensures.0,
    )
    (numbers_output c.args.s)
