-- `digest::md5::octets16_at` meets its contract. The halves of 16 bytes are the 8 bytes at the place and the 8 after them. Assumes nothing.
use Rattle.digest.proofs.Octets.{numbers_at}
use Rattle.digest.proofs.md5.octets16_at.Goals as goal

pub returns : goal.returns
returns c =
    let x = c in
    rw (c.number_at-2.ensures, c.number_at.ensures) (numbers_at c.args.s.now c.args.at c.requires)
