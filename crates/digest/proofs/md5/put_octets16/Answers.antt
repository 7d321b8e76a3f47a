-- `digest::md5::put_octets16` meets its contract. It is a copy of the 16 bytes. Assumes nothing.
use Rattle.digest.proofs.Octets.{length-octets16}
use Rattle.digest.proofs.md5.put_octets16.Goals as goal

pub returns : goal.returns
returns c = rw (c.copy_into.ensures, c.octets-bytes.ensures, length-octets16)
