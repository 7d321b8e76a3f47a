-- `digest::md5::octets` meets its contract. The bytes of each number, the high-order one first. Assumes nothing.
use Rattle.std.proofs.Common.{ℕ, List, ◌++◌, ap₂}
use Rattle.digest.specs.Md5.{octets16}
use Rattle.digest.proofs.Octets.{be-bytes}
use Rattle.digest.proofs.md5.octets.Goals as goal

pub returns : goal.returns
unfolding octets16
returns c =
    rw (c.copy_from_slice-2.ensures.after, c.copy_from_slice.ensures.after, c.to_be_bytes-2.ensures, c.to_be_bytes.ensures)
    (ap₂ (λ (x y : List ℕ). x ++ y) (be-bytes c.args.n.first) (be-bytes c.args.n.second))
