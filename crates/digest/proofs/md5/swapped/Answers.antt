-- `digest::md5::swapped` meets its contract. A word is the sum of its four bytes. Assumes nothing.
use Rattle.std.proofs.Common.{◌≡◌, ◌/◌, arith}
use Rattle.digest.specs.Md5.{le, le_value, be_value}
use Rattle.digest.proofs.md5.swapped.Goals as goal

pub returns : goal.returns
unfolding le le_value be_value
returns c =
    let x = c.args.x in
    let h2 : x / 65536 ≡ x / 256 / 256 = omega arith in
    let h3 : x / 16777216 ≡ x / 256 / 256 / 256 = omega arith in (
      omega (arith, c.from.ensures, c.swap_bytes.ensures),
      omega (arith, c.from.ensures, c.swap_bytes.ensures),
    )
