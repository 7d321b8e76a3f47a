-- `digest::md5::number_at` meets its contract. The library's number of eight bytes is that of the definition (`bytes-value`). Assumes nothing.
use Rattle.std.proofs.Common.{◌≡◌, ◌+◌, ◌-◌, arith, take, drop, length-take-le, length-drop}
use Rattle.digest.proofs.Octets.{bytes-value}
use Rattle.digest.proofs.md5.number_at.Goals as goal

pub returns : goal.returns
returns c =
    let s = c.args.s.now in
    let at = c.args.at in
    let eight : at + 8 - at ≡ 8 = omega arith in
    rw (c.from_be_bytes.ensures, c.copy_from_slice.ensures.after, eight)
    (bytes-value (take 8 (drop at s)) (length-take-le 8 (drop at s) (omega (arith, length-drop at s))))
