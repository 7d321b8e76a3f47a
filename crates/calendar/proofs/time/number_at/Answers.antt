-- `calendar::time::number_at` meets its contract: the bytes are digits, so that neither difference is below 0. Assumes nothing.
use mathlib.Core.Path.{◌≡◌}
use Prim.Native.Nat.{◌+◌}
use Rattle.calendar.specs.Time.{number_at}
use native.Mathlib.Omega.{arith}
use Rattle.calendar.proofs.time.number_at.Goals as goal

pub returns : goal.returns
unfolding number_at
returns c =
    let at = c.args.at in
    let first : at + 0 ≡ at = omega arith in
    rw first (omega arith)
