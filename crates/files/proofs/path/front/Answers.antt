-- `files::path::front` meets its contract: a part from 0 on is what is taken, and all of a list is taken if it is no longer. Assumes nothing.
use mathlib.Core.Path.{◌≡◌, refl, sym}
use Prim.Native.Nat.{◌-◌}
use native.Mathlib.Omega.{arith}
use lib.Seq.{take_all}
use Rattle.files.proofs.path.front.Goals as goal

pub returns-then-n-s : goal.returns-then-n-s
returns-then-n-s c =
    let n = c.args.n in
    let z : n - 0 ≡ n = omega arith in
    rw z refl

pub returns-else-n-s : goal.returns-else-n-s
returns-else-n-s c = sym (take_all c.args.n c.args.s.now (omega arith))
