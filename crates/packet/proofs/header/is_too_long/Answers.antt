-- `packet::header::is_too_long` meets its contract: the three bytes before the value count too. Assumes nothing.
use native.Mathlib.Omega.{arith}
use mathlib.Core.Path.{◌≡◌, refl, sym, ◌∙◌}
use mathlib.Core.Bool.{Bool, true, false}
use Prim.Native.Nat.{ℕ, ◌+◌}
use lib.Dec.{ltb}
use borrow.Author.Tests.{lt-ltb, le-ltb, ltb-true, ltb-false}
use Rattle.packet.proofs.header.is_too_long.Goals as goal

over : (n : ℕ) → ltb 65532 n ≡ ltb 65535 (3 + n)
over n = by (ltb 65532 n) refl
  where
    by : (x : Bool) → ltb 65532 n ≡ x → ltb 65532 n ≡ ltb 65535 (3 + n)
    by true e = e ∙ sym (lt-ltb 65535 (3 + n) (omega (arith, ltb-true 65532 n e)))
    by false e = e ∙ sym (le-ltb 65535 (3 + n) (omega (arith, ltb-false 65532 n e)))

pub returns-in-Unicode : goal.returns-in-Unicode
returns-in-Unicode c = rw c.in-Unicode.is (over c.args.n)

pub returns-in-Bytes : goal.returns-in-Bytes
returns-in-Bytes c = rw c.in-Bytes.is (over c.args.n)
