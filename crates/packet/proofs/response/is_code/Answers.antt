-- `packet::response::is_code` meets its contract: each run of numbers that an arm takes is tested against the table. Assumes nothing.
use mathlib.Core.Path.{◌≡◌, sym}
use mathlib.Core.Bool.{true, false}
use Prim.Native.Nat.{ℕ, ◌<◌}
use native.Mathlib.Omega.{arith}
use borrow.Author.Tests.{ne_eqb}
use lib.Dec.{eqb}
use Rattle.base.specs.Pick.{pick}
use Rattle.packet.specs.Codes.{codes, is_code}
use Rattle.base.proofs.Below.{run}
use Rattle.packet.proofs.response.is_code.Goals as goal

-- below 0x20 there is one code
low-test : (b : ℕ) → b < 0x20 → pick (eqb b 0x10) false (is_code b) ≡ false
unfolding codes is_code
low-test b h = run (λ b. pick (eqb b 0x10) false (is_code b)) false 0 0x1F tt b (omega arith) (omega arith)

low : (b : ℕ) → b < 0x20 → (b ≡ 0x10 → ⊥) → is_code b ≡ false
low b h n = rw (ne_eqb b 0x10 n) at (low-test b h)

pub returns-in-16 : goal.returns-in-16
unfolding codes is_code
returns-in-16 c = sym (run is_code true 0x10 0x10 tt c.args.b (omega arith) (omega arith))

pub returns-in-16-2 : goal.returns-in-16-2
unfolding codes is_code
returns-in-16-2 c = sym (run is_code true 0x20 0x26 tt c.args.b (omega arith) (omega arith))

pub returns-in-16-3 : goal.returns-in-16-3
unfolding codes is_code
returns-in-16-3 c = sym (run is_code true 0x30 0x35 tt c.args.b (omega arith) (omega arith))

pub returns-in-16-4 : goal.returns-in-16-4
unfolding codes is_code
returns-in-16-4 c = sym (run is_code true 0x40 0x55 tt c.args.b (omega arith) (omega arith))

pub returns-in-16-5 : goal.returns-in-16-5
unfolding codes is_code
returns-in-16-5 c = sym (run is_code true 0x60 0x61 tt c.args.b (omega arith) (omega arith))

pub returns-in_default : goal.returns-in_default
returns-in_default c = sym (low c.args.b (omega arith) c.in_default.in_default-own.rest.1)

pub returns-in_default-2 : goal.returns-in_default-2
unfolding codes is_code
returns-in_default-2 c = sym (run is_code false 0x27 0x2F tt c.args.b (omega arith) (omega arith))

pub returns-in_default-3 : goal.returns-in_default-3
unfolding codes is_code
returns-in_default-3 c = sym (run is_code false 0x36 0x3F tt c.args.b (omega arith) (omega arith))

pub returns-in_default-4 : goal.returns-in_default-4
unfolding codes is_code
returns-in_default-4 c = sym (run is_code false 0x56 0x5F tt c.args.b (omega arith) (omega arith))

pub returns-in_default-5 : goal.returns-in_default-5
unfolding codes is_code
returns-in_default-5 c = sym (run is_code false 0x62 0xFF tt c.args.b (omega arith) (omega arith))
