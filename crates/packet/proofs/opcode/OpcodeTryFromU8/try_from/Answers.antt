-- `packet::opcode`: the opcode of a number meets its contract: at a key both sides compute, and the other arms pass all eight tests.
-- Assumes nothing.
use native.Mathlib.Omega.{arith}
use mathlib.Core.Bool.{◌&&◌}
use mathlib.Core.Path.{◌≡◌}
use Prim.Native.Nat.{ℕ}
use borrow.Author.Tests.{ne_eqb, le-leb, lt-leb}
use Rattle.std.proofs.Common.{◌≢◌}
use Rattle.std.specs.Prelude.{Ok, Err}
use lib.Dec.{leb}
use Rattle.base.specs.Pick.{pick}
use Rattle.packet.specs.declared.opcode.Opcode.TheVariants.{UserDefined}
use Rattle.packet.specs.FirstByte.{opcode_numbered}
use Rattle.packet.proofs.opcode.OpcodeTryFromU8.try_from.Goals as goal

-- a number that is none of the eight
others : (x : ℕ) → x ≢ 0 → x ≢ 1 → x ≢ 2 → x ≢ 3 → x ≢ 5 → x ≢ 6 → x ≢ 7 → x ≢ 127
    → opcode_numbered x ≡ pick (leb 0x10 x && leb x 0x1F) (Ok (UserDefined x)) (Err (record {}))
unfolding opcode_numbered
others x a b d e f g h i =
    simp (ne_eqb x 0 a, ne_eqb x 1 b, ne_eqb x 2 d, ne_eqb x 3 e, ne_eqb x 5 f, ne_eqb x 6 g, ne_eqb x 7 h, ne_eqb x 127 i)

pub returns-in_default : goal.returns-in_default
returns-in_default c =
    let x = c.args.value in
    rw (others x (λ q. omega arith) (λ q. omega arith) (λ q. omega arith) (λ q. omega arith) (λ q. omega arith) (λ q. omega arith) (λ q. omega arith) (λ q. omega arith))
    (simp (lt-leb 16 x (omega arith)))

pub returns-in_default-2 : goal.returns-in_default-2
returns-in_default-2 c =
    let x = c.args.value in
    rw (others x (λ q. omega arith) (λ q. omega arith) (λ q. omega arith) (λ q. omega arith) (λ q. omega arith) (λ q. omega arith) (λ q. omega arith) (λ q. omega arith))
    (simp (le-leb 16 x (omega arith), lt-leb x 31 (omega arith)))

pub returns-in-16-to-31 : goal.returns-in-16-to-31
returns-in-16-to-31 c =
    let x = c.args.value in
    rw (others x (λ q. omega arith) (λ q. omega arith) (λ q. omega arith) (λ q. omega arith) (λ q. omega arith) (λ q. omega arith) (λ q. omega arith) (λ q. omega arith))
    (simp (le-leb 16 x (omega arith), le-leb x 31 (omega arith)))

pub returns-in-0 : goal.returns-in-0
unfolding opcode_numbered
returns-in-0 c = rw c.in-0.is

pub returns-in-1 : goal.returns-in-1
unfolding opcode_numbered
returns-in-1 c = rw c.in-1.is

pub returns-in-2 : goal.returns-in-2
unfolding opcode_numbered
returns-in-2 c = rw c.in-2.is

pub returns-in-3 : goal.returns-in-3
unfolding opcode_numbered
returns-in-3 c = rw c.in-3.is

pub returns-in-5 : goal.returns-in-5
unfolding opcode_numbered
returns-in-5 c = rw c.in-5.is

pub returns-in-6 : goal.returns-in-6
unfolding opcode_numbered
returns-in-6 c = rw c.in-6.is

pub returns-in-7 : goal.returns-in-7
unfolding opcode_numbered
returns-in-7 c = rw c.in-7.is

pub returns-in-127 : goal.returns-in-127
unfolding opcode_numbered
returns-in-127 c = rw c.in-127.is
