-- `reception::note::total` meets its contract: the sum is made only if it is within a packet's length. Assumes nothing.
use borrow.Author.Tests.{le-leb, lt-leb}
use mathlib.Core.Path.{◌≡◌}
use Prim.Native.Nat.{ℕ, ◌+◌, ◌≤◌, ◌<◌}
use native.Mathlib.Omega.{arith}
use Rattle.reception.specs.Notes.{total}
use Rattle.reception.proofs.note.total.Goals as goal

past : (a b : ℕ) → 65535 < a + b → 65535 ≡ total a b
unfolding total
past a b h = simp (lt-leb (a + b) 65535 h)

within : (a b : ℕ) → a + b ≤ 65535 → a + b ≡ total a b
unfolding total
within a b h = simp (le-leb (a + b) 65535 h)

pub returns-then-begun-gt-MAX_PACKET : goal.returns-then-begun-gt-MAX_PACKET
returns-then-begun-gt-MAX_PACKET c = let h = c.if-begun-gt-MAX_PACKET.true in past c.args.begun c.args.taken (omega (arith, h))

pub returns-then-begun-taken : goal.returns-then-begun-taken
returns-then-begun-taken c =
    let h = c.if-begun-gt-MAX_PACKET.false in
    let k = c.if-begun-taken.true in
    past c.args.begun c.args.taken (omega (arith, h, k))

pub returns : goal.returns
returns c =
    let h = c.if-begun-gt-MAX_PACKET.false in
    let k = c.if-begun-taken.false in
    within c.args.begun c.args.taken (omega (arith, h, k))
