-- `incoming::frame::read_placed` meets its contract. The bytes end where the store or their count does; the packet ends at `stop` or goes on
-- (`BytesPlaced`).
use native.Mathlib.Omega.{arith}
use borrow.Author.Tests.{lt-ltb, le-ltb}
use mathlib.Core.Path.{◌≡◌, refl, sym, ap, ◌∙◌}
use mathlib.Core.Bool.{Bool}
use mathlib.Core.List.{List}
use Prim.Native.Nat.{ℕ, ◌+◌, ◌-◌, ◌≤◌, ◌<◌}
use lib.ListN.{length}
use Rattle.base.specs.Pick.{pick}
use Rattle.base.specs.Bytes.{be16}
use Rattle.incoming.specs.declared.frame.Frame.{Frame}
use Rattle.incoming.specs.declared.frame.Frame.TheVariants.{More, Whole, Short}
use Rattle.incoming.specs.Frame.{framed, frames, placed_in}
use Rattle.incoming.proofs.BytesPlaced.{EndsAt, ending_of, goes_on, ends_there, up_to}
use Rattle.incoming.proofs.frame.read_placed.Goals as goal

-- what has come, by equal numbers
framed_at : (p : List ℕ) {b c t u : ℕ} {f : Frame} → b ≡ c → t ≡ u
    → frames (record { begun = b; taken = t; frame = f }) p ≡ frames (record { begun = c; taken = u; frame = f }) p
framed_at p e g = rw (e, g)

-- how a packet ends, by whether its length is under 3
abbrev pickEnding : Bool → Frame
pickEnding b = pick b Short Whole

-- the bytes up to `e` are all that were placed, and a packet that has begun ends at `z`
module _ (p : List ℕ) (b n e z : ℕ) (s : EndsAt p b z) (all : placed_in p b n ≡ placed_in p b (e - b)) (u : b ≤ e) (v : e ≤ length p) where
  goes : e < z → frames (record { begun = e; taken = e - b; frame = More }) p ≡ framed p b 0 (placed_in p b n)
  goes h =
      sym
      (ap (framed p b 0) all
      ∙ goes_on p (e - b) b 0 z s (omega arith) (omega arith)
      ∙ framed_at p (omega arith) (omega arith))

  ending : (f : Frame) → z ≤ e → ending_of p ≡ f
      → frames (record { begun = z; taken = z - b; frame = f }) p ≡ framed p b 0 (placed_in p b n)
  ending f h w =
      sym
      (ap (framed p b 0) all
      ∙ ends_there p (e - b) b 0 z s (omega arith) (omega arith)
      ∙ ap (λ (y : Frame). frames (record { begun = z; taken = 0 + (z - b); frame = y }) p) w
      ∙ framed_at p refl (omega arith))

-- where the packet ends, and that the bytes up to `e` are all that were placed
ends_at : (p : List ℕ) (b n z : ℕ) → n ≡ be16 p 1 → (3 ≤ z) × (b < z) × (n ≤ z) × (z ≤ 65535)
    → ((m : ℕ) → 3 ≤ m → b < m → n ≤ m → z ≤ m) → EndsAt p b z
ends_at p b n z w r l =
    record { prefix = r.0; byte = r.1; field = omega (arith, w, r.2); least = λ m a c d. l m a c (omega (arith, w, d)) }

pub returns-then-end-stop-clause-model : goal.returns-then-end-stop-clause-model
returns-then-end-stop-clause-model c =
    let x = c.args in
    let e = c.placed_end-end.ensures in
    let r = c.earliest_end-stop.ensures in
    goes x.packet.now x.begun x.count c.placed_end-end.result c.earliest_end-stop.result
    (ends_at x.packet.now x.begun c.be16_at-n.result c.earliest_end-stop.result c.be16_at-n.ensures.value r.reached r.least)
    (up_to x.packet.now x.begun x.count c.placed_end-end.result e.0 e.1 e.2 e.3) e.0 e.1 c.if-end-stop.true

pub returns-then-n-lt3-clause-model : goal.returns-then-n-lt3-clause-model
returns-then-n-lt3-clause-model c =
    let x = c.args in
    let e = c.placed_end-end.ensures in
    let r = c.earliest_end-stop.ensures in
    let w = c.be16_at-n.ensures.value in
    ending x.packet.now x.begun x.count c.placed_end-end.result c.earliest_end-stop.result
    (ends_at x.packet.now x.begun c.be16_at-n.result c.earliest_end-stop.result w r.reached r.least)
    (up_to x.packet.now x.begun x.count c.placed_end-end.result e.0 e.1 e.2 e.3) e.0 e.1 Short c.if-end-stop.false
    (ap pickEnding (lt-ltb (be16 x.packet.now 1) 3 (omega (arith, w, c.if-n-lt3.true))))

pub returns-else-n-lt3-clause-model : goal.returns-else-n-lt3-clause-model
returns-else-n-lt3-clause-model c =
    let x = c.args in
    let e = c.placed_end-end.ensures in
    let r = c.earliest_end-stop.ensures in
    let w = c.be16_at-n.ensures.value in
    ending x.packet.now x.begun x.count c.placed_end-end.result c.earliest_end-stop.result
    (ends_at x.packet.now x.begun c.be16_at-n.result c.earliest_end-stop.result w r.reached r.least)
    (up_to x.packet.now x.begun x.count c.placed_end-end.result e.0 e.1 e.2 e.3) e.0 e.1 Whole c.if-end-stop.false
    (ap pickEnding (le-ltb (be16 x.packet.now 1) 3 (omega (arith, w, c.if-n-lt3.false))))
