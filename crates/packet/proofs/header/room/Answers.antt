-- `packet::header::room` meets its contract: the tests are those of `room_for`, cut so that no sum wraps. Assumes nothing.
use native.Mathlib.Omega.{arith}
use mathlib.Core.Path.{◌≡◌, sym, ◌∙◌}
use mathlib.Core.Bool.{Bool}
use Prim.Native.Nat.{ℕ, ◌+◌, ◌<◌, ◌≤◌}
use borrow.Author.Tests.{lt-ltb, le-ltb}
use Rattle.base.specs.Pick.{pick}
use Rattle.packet.specs.declared.header.HeaderEncoding.{HeaderEncoding}
use Rattle.packet.specs.declared.tlv.Wrote.TheVariants.{Written, TooLong, Short}
use Rattle.packet.specs.Placed.{room_of}
use Rattle.packet.specs.Header.{lead_of}
use Rattle.packet.specs.HeaderWriter.{too_long_of, room_for}
use Rattle.packet.proofs.header.room.Goals as goal

short_by_lem : (e : HeaderEncoding) (len at n : ℕ) → len < at + lead_of e + n → room_for e len at n ≡ Short
unfolding room_for room_of
short_by_lem e len at n h = simp (lt-ltb len (at + (lead_of e + n)) (omega arith))

fits_by : (e : HeaderEncoding) (len at n lead : ℕ) (x : Bool) → lead ≡ lead_of e → at + lead + n ≤ len → x ≡ too_long_of e n
    → room_for e len at n ≡ pick x TooLong (Written (at + lead + n))
unfolding room_for room_of
fits_by e len at n lead x l h q =
    let m : at + (lead_of e + n) ≡ at + lead + n = omega arith in
    simp (m, le-ltb len (at + lead + n) h, ← q)

pub returns-then-len-at : goal.returns-then-len-at
returns-then-len-at c = sym (short_by_lem _ _ _ _ (omega arith))

pub returns-then-len-at-2 : goal.returns-then-len-at-2
returns-then-len-at-2 c = sym (short_by_lem _ _ _ _ (omega (arith, c.lead-first.ensures.0)))

pub returns-then-len-at-3 : goal.returns-then-len-at-3
returns-then-len-at-3 c = sym (short_by_lem _ _ _ _ (omega (arith, c.lead-first.ensures.0)))

pub returns-then-is_too_long : goal.returns-then-is_too_long
returns-then-is_too_long c =
    sym (fits_by _ _ _ _ _ _ c.lead-first.ensures.0 (omega arith) c.is_too_long.ensures ∙ simp c.if-is_too_long.true)

pub returns : goal.returns
returns c =
    sym (fits_by _ _ _ _ _ _ c.lead-first.ensures.0 (omega arith) c.is_too_long.ensures ∙ simp c.if-is_too_long.false)
