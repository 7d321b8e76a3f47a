-- `packet::store::room` meets its contract: the tests are those of `room_of`, cut so that no sum wraps. Assumes nothing.
use native.Mathlib.Omega.{arith}
use mathlib.Core.Path.{◌≡◌, sym, ◌∙◌}
use mathlib.Core.Bool.{Bool}
use Prim.Native.Nat.{ℕ, ◌+◌, ◌<◌, ◌≤◌}
use borrow.Author.Tests.{lt-ltb, le-ltb}
use Rattle.packet.specs.declared.tlv.Wrote.TheVariants.{Written, Short}
use Rattle.packet.specs.declared.store.LengthField.{LengthField}
use Rattle.base.specs.Pick.{pick}
use Rattle.packet.specs.Placed.{overlong_for, room_of}
use Rattle.packet.proofs.store.room.Goals as goal

short_by_lem : (len at need : ℕ) (f : LengthField) (overlong : Bool) → len < at + need → room_of len at need f overlong ≡ Short
unfolding room_of
short_by_lem len at need f overlong h = simp (lt-ltb len (at + need) h)

fits_by : (len at need : ℕ) (f : LengthField) (overlong : Bool) → at + need ≤ len
    → room_of len at need f overlong ≡ pick overlong (overlong_for f) (Written (at + need))
unfolding room_of
fits_by len at need f overlong h = simp (le-ltb len (at + need) h)

pub returns-then-len-at : goal.returns-then-len-at
returns-then-len-at c = sym (short_by_lem _ _ _ _ _ (omega arith))

pub returns-then-len-at-2 : goal.returns-then-len-at-2
returns-then-len-at-2 c = sym (short_by_lem _ _ _ _ _ (omega arith))

pub returns-then-overlong : goal.returns-then-overlong
returns-then-overlong c = c.overlong_for.ensures ∙ sym (fits_by _ _ _ _ _ (omega arith) ∙ simp c.if-overlong.true)

pub returns : goal.returns
returns c = sym (fits_by _ _ _ _ _ (omega arith) ∙ simp c.if-overlong.false)
