-- Bytes written into a lent store (docs/PROTOCOL.md#stores): all of them, or none, and then the store is as it was. A writer's answer has
-- its number.
use Rattle.std.specs.Prelude.{ℕ, ◌+◌, List, Bool, length, ltb}
use Rattle.std.proofs.Math.Seq.{paste}
use Rattle.base.specs.Pick.{pick}
use Rattle.packet.specs.declared.tlv.Wrote.{Wrote}
use Rattle.packet.specs.declared.tlv.Wrote.TheVariants.{Written, TooLong, BadValue, Short}
use Rattle.packet.specs.declared.store.LengthField.{LengthField}
use Rattle.packet.specs.declared.store.LengthField.TheVariants.{OneByte, TwoBytes}

-- The number of an answer: 7, a header or packet over 65,535 bytes; 8, a value over 255 bytes; 10, a store too short; none (0) if the bytes
-- were written.
abbrev pub wrote_number : Wrote → ℕ
wrote_number (Written n) = 0
wrote_number TooLong = 7
wrote_number BadValue = 8
wrote_number Short = 10

-- A writer's answer, its number, and the store afterwards.
pub record Putting : Type 0 where
  pub answer : Wrote
  pub number : ℕ
  pub store : List ℕ

-- What a writer promises, by its answer `r` and the store `s` afterwards.
abbrev pub putting : Wrote → List ℕ → Putting
putting r s = record { answer = r; number = wrote_number r; store = s }

-- What the writers' definitions say: the answer `r` with the number `n`, and the store `s`.
abbrev pub numbered : ℕ → Wrote → List ℕ → Putting
numbered n r s = record { answer = r; number = n; store = s }

-- The store `d` with the bytes `l` from `at` on.
abbrev pub laid : List ℕ → ℕ → List ℕ → List ℕ
laid d at l = paste d at l (length l)

-- The answer to bytes that are longer than their length field can say.
abbrev pub overlong_for : LengthField → Wrote
overlong_for OneByte = BadValue
overlong_for TwoBytes = TooLong

-- The number of the answer to bytes that are longer than their length field can say.
abbrev pub overlong_number : LengthField → ℕ
overlong_number OneByte = 8
overlong_number TwoBytes = 7

-- Whether `need` bytes fit at `at` of a store of `len` bytes: a store that is too short is told before what else forbids them.
unfoldable pub room_of : ℕ → ℕ → ℕ → LengthField → Bool → Wrote
room_of len at need f overlong = pick (ltb len (at + need)) Short (pick overlong (overlong_for f) (Written (at + need)))

-- The bytes go to `at` of the store; if they are refused, the store stays as it was. The field `f` says how long they are, unless they are
-- `overlong`.
unfoldable pub placed : List ℕ → ℕ → LengthField → Bool → List ℕ → Putting
placed store at f overlong bytes =
    pick (ltb (length store) (at + length bytes)) (numbered 10 Short store)
    (pick overlong (numbered (overlong_number f) (overlong_for f) store)
    (numbered 0 (Written (at + length bytes)) (laid store at bytes)))
