-- The numbers of ends and refusals (docs/PROTOCOL.md#ends, #refusals): 1 to 7 end the engine; 8 to 10, 15, and 19 to 21 refuse a call. What
-- the engine waits for has a number too.
use Rattle.std.specs.Prelude.{ℕ, eqb}
use Rattle.base.specs.Pick.{pick}
use Rattle.server.specs.declared.Await.{Await}
use Rattle.server.specs.declared.Await.TheVariants as await
use Rattle.server.specs.declared.End.{End}
use Rattle.server.specs.declared.End.TheVariants as end
use Rattle.server.specs.declared.Refusal.{Refusal}
use Rattle.server.specs.declared.Refusal.TheVariants as refusal

-- The number of an end (docs/PROTOCOL.md#ends).
abbrev pub end_number : End → ℕ
end_number end.Disconnected = 1
end_number end.Truncated = 2
end_number end.LengthTooSmall = 3
end_number end.Unreadable = 4
end_number end.OtherOperation = 5
end_number end.HeadersTooLarge = 6
end_number end.ReplyTooLarge = 7

-- The number of a refusal (docs/PROTOCOL.md#refusals).
abbrev pub refusal_number : Refusal → ℕ
refusal_number refusal.BadAnswer = 8
refusal_number refusal.WrongMoment = 9
refusal_number refusal.StoreTooShort = 10
refusal_number refusal.NonceUsed = 15
refusal_number refusal.TooManyIds = 19
refusal_number refusal.IdNotOpen = 20
refusal_number refusal.IdRepeated = 21

-- A number for each thing awaited, by which two of them are told apart.
abbrev pub await_number : Await → ℕ
await_number await.Bytes = 0
await_number await.Taken = 1
await_number await.Last = 2
await_number await.Connect = 3
await_number await.Disconnect = 4
await_number await.Get = 5
await_number await.Reply = 6
await_number await.Acknowledgement = 7
await_number await.Password = 8
await_number await.Nonce = 9
await_number await.Credentials = 10
await_number await.Body = 11
await_number await.Nothing = 12

-- What is awaited, by its number.
unfoldable pub await_of : ℕ → Await
await_of n =
    pick (eqb n 0) await.Bytes
    (pick (eqb n 1) await.Taken
    (pick (eqb n 2) await.Last
    (pick (eqb n 3) await.Connect
    (pick (eqb n 4) await.Disconnect
    (pick (eqb n 5) await.Get
    (pick (eqb n 6) await.Reply
    (pick (eqb n 7) await.Acknowledgement
    (pick (eqb n 8) await.Password
    (pick (eqb n 9) await.Nonce
    (pick (eqb n 10) await.Credentials
    (pick (eqb n 11) await.Body await.Nothing)))))))))))
