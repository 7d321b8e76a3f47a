-- What crosses to C of what the readers and writers of `packet` and `text` answer: a place, a number with an end, a challenge.
use Rattle.std.specs.Prelude.{ℕ, List, Bool, true, false, Option as Maybe}
use Rattle.base.specs.Place.{Place as Found, Some, None}
use Rattle.std.specs.Prelude.{Result, Ok, Err}
use Rattle.base.specs.declared.Short.{Short}
use Rattle.text.specs.Text.{Stored, decoded_number}
use Rattle.packet.specs.declared.tlv.Wrote.{Wrote}
use Rattle.packet.specs.declared.tlv.Wrote.TheVariants as wrote
use Rattle.packet.specs.declared.auth.DigestChallenge.{DigestChallenge}
use Rattle.packet.specs.Placed.{Putting, wrote_number}
use Rattle.headers_c.specs.declared.Place.{Place}
use Rattle.headers_c.specs.declared.Answer.{Answer}
use Rattle.headers_c.specs.declared.Challenge.{Challenge}

-- ---- places

-- The place from `start` up to `end`, `n` is 1, or none, and then all three are 0.
abbrev pub place_at : ℕ → ℕ → ℕ → Place
place_at n start end = record { found = n; start = start; end = end }

abbrev pub place_of : Found → Place
place_of (Some p) = place_at 1 p.start p.end
place_of None = place_at 0 0 0

-- ---- answers

-- The number of an answer, 0 if bytes were written, and where they end, 0 if there are none.
abbrev pub answer_with : ℕ → ℕ → Answer
answer_with n end = record { number = n; end = end }

-- Where the bytes of a header end.
abbrev pub end_of_wrote : Wrote → ℕ
end_of_wrote (wrote.Written n) = n
end_of_wrote wrote.TooLong = 0
end_of_wrote wrote.BadValue = 0
end_of_wrote wrote.Short = 0

-- The answer of a writer of headers.
abbrev pub answer_of : Wrote → Answer
answer_of w = answer_with (wrote_number w) (end_of_wrote w)

-- Where a text ends.
abbrev pub end_of_text : Result ℕ Short → ℕ
end_of_text (Ok n) = n
end_of_text (Err e) = 0

-- The answer of a reader of text.
abbrev pub text_answer_of : Result ℕ Short → Answer
text_answer_of d = answer_with (decoded_number d) (end_of_text d)

-- What C gets: the answer, and the store afterwards.
pub record Given : Type 0 where
  pub answer : Answer
  pub store : List ℕ

-- Makes a `Given`.
abbrev pub given_to_c : Answer → List ℕ → Given
given_to_c a s = record { answer = a; store = s }

-- What a writer of headers gives.
abbrev pub given_putting : Putting → Given
given_putting p = given_to_c (answer_of p.answer) p.store

-- What a reader of text gives.
abbrev pub given_text : Stored → Given
given_text t = given_to_c (text_answer_of t.answer) t.store

-- ---- challenges

-- The number of a flag.
abbrev pub flag_number : Bool → ℕ
flag_number true = 1
flag_number false = 0

-- A challenge: whether it could be read, its nonce in two halves, two flags, and the place of its realm.
abbrev pub challenge_with : ℕ → ℕ → ℕ → ℕ → ℕ → Place → Challenge
challenge_with readable first second user only realm =
    record {
      readable = readable;
      first = first;
      second = second;
      user_id_required = user;
      read_only = only;
      has_realm = realm.found;
      realm_start = realm.start;
      realm_end = realm.end;
    }

-- What C is told of a challenge.
abbrev pub challenge_told : Maybe DigestChallenge → Challenge
challenge_told (Some c) =
    challenge_with 1 c.nonce.first c.nonce.second (flag_number c.user_id_required) (flag_number c.read_only) (place_of c.realm)
challenge_told None = challenge_with 0 0 0 0 0 (place_at 0 0 0)
