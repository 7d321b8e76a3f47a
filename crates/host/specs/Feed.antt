-- What one offer of the peer's bytes comes to. The host keeps an input store and the part of it that the engine has not taken yet. If
-- nothing is left, standard input is read once; what is left then is offered, or the stream has ended. The call is that of the model, and
-- the part moves on by as many bytes as the call took.
use Rattle.std.specs.Prelude.{ℕ, ◌+◌, ◌-◌, Bool, true, false, ◌&&◌, List, [], ◌∷◌, ◌≡◌, length, take, drop, ltb, leb}
use Rattle.base.specs.Pick.{pick}
use Rattle.journal.specs.Calls.{Call, bytes_offered_of, stream_ended_of}
use Rattle.model.specs.Step.{Stores, stepped, called}
use Rattle.model.specs.Runs.{Says}
use Rattle.server.specs.declared.Engine.{Engine}
use Rattle.host.specs.Rest.{Within}
use Rattle.host.specs.declared.feed.Rest.{Rest}
use Rattle.host.specs.declared.feed.Step.{Step}

-- The bytes of the store `i` that are left.
abbrev pub left : Rest → List ℕ → List ℕ
left r i = take (r.end - r.at) (drop r.at i)

-- Whether some bytes are left, and lie in the store `i`.
abbrev pub has_left : Rest → List ℕ → Bool
has_left r i = ltb r.at r.end && leb r.end (length i)

-- How long an input store is of which a read fills 65,536 bytes: the constant `INPUT` of the code, by the contract of `front_of`.
abbrev pub input_length : ℕ
input_length = 67584

-- How many bytes at the front of a store of `input_length` bytes stay unused: the constant `LEAD` of the code, by the contract of
-- `front_of`.
abbrev pub lead : ℕ
lead = 2048

-- Where a read begins in a store of `n` bytes: behind half a page, if the store is as long as `INPUT`.
unfoldable pub front_of : ℕ → ℕ
front_of n = pick (ltb n input_length) 0 lead

-- A read of standard input turns the store `i` into `j`, and leaves the part `r` to be offered. Which bytes come is the kernel's to say;
-- what lies in front of them stays.
pub record Reads (i : List ℕ) (r : Rest) (j : List ℕ) : Type 0 where
  pub begins : r.at ≡ front_of (length i)
  pub within : Within r (length j)
  pub same_length : length j ≡ length i
  pub front : take r.at j ≡ take r.at i

-- Bytes that are left stay, with their store; otherwise there is a read.
abbrev pub RefilledBy : Bool → Rest → List ℕ → Rest → List ℕ → Type 0
RefilledBy true r i q j = (q ≡ r) × (j ≡ i)
RefilledBy false r i q j = Reads i q j

-- From the part `r` of the store `i` comes the part `q` of the store `j`.
abbrev pub Refilled : Rest → List ℕ → Rest → List ℕ → Type 0
Refilled r i q j = RefilledBy (has_left r i) r i q j

-- The call that is made with the bytes that are left.
abbrev pub offer : List ℕ → Call
offer [] = stream_ended_of
offer (x ∷ xs) = bytes_offered_of (x ∷ xs)

-- What is left once `n` bytes are taken.
abbrev pub moved_on : Rest → ℕ → Rest
moved_on r n = record { at = r.at + n; end = r.end }

-- The engine `e` was offered the part `r` of the store `i`, with the four stores `s` and the table store `t`. It came to the step `x`, the
-- input store `j` and the four stores `z`. Between them lies the part that was offered, `offered`. `says` is what the call's contract says,
-- so that the call is one of a run of the records theorem.
pub record Feeds (e : Engine) (r : Rest) (i : List ℕ) (s : Stores) (t : List ℕ) (x : Step) (j : List ℕ) (z : Stores) : Type 0 where
  pub offered : Rest
  pub refilled : Refilled r i offered j
  pub says : Says (record { engine = e; stores = s; tables = t }) (offer (left offered j)) (called (stepped x.took z) t)
  pub rest : x.rest ≡ moved_on offered x.took.taken
  pub within : Within x.rest (length j)
