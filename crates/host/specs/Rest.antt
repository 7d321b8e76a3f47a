-- The part of an input store that is left, and the number at which a session is over.
use Rattle.std.specs.Prelude.{ℕ, ◌≤◌}
use Rattle.server.specs.Numbers.{end_number, refusal_number}
use Rattle.server.specs.declared.Outcome.{Outcome}
use Rattle.server.specs.declared.Outcome.TheVariants as outcome
use Rattle.host.specs.declared.feed.Rest.{Rest}

-- What is left lies in a store of `n` bytes.
abbrev pub Within : Rest → ℕ → Type 0
Within r n = (r.at ≤ r.end) × (r.end ≤ n)

-- The number of the end or of the refusal with which the session is over, or 0 while it goes on.
abbrev pub ended_by : Outcome → ℕ
ended_by outcome.WantsBytes = 0
ended_by (outcome.Reply n) = 0
ended_by (outcome.Request r) = 0
ended_by (outcome.End x) = end_number x
ended_by (outcome.Refused r) = refusal_number r
