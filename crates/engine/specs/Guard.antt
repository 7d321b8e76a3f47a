-- Which calls are refused, by the state and the lengths of the lent stores alone: what the model's `guarded` comes to.
-- `proofs/Guards.antt` says so.
use Rattle.std.specs.Prelude.{ℕ, Bool, ◌&&◌, ◌||◌, ltb, Result, Ok, Err}
use Rattle.packet.specs.Limits.{max_packet}
use Rattle.base.specs.Pick.{pick}
use Rattle.table.specs.Places.{table_length}
use Rattle.model.specs.Step.{limit_of}
use Rattle.model.specs.Guard.{sound, fits}
use Rattle.server.specs.declared.CallKind.{CallKind}
use Rattle.server.specs.declared.Refusal.{Refusal}
use Rattle.server.specs.declared.Refusal.TheVariants as refusal
use Rattle.server.specs.declared.Engine.{Engine}
use Rattle.server.specs.declared.Outcome.TheVariants as outcome
use Rattle.server.specs.declared.CallResult.{CallResult}

-- What the guard says of a call: that it may proceed, or why it is refused.
abbrev pub Verdict : Type 0
Verdict = Result (Unit {0}) Refusal

abbrev pub proceed : Verdict
proceed = Ok tt

abbrev pub refuses : Refusal → Verdict
refuses r = Err r

-- One of the four stores is too short, by the lengths `p`, `h`, `b` and `y` of packet, headers, body and reply.
unfoldable pub short_by : ℕ → ℕ → ℕ → ℕ → ℕ → Bool
short_by limit p h b y = ltb p max_packet || (ltb h max_packet || (ltb y max_packet || ltb b limit))

-- The guard refuses a call of kind `k` for a short store before it looks at the moment.
unfoldable pub guarded_by : CallKind → Engine → ℕ → ℕ → ℕ → ℕ → Verdict
guarded_by k e p h b y =
    pick (short_by (limit_of e) p h b y) (refuses refusal.StoreTooShort)
    (pick (sound e && fits k e.awaits) proceed (refuses refusal.WrongMoment))

-- The guard of a call that is lent the table store tests its length `t` too.
unfoldable pub guarded_lent : CallKind → Engine → ℕ → ℕ → ℕ → ℕ → ℕ → Verdict
guarded_lent k e t p h b y =
    pick (ltb t table_length || short_by (limit_of e) p h b y) (refuses refusal.StoreTooShort)
    (pick (sound e && fits k e.awaits) proceed (refuses refusal.WrongMoment))

-- A refused call returns the state as it was.
abbrev pub refused_with : Refusal → Engine → CallResult
refused_with r e = record { engine = e; taken = 0; outcome = outcome.Refused r }

-- The guard refuses a start for a short store before it looks whether the realm is too `long`.
unfoldable pub guarded_start : ℕ → Bool → ℕ → ℕ → ℕ → ℕ → ℕ → Verdict
guarded_start limit long t p h b y =
    pick (ltb t table_length || short_by limit p h b y) (refuses refusal.StoreTooShort) (pick long (refuses refusal.BadAnswer) proceed)

-- The guard refuses a nonce if the realm is too `long`, then if the nonce was `used`.
unfoldable pub guarded_nonce : Bool → Bool → Verdict
guarded_nonce long used = pick long (refuses refusal.BadAnswer) (pick used (refuses refusal.NonceUsed) proceed)
