-- Only the host's replies and the call that closes ids together open and close any: every other call leaves them as they were. Assumes nothing.
use mathlib.Core.Path.{◌≡◌, refl}
use mathlib.Core.Bool.{Bool, true, false, true≢false}
use mathlib.Core.List.{List}
use mathlib.Core.Option.{Option, none, some}
use Prim.Native.Nat.{ℕ}
use lib.Dec.{eqb}
use Rattle.base.specs.Pick.{pick}
use Rattle.packet.specs.FirstByte.{same_opcode}
use Rattle.packet.specs.Packet.{Request, request_of}
use Rattle.packet.specs.declared.opcode.Opcode.{Opcode}
use Rattle.packet.specs.declared.opcode.Opcode.TheVariants.{Connect, Disconnect, Put, Get, SetPath, Action, Session, Abort, UserDefined}
use Rattle.journal.specs.Record.{Record, joined, carried_by}
use Rattle.journal.specs.Calls.{Call, bytes_offered_of, stream_ended_of, reply_taken_of, reply_given_of, object_given_of, body_given_of, body_failed_of, abort_acknowledged_of, password_given_of, nonce_given_of, credentials_given_of, connections_closed_of, no_step, step_by_of, reply_sent}
use Rattle.journal.specs.Journal.{Standing, Opened, nothing, trailing, putting, getting, sending, gathering, draining, busy, Journal, Entry, admitted, is_stopped, trails, put_read, first_read, request_read, packet_read, journal_packet, Read, more, whole, short, read_up, bytes_read, object_sent, taken_at, opens, password_checked, passes, journal_call, journal_step}

-- the call may open or close ids
abbrev pub changes_ids : Call → Bool
changes_ids (reply_given_of code hs) = true
changes_ids (connections_closed_of l) = true
changes_ids (bytes_offered_of i) = false
changes_ids stream_ended_of = false
changes_ids reply_taken_of = false
changes_ids (object_given_of hs b) = false
changes_ids (body_given_of d) = false
changes_ids body_failed_of = false
changes_ids abort_acknowledged_of = false
changes_ids (password_given_of p) = false
changes_ids (nonce_given_of n l) = false
changes_ids (credentials_given_of c) = false

-- ---- packets

module _ (j : Journal) where
  abbrev ids : List ℕ
  ids = j.standing.ids

  abbrev Same : Entry → Type 0
  Same x = x.next.standing.ids ≡ ids

  either_same : (t : Bool) (x y : Entry) → Same x → Same y → Same (pick t x y)
  either_same true x y a b = a
  either_same false x y a b = b

  put_same : (r : Request) (s n : Bool) (c : Record) → Same (put_read j r s n c)
  unfolding put_read
  put_same r s n c = either_same r.final _ _ refl refl

  stopped-same : (t : Bool) (x y : Standing) → x.ids ≡ ids → y.ids ≡ ids → (pick t x y).ids ≡ ids
  stopped-same true x y a b = a
  stopped-same false x y a b = b

  first-same : (o : Opcode) (r : Request) → Same (first_read o j r)
  unfolding first_read
  first-same Connect r = stopped-same (is_stopped j.settings j.standing r) _ _ refl refl
  first-same Disconnect r = refl
  first-same SetPath r = refl
  first-same Abort r = refl
  first-same Put r = either_same (admitted j.settings j.standing r) _ _ (put_same r _ _ _) refl
  first-same Get r = either_same (admitted j.settings j.standing r) _ _ refl refl
  first-same Action r = either_same (admitted j.settings j.standing r) _ _ refl refl
  first-same Session r = either_same (admitted j.settings j.standing r) _ _ refl refl
  first-same (UserDefined x) r = either_same (admitted j.settings j.standing r) _ _ refl refl

  request-same : (o : Opened) (r : Request) → Same (request_read o j r)
  request-same nothing r = first-same r.opcode r
  request-same trailing r = either_same (trails r) _ _ refl (first-same r.opcode r)
  request-same (putting c s) r = either_same (same_opcode r.opcode Put) _ _ (put_same r s s (joined c (carried_by r.headers))) refl
  request-same (getting k) r = either_same (same_opcode r.opcode Get) _ _ refl refl
  request-same sending r = either_same (same_opcode r.opcode Get) _ _ refl refl
  request-same (gathering o k) r = either_same (same_opcode r.opcode o) _ _ refl refl
  request-same draining r = refl

  read_same : (x : Option Request) → Same (packet_read x j)
  read_same none = either_same (busy j.opened) _ _ refl refl
  read_same (some r) = either_same (same_opcode r.opcode Abort) _ _ refl (request-same j.opened r)

  bytes_same : (r : Read) → Same (bytes_read j r)
  unfolding journal_packet
  bytes_same (more p) = refl
  bytes_same (whole p) = read_same (request_of p)
  bytes_same short = refl

  -- ---- the other calls

  sent-same : (o : Opened) → (object_sent o j).standing.ids ≡ ids
  sent-same nothing = refl
  sent-same trailing = refl
  sent-same (putting c s) = refl
  sent-same (getting k) = refl
  sent-same sending = refl
  sent-same (gathering o k) = refl
  sent-same draining = refl

  checked-same : (t : Bool) → (password_checked j.standing t).ids ≡ ids
  checked-same true = refl
  checked-same false = refl

  call_same : (c : Call) → changes_ids c ≡ false → Same (journal_call j c)
  call_same (reply_given_of code hs) e = absurd (true≢false e)
  call_same (connections_closed_of l) e = absurd (true≢false e)
  call_same (bytes_offered_of i) e = bytes_same (read_up j.begun i)
  call_same stream_ended_of e = refl
  call_same reply_taken_of e = refl
  call_same (object_given_of hs b) e = sent-same j.opened
  call_same (body_given_of d) e = refl
  call_same body_failed_of e = refl
  call_same abort_acknowledged_of e = refl
  call_same (password_given_of p) e = checked-same (passes j p)
  call_same (nonce_given_of n l) e = refl
  call_same (credentials_given_of c) e = refl

  taken-same : (o : Opened) (b : ℕ) → (taken_at o j b).standing.ids ≡ ids
  taken-same nothing b = refl
  taken-same trailing b = refl
  taken-same (putting c s) b = refl
  taken-same (getting k) b = refl
  taken-same sending b = go (eqb b 0x90)
    where
      go : (t : Bool) → (pick t j (opens j nothing)).standing.ids ≡ ids
      go true = refl
      go false = refl
  taken-same (gathering o k) b = refl
  taken-same draining b = refl

  pub refused-ids : Same (journal_step j no_step)
  unfolding journal_step
  refused-ids = refl

  pub step-ids : (c : Call) → changes_ids c ≡ false → Same (journal_step j (step_by_of c))
  unfolding journal_step
  step-ids c e = either_same j.ended _ _ refl (call_same c e)

  pub sent-ids : (b : ℕ) → Same (journal_step j (reply_sent b))
  unfolding journal_step
  sent-ids b = either_same j.ended _ _ refl (taken-same j.opened b)
