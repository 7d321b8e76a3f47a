-- The checks of a journal keep the rule of eight wrong ones, call by call, if a password is given only while not too many were wrong. That
-- a stop comes only after too many, the journal itself says. Assumes nothing.
use mathlib.Core.Path.{◌≡◌, refl, sym, ap, subst}
use mathlib.Core.Bool.{Bool, true, false, ◌&&◌, ◌||◌, false≢true}
use mathlib.Core.List.{List, [], ◌∷◌}
use mathlib.Core.Option.{Option, none, some}
use Prim.Native.Nat.{ℕ, ◌+◌, ◌%◌, ◌^◌}
use lib.Dec.{leb, eqb}
use lib.ListN.{length}
use Rattle.base.specs.Pick.{pick}
use Rattle.base.specs.Bytes.{be32}
use Rattle.packet.specs.Codes.{is_success}
use Rattle.packet.specs.FirstByte.{same_opcode}
use Rattle.packet.specs.Header.{Header, read_headers, first, present}
use Rattle.packet.specs.Packet.{Request, request_of}
use Rattle.packet.specs.declared.opcode.Opcode.{Opcode}
use Rattle.packet.specs.declared.opcode.Opcode.TheVariants.{Connect, Disconnect, Put, Get, SetPath, Action, Session, Abort, UserDefined}
use Rattle.journal.specs.Record.{Record, joined, carried_by}
use Rattle.journal.specs.Ids.{member, without, without_all, new_id}
use Rattle.journal.specs.Calls.{Call, bytes_offered_of, stream_ended_of, reply_taken_of, reply_given_of, object_given_of, body_given_of, body_failed_of, abort_acknowledged_of, password_given_of, nonce_given_of, credentials_given_of, connections_closed_of, Fed, no_step, step_by_of, reply_sent}
use Rattle.journal.specs.Checks.{Check, stop, too_many_of, Ruled}
use Rattle.journal.specs.Journal.{Settings, Standing, Opened, nothing, trailing, putting, getting, sending, gathering, draining, busy, Journal, Entry, opens, admitted, asks_srm, is_stopped, with_check, trails, put_read, first_read, request_read, packet_read, journal_packet, Read, more, whole, short, read_up, bytes_read, open_id, opens_for, connected, leaves, disconnected, closes, reply_to, reply_last, replied, object_sent, taken_at, password_checked, passes, journal_call, journal_fed, journal_step, list_of}

-- the checks after an entry
abbrev checks_in : Entry → List Check
checks_in x = x.next.standing.checks

-- ---- what leaves the checks as they were

either_same : (t : Bool) (x y : Entry) (h : List Check) → checks_in x ≡ h → checks_in y ≡ h → checks_in (pick t x y) ≡ h
either_same true x y h a b = a
either_same false x y h a b = b

put_same : (j : Journal) (r : Request) (s n : Bool) (c : Record) → checks_in (put_read j r s n c) ≡ j.standing.checks
unfolding put_read
put_same j r s n c = either_same r.final _ _ j.standing.checks refl refl

-- a packet inside an operation
inside-same : (o : Opened) (j : Journal) (r : Request) → busy o ≡ true → checks_in (request_read o j r) ≡ j.standing.checks
inside-same nothing j r b = absurd (false≢true b)
inside-same trailing j r b = absurd (false≢true b)
inside-same (putting c s) j r b =
    either_same (same_opcode r.opcode Put) _ _ j.standing.checks (put_same j r s s (joined c (carried_by r.headers))) refl
inside-same (getting k) j r b = either_same (same_opcode r.opcode Get) _ _ j.standing.checks refl refl
inside-same sending j r b = either_same (same_opcode r.opcode Get) _ _ j.standing.checks refl refl
inside-same (gathering o k) j r b = either_same (same_opcode r.opcode o) _ _ j.standing.checks refl refl
inside-same draining j r b = refl

-- the host's answers
either_standing : (t : Bool) (x y : Standing) (h : List Check) → x.checks ≡ h → y.checks ≡ h → (pick t x y).checks ≡ h
either_standing true x y h a b = a
either_standing false x y h a b = b

opened-same : (s : Standing) (srm : Bool) (id next : ℕ) → (open_id s srm id next).checks ≡ s.checks
unfolding open_id
opened-same s srm id next =
    either_standing (member id s.ids) _ _ s.checks refl (either_standing (leb 64 (length s.ids)) _ _ s.checks refl refl)

opens-same : (s : Standing) (srm : Bool) (a t : Option (List ℕ)) → (opens_for s srm a t).checks ≡ s.checks
opens-same s srm (some v) t = opened-same s srm (be32 v 0) s.next
opens-same s srm none (some t) = opened-same s srm (new_id s.ids s.next) ((new_id s.ids s.next + 1) % 2 ^ 32)
opens-same s srm none none = refl

connected-same : (st : Settings) (s : Standing) (q : List Header) (code : ℕ) (a : List Header) → (connected st s q code a).checks ≡ s.checks
unfolding connected
connected-same st s q code a =
    either_standing (is_success code) _ _ s.checks (opens-same s (s.srm || asks_srm st q) (first 0xCB a) (first 0x46 q)) refl

left-same : (s : Standing) (ids : List ℕ) → (leaves s ids).checks ≡ s.checks
left-same s [] = refl
left-same s (i ∷ is) = refl

disconnected-same : (s : Standing) (v : Option (List ℕ)) → (disconnected s v).checks ≡ s.checks
disconnected-same s none = refl
disconnected-same s (some v) = left-same s (without (be32 v 0) s.ids)

reply_to_same : (o : Opcode) (j : Journal) (r : Request) (code : ℕ) (hs : List ℕ) → (reply_to o j r code hs).standing.checks ≡ j.standing.checks
reply_to_same Connect j r code hs = connected-same j.settings j.standing r.headers code (list_of (read_headers hs 0))
reply_to_same Disconnect j r code hs = disconnected-same j.standing (first 0xCB r.headers)
reply_to_same Put j r code hs = refl
reply_to_same Get j r code hs = refl
reply_to_same SetPath j r code hs = refl
reply_to_same Action j r code hs = refl
reply_to_same Session j r code hs = refl
reply_to_same Abort j r code hs = refl
reply_to_same (UserDefined x) j r code hs = refl

reply-last-same : (l : Option Request) (j : Journal) (code : ℕ) (hs : List ℕ) → (reply_last l j code hs).standing.checks ≡ j.standing.checks
reply-last-same none j code hs = refl
reply-last-same (some r) j code hs = reply_to_same r.opcode j r code hs

replied-same : (o : Opened) (j : Journal) (code : ℕ) (hs : List ℕ) → (replied o j code hs).standing.checks ≡ j.standing.checks
replied-same nothing j code hs = reply-last-same j.last j code hs
replied-same trailing j code hs = refl
replied-same (putting c s) j code hs = refl
replied-same (getting k) j code hs = refl
replied-same sending j code hs = refl
replied-same (gathering o k) j code hs = refl
replied-same draining j code hs = refl

sent-same : (o : Opened) (j : Journal) → (object_sent o j).standing.checks ≡ j.standing.checks
sent-same nothing j = refl
sent-same trailing j = refl
sent-same (putting c s) j = refl
sent-same (getting k) j = refl
sent-same sending j = refl
sent-same (gathering o k) j = refl
sent-same draining j = refl

closes-same : (s : Standing) (l : List ℕ) → (closes s l).checks ≡ s.checks
closes-same s [] = refl
closes-same s (x ∷ l) = left-same s (without_all (x ∷ l) s.ids)

-- a reply that is taken leaves the standing
pub taken-standing : (o : Opened) (j : Journal) (b : ℕ) → (taken_at o j b).standing ≡ j.standing
taken-standing nothing j b = refl
taken-standing trailing j b = refl
taken-standing (putting c s) j b = refl
taken-standing (getting k) j b = refl
taken-standing sending j b = go (eqb b 0x90)
  where
    go : (t : Bool) → (pick t j (opens j nothing)).standing ≡ j.standing
    go true = refl
    go false = refl
taken-standing (gathering o k) j b = refl
taken-standing draining j b = refl

-- ---- the rule is kept

module _ (j : Journal) (k : Ruled j.standing.checks) where
  abbrev Kept : Entry → Type 0
  Kept x = Ruled (checks_in x)

  same_kept : (h : List Check) → h ≡ j.standing.checks → Ruled h
  same_kept h e = subst Ruled (sym e) k

  either_kept : (t : Bool) (x y : Entry) → Kept x → Kept y → Kept (pick t x y)
  either_kept true x y a b = a
  either_kept false x y a b = b

  -- a stop comes only after too many
  stop-after : (a t p : Bool) → (a && (t && p)) ≡ true → t ≡ true
  stop-after true true p e = refl
  stop-after true false p e = absurd (false≢true e)
  stop-after false t p e = absurd (false≢true e)

  connect_kept : (r : Request) → Ruled (pick (is_stopped j.settings j.standing r) (with_check j.standing stop) j.standing).checks
  unfolding is_stopped
  connect_kept r = go (is_stopped j.settings j.standing r) refl
    where
      go : (t : Bool) → is_stopped j.settings j.standing r ≡ t → Ruled (pick t (with_check j.standing stop) j.standing).checks
      go true e = (stop-after j.settings.authentication (too_many_of j.standing.checks) (present (first 0x4E r.headers)) e, k)
      go false e = k

  first-kept : (o : Opcode) (r : Request) → Kept (first_read o j r)
  unfolding first_read
  first-kept Connect r = connect_kept r
  first-kept Disconnect r = k
  first-kept Put r = either_kept (admitted j.settings j.standing r) _ _ (same_kept _ (put_same j r _ _ (carried_by r.headers))) k
  first-kept Get r = either_kept (admitted j.settings j.standing r) _ _ k k
  first-kept SetPath r = k
  first-kept Action r = either_kept (admitted j.settings j.standing r) _ _ k k
  first-kept Session r = either_kept (admitted j.settings j.standing r) _ _ k k
  first-kept Abort r = k
  first-kept (UserDefined x) r = either_kept (admitted j.settings j.standing r) _ _ k k

  request-kept : (o : Opened) (r : Request) → Kept (request_read o j r)
  request-kept nothing r = first-kept r.opcode r
  request-kept trailing r = either_kept (trails r) _ _ k (first-kept r.opcode r)
  request-kept (putting c s) r = same_kept _ (inside-same (putting c s) j r refl)
  request-kept (getting h) r = same_kept _ (inside-same (getting h) j r refl)
  request-kept sending r = same_kept _ (inside-same sending j r refl)
  request-kept (gathering o h) r = same_kept _ (inside-same (gathering o h) j r refl)
  request-kept draining r = k

  packet-kept : (q : Option Request) → Kept (packet_read q j)
  packet-kept none = either_kept (busy j.opened) _ _ k k
  packet-kept (some r) = either_kept (same_opcode r.opcode Abort) _ _ k (request-kept j.opened r)

  bytes-kept : (x : Read) → Kept (bytes_read j x)
  unfolding journal_packet
  bytes-kept (more p) = k
  bytes-kept (whole p) = packet-kept (request_of p)
  bytes-kept short = k

  checked-kept : (t : Bool) → too_many_of j.standing.checks ≡ false → Ruled (password_checked j.standing t).checks
  checked-kept true e = (e, k)
  checked-kept false e = (e, k)

  call_kept : (c : Call) → ((p : Option (List ℕ)) → c ≡ password_given_of p → too_many_of j.standing.checks ≡ false) → Kept (journal_call j c)
  call_kept (bytes_offered_of i) w = bytes-kept (read_up j.begun i)
  call_kept stream_ended_of w = k
  call_kept reply_taken_of w = k
  call_kept (reply_given_of code hs) w = same_kept _ (replied-same j.opened j code hs)
  call_kept (object_given_of hs d) w = same_kept _ (sent-same j.opened j)
  call_kept (body_given_of d) w = k
  call_kept body_failed_of w = k
  call_kept abort_acknowledged_of w = k
  call_kept (password_given_of p) w = checked-kept (passes j p) (w p refl)
  call_kept (nonce_given_of n l) w = k
  call_kept (credentials_given_of c) w = k
  call_kept (connections_closed_of l) w = same_kept _ (closes-same j.standing l)

  fed-kept : (f : Fed) → ((p : Option (List ℕ)) → f ≡ step_by_of (password_given_of p) → too_many_of j.standing.checks ≡ false) → Kept (journal_fed j f)
  fed-kept no_step w = k
  fed-kept (step_by_of c) w = either_kept j.ended _ _ k (call_kept c (λ p e. w p (ap step_by_of e)))
  fed-kept (reply_sent b) w =
      either_kept j.ended _ _ k (subst (λ (s : Standing). Ruled s.checks) (sym (taken-standing j.opened j b)) k)

  -- a call keeps the rule
  pub step-ruled : (f : Fed) → ((p : Option (List ℕ)) → f ≡ step_by_of (password_given_of p) → too_many_of j.standing.checks ≡ false) → Kept (journal_step j f)
  unfolding journal_step
  step-ruled f w = fed-kept f w
