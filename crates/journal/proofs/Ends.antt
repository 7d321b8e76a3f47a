-- The journal has ended exactly after the calls in which an end is due, but for a packet of another operation; and it takes no more bytes than
-- are offered. Assumes nothing.
use mathlib.Core.Path.{◌≡◌, refl, sym, ◌∙◌}
use mathlib.Core.List.{List, [], ◌∷◌, ◌++◌}
use mathlib.Core.Bool.{Bool, true, false, false≢true}
use mathlib.Core.Option.{Option, none, some}
use mathlib.Core.Logic.{◌⊎◌, inl, inr}
use Prim.Native.Nat.{ℕ, ◌+◌, ◌≤◌}
use native.Mathlib.Omega.{arith}
use lib.ListN.{length}
use lib.Dec.{eqb}
use Rattle.base.specs.Pick.{pick}
use Rattle.packet.specs.FirstByte.{same_opcode}
use Rattle.packet.specs.Packet.{Request, request_of}
use Rattle.packet.specs.declared.opcode.Opcode.{Opcode}
use Rattle.packet.specs.declared.opcode.Opcode.TheVariants.{Connect, Disconnect, Put, Get, SetPath, Action, Session, Abort, UserDefined}
use Rattle.journal.specs.Record.{Record}
use Rattle.journal.specs.Calls.{Call, bytes_offered_of, stream_ended_of, reply_taken_of, reply_given_of, object_given_of, body_given_of, body_failed_of, abort_acknowledged_of, password_given_of, nonce_given_of, credentials_given_of, connections_closed_of, Fed, no_step, step_by_of, reply_sent}
use Rattle.journal.specs.Journal.{Opened, nothing, trailing, putting, getting, sending, gathering, draining, busy, Journal, Entry, unchanged, after, opens, ends_with, stopped, trails, put_read, admitted, first_read, request_read, packet_read, journal_packet, Read, more, whole, short, read_up, bytes_read, goes_on_of, taken_up, stream_number, reply_to, reply_last, replied, object_sent, taken_at, last_taken, journal_call, journal_fed, journal_step}
use Rattle.journal.specs.Claim.{EndsThere, EndsNowhereElse, TakesNoMore}

-- ---- bytes

pub takes_no_more : TakesNoMore
unfolding taken_up
takes_no_more p [] = omega arith
takes_no_more p (x ∷ xs) = go (goes_on_of (p ++ (x ∷ []))) (takes_no_more (p ++ (x ∷ [])) xs)
  where
    go : (t : Bool) → taken_up (p ++ (x ∷ [])) xs ≤ length xs → 1 + pick t (taken_up (p ++ (x ∷ [])) xs) 0 ≤ length (x ∷ xs)
    go true h = omega (arith, h)
    go false h = omega arith

-- ---- a step either has an end, after which the journal has ended, or none; then it has ended as before, or another operation stopped it

abbrev Quiet : Journal → Entry → Type 0
Quiet j x = (x.number ≡ none) × ((x.next.ended ≡ j.ended) ⊎ (x ≡ stopped j))

abbrev Ends : Entry → Type 0
Ends x = (x.number ≡ none → ⊥) × (x.next.ended ≡ true)

abbrev Fair : Journal → Entry → Type 0
Fair j x = Ends x ⊎ Quiet j x

some-none : (n : ℕ) → ◌≡◌ {A = Option ℕ} (some n) none → ⊥
some-none n e = let z : ◌≡◌ {A = ℕ} 0 1 = cc in omega arith

calm : (j d : Journal) → d.ended ≡ j.ended → Quiet j (unchanged d)
calm j d e = (refl, inl e)

quiet-pick : (j : Journal) (t : Bool) (x y : Entry) → Quiet j x → Quiet j y → Quiet j (pick t x y)
quiet-pick j true x y a b = a
quiet-pick j false x y a b = b

module _ (j : Journal) where
  halts : Quiet j (stopped j)
  halts = (refl, inr refl)

  put-quiet : (r : Request) (srm next : Bool) (c : Record) → Quiet j (put_read j r srm next c)
  unfolding put_read
  put-quiet r srm next c = quiet-pick j r.final _ _ (refl, inl refl) (calm j _ refl)

  first-quiet : (o : Opcode) (r : Request) → Quiet j (first_read o j r)
  unfolding first_read
  first-quiet Connect r = calm j _ refl
  first-quiet Disconnect r = calm j _ refl
  first-quiet SetPath r = calm j _ refl
  first-quiet Abort r = calm j _ refl
  first-quiet Put r = quiet-pick j (admitted j.settings j.standing r) _ _ (put-quiet r _ _ _) (calm j _ refl)
  first-quiet Get r = quiet-pick j (admitted j.settings j.standing r) _ _ (calm j _ refl) (calm j _ refl)
  first-quiet Action r = quiet-pick j (admitted j.settings j.standing r) _ _ (calm j _ refl) (calm j _ refl)
  first-quiet Session r = quiet-pick j (admitted j.settings j.standing r) _ _ (calm j _ refl) (calm j _ refl)
  first-quiet (UserDefined x) r = quiet-pick j (admitted j.settings j.standing r) _ _ (calm j _ refl) (calm j _ refl)

  request-quiet : (o : Opened) (r : Request) → Quiet j (request_read o j r)
  request-quiet nothing r = first-quiet r.opcode r
  request-quiet trailing r = quiet-pick j (trails r) _ _ (calm j _ refl) (first-quiet r.opcode r)
  request-quiet (putting c s) r = quiet-pick j (same_opcode r.opcode Put) _ _ (put-quiet r s s _) halts
  request-quiet (getting k) r = quiet-pick j (same_opcode r.opcode Get) _ _ (calm j _ refl) halts
  request-quiet sending r = quiet-pick j (same_opcode r.opcode Get) _ _ (calm j _ refl) halts
  request-quiet (gathering o k) r = quiet-pick j (same_opcode r.opcode o) _ _ (calm j _ refl) halts
  request-quiet draining r = calm j _ refl

  packet-fair : (q : Option Request) → Fair j (packet_read q j)
  packet-fair none = go (busy j.opened)
    where
      go : (t : Bool) → Fair j (pick t (ends_with 4 j) (unchanged (after j none j.opened)))
      go true = inl (some-none 4, refl)
      go false = inr (calm j _ refl)
  packet-fair (some r) = inr (quiet-pick j (same_opcode r.opcode Abort) _ _ (calm j _ refl) (request-quiet j.opened r))

  read-fair : (r : Read) → Fair j (bytes_read j r)
  unfolding journal_packet
  read-fair (more p) = inr (calm j _ refl)
  read-fair (whole p) = packet-fair (request_of p)
  read-fair short = inl (some-none 3, refl)

  -- the host's answers leave it as it was
  reply-ended : (o : Opcode) (r : Request) (code : ℕ) (hs : List ℕ) → (reply_to o j r code hs).ended ≡ j.ended
  reply-ended Connect r code hs = refl
  reply-ended Disconnect r code hs = refl
  reply-ended Put r code hs = refl
  reply-ended Get r code hs = refl
  reply-ended SetPath r code hs = refl
  reply-ended Action r code hs = refl
  reply-ended Session r code hs = refl
  reply-ended Abort r code hs = refl
  reply-ended (UserDefined x) r code hs = refl

  last-ended : (l : Option Request) (code : ℕ) (hs : List ℕ) → (reply_last l j code hs).ended ≡ j.ended
  last-ended none code hs = refl
  last-ended (some r) code hs = reply-ended r.opcode r code hs

  replied-ended : (o : Opened) (code : ℕ) (hs : List ℕ) → (replied o j code hs).ended ≡ j.ended
  replied-ended nothing code hs = last-ended j.last code hs
  replied-ended trailing code hs = refl
  replied-ended (putting c s) code hs = refl
  replied-ended (getting k) code hs = refl
  replied-ended sending code hs = refl
  replied-ended (gathering o k) code hs = refl
  replied-ended draining code hs = refl

  sent-ended : (o : Opened) → (object_sent o j).ended ≡ j.ended
  sent-ended nothing = refl
  sent-ended trailing = refl
  sent-ended (putting c s) = refl
  sent-ended (getting k) = refl
  sent-ended sending = refl
  sent-ended (gathering o k) = refl
  sent-ended draining = refl

  taken-ended : (o : Opened) (b : ℕ) → (taken_at o j b).ended ≡ j.ended
  taken-ended nothing b = refl
  taken-ended trailing b = refl
  taken-ended (putting c s) b = refl
  taken-ended (getting k) b = refl
  taken-ended sending b = go (eqb b 0x90)
    where
      go : (t : Bool) → (pick t j (opens j nothing)).ended ≡ j.ended
      go true = refl
      go false = refl
  taken-ended (gathering o k) b = refl
  taken-ended draining b = refl

  call-fair : (c : Call) → Fair j (journal_call j c)
  call-fair (bytes_offered_of i) = read-fair (read_up j.begun i)
  call-fair stream_ended_of = inl (some-none (stream_number j.begun), refl)
  call-fair reply_taken_of = inr (calm j j refl)
  call-fair (reply_given_of code hs) = inr (calm j _ (replied-ended j.opened code hs))
  call-fair (object_given_of hs body) = inr (calm j _ (sent-ended j.opened))
  call-fair (body_given_of d) = inr (calm j j refl)
  call-fair body_failed_of = inr (calm j j refl)
  call-fair abort_acknowledged_of = inr (calm j j refl)
  call-fair (password_given_of p) = inr (calm j _ refl)
  call-fair (nonce_given_of n l) = inr (calm j _ refl)
  call-fair (credentials_given_of c) = inr (calm j j refl)
  call-fair (connections_closed_of l) = inr (calm j _ refl)

  fed-fair : (f : Fed) → Fair j (journal_fed j f)
  fed-fair no_step = inr (calm j j refl)
  fed-fair (step_by_of c) = go j.ended (call-fair c)
    where
      go : (t : Bool) → Fair j (journal_call j c) → Fair j (pick t (unchanged j) (journal_call j c))
      go true w = inr (calm j j refl)
      go false w = w
  fed-fair (reply_sent b) = go j.ended refl
    where
      go : (t : Bool) → j.ended ≡ t → Fair j (pick t (last_taken j) (unchanged (taken_at j.opened j b)))
      go true e = inl (some-none 5, e)
      go false e = inr (calm j _ (taken-ended j.opened b))

-- ---- the claims

-- Both are said for whoever asks where the engine ends, and cited nowhere.
pub ends_there : EndsThere
unfolding journal_step
ends_there j f n i = go (fed-fair j f)
  where
    go : Fair j (journal_fed j f) → (journal_fed j f).next.ended ≡ true
    go (inl x) = x.1
    go (inr q) = absurd (some-none n (sym i ∙ q.0))

pub ends_nowhere_else : EndsNowhereElse
unfolding journal_step
ends_nowhere_else j f h e n = go (fed-fair j f)
  where
    go : Fair j (journal_fed j f) → journal_fed j f ≡ stopped j
    go (inl x) = absurd (x.0 n)
    go (inr (a, inl i)) = absurd (false≢true (sym h ∙ sym i ∙ e))
    go (inr (a, inr i)) = i
