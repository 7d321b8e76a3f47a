-- A packet after which no reply is due leaves an operation open: a Put or a Get that goes on under Single Response Mode, or a drain. After any
-- other packet a reply is due. Assumes nothing.
use mathlib.Core.Path.{◌≡◌, refl}
use mathlib.Core.Bool.{Bool, true, false, ◌&&◌, ◌||◌, not}
use mathlib.Core.List.{[], ◌∷◌}
use mathlib.Core.Option.{Option, none, some}
use Prim.Native.Nat.{ℕ}
use native.Mathlib.Omega.{arith}
use lib.Dec.{leb}
use Rattle.base.specs.Pick.{pick}
use Rattle.packet.specs.FirstByte.{same_opcode}
use Rattle.packet.specs.Packet.{Request, request_of}
use Rattle.packet.specs.declared.opcode.Opcode.{Opcode}
use Rattle.packet.specs.declared.opcode.Opcode.TheVariants.{Connect, Disconnect, Put, Get, SetPath, Action, Session, Abort, UserDefined}
use Rattle.journal.specs.Record.{Record, joined, size_of, carried_by}
use Rattle.journal.specs.Journal.{Journal, Opened, nothing, trailing, putting, getting, sending, gathering, draining, busy, Entry, unchanged, after, overrun, admitted, put_read, turned_away, dropped, first_read, stopped, trails, request_read, packet_read, journal_packet}
use Rattle.journal.specs.Srm.{Mode, Due, silent, continues, speaks, asks_more, newly, put_due, get_due, gather_due, turned_due, first_due, request_due, packet_due}
use Rattle.journal.specs.Claim.{OpensOrReplies}

-- ---- a reply is due, so the call is not silent

spoken : speaks ≡ silent → ⊥
spoken e = let z : ◌≡◌ {A = ℕ} 0 1 = cc in omega arith

continued : (g : Bool) → continues g ≡ silent → ⊥
continued g e = let z : ◌≡◌ {A = ℕ} 0 1 = cc in omega arith

gathered : (a f : Bool) → pick a (gather_due f) speaks ≡ silent → ⊥
gathered true true e = spoken e
gathered true false e = continued false e
gathered false f e = spoken e

-- ---- what a packet leaves open

or_true : (a : Bool) → (a || true) ≡ true
or_true true = refl
or_true false = refl

module _ (j : Journal) (r : Request) where
  put-opens : (srm next asked more within : Bool) (c : Record) → put_due r.final srm asked more within ≡ silent
      → busy (put_read j r srm next c).next.opened ≡ true
  unfolding put_read
  put-opens srm next asked more within c = go r.final srm within
    where
      go : (f s w : Bool) → put_due f s asked more w ≡ silent
          → busy
          (pick f (record { next = after j (some r) nothing; given = pick (leb (size_of c) j.settings.limit) (c ∷ []) []; number = none })
          (unchanged (after j (some r) (pick (leb (size_of c) j.settings.limit || s) (putting c next) (overrun j.settings))))).next.opened
          ≡ true
      go true s w e = absurd (spoken e)
      go false true w e = rw (or_true (leb (size_of c) j.settings.limit)) refl
      go false false true e = absurd (continued asked e)
      go false false false e = absurd (spoken e)

  turned-opens : turned_due j r ≡ silent → busy (turned_away j r).next.opened ≡ true
  turned-opens = go (j.standing.srm && not r.final)
    where
      go : (t : Bool) → pick t silent speaks ≡ silent → busy (unchanged (after j (some r) (pick t draining nothing))).next.opened ≡ true
      go true e = refl
      go false e = absurd (spoken e)

  either_opens : (t : Bool) (d : Due) (x : Entry) → (d ≡ silent → busy x.next.opened ≡ true) → pick t d (turned_due j r) ≡ silent
      → busy (pick t x (turned_away j r)).next.opened ≡ true
  either_opens true d x h e = h e
  either_opens false d x h e = turned-opens e

  first-opens : (o : Opcode) → first_due o j r ≡ silent → busy (first_read o j r).next.opened ≡ true
  unfolding first_read
  first-opens Put e =
      either_opens (admitted j.settings j.standing r) _ _
      (put-opens j.standing.srm _ (newly j r) (asks_more r.headers) _ (carried_by r.headers)) e
  first-opens Get e = either_opens (admitted j.settings j.standing r) (get_due r.final j.standing.srm (newly j r)) _ (λ h. refl) e
  first-opens Action e = absurd (gathered (admitted j.settings j.standing r) r.final e)
  first-opens Session e = absurd (gathered (admitted j.settings j.standing r) r.final e)
  first-opens (UserDefined x) e = absurd (gathered (admitted j.settings j.standing r) r.final e)
  first-opens Connect e = absurd (spoken e)
  first-opens Disconnect e = absurd (spoken e)
  first-opens SetPath e = absurd (spoken e)
  first-opens Abort e = absurd (spoken e)

  -- a packet of another kind than the one that is due is answered
  other-speaks : (t : Bool) (d : Due) (x y : Entry) → (d ≡ silent → busy x.next.opened ≡ true) → pick t d speaks ≡ silent
      → busy (pick t x y).next.opened ≡ true
  other-speaks true d x y h e = h e
  other-speaks false d x y h e = absurd (spoken e)

  first-speaks : (t : Bool) (x y : Entry) (d : Due) → (d ≡ silent → busy y.next.opened ≡ true) → pick t speaks d ≡ silent
      → busy (pick t x y).next.opened ≡ true
  first-speaks true x y d h e = absurd (spoken e)
  first-speaks false x y d h e = h e

  drain_opens : (f : Bool) → pick f speaks silent ≡ silent → busy (pick f nothing draining) ≡ true
  drain_opens true e = absurd (spoken e)
  drain_opens false e = refl

  request-opens : (m : Mode) (o : Opened) → request_due o m j r ≡ silent → busy (request_read o j r).next.opened ≡ true
  request-opens m nothing e = first-opens r.opcode e
  request-opens m trailing e = first-speaks (trails r) _ _ (first_due r.opcode j r) (first-opens r.opcode) e
  request-opens m (putting c s) e =
      other-speaks (same_opcode r.opcode Put) _ _ (stopped j)
      (put-opens s s false (asks_more r.headers) _ (joined c (carried_by r.headers))) e
  request-opens m (getting k) e = other-speaks (same_opcode r.opcode Get) (get_due r.final m.on m.asked) _ (stopped j) (λ h. refl) e
  request-opens m sending e = absurd (spoken e)
  request-opens m (gathering o k) e = absurd (gathered (same_opcode r.opcode o) r.final e)
  request-opens m draining e = drain_opens r.final e

packet-opens : (m : Mode) (j : Journal) (q : Option Request) → packet_due q m j ≡ silent → busy (packet_read q j).next.opened ≡ true
packet-opens m j none e = absurd (spoken e)
packet-opens m j (some r) e =
    first-speaks j r (same_opcode r.opcode Abort) (dropped j r) _ (request_due j.opened m j r) (request-opens j r m j.opened) e

pub opens_or_replies : OpensOrReplies
unfolding journal_packet
opens_or_replies m j p e = packet-opens m j (request_of p) e
