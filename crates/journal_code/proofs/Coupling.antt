-- How the state, the stores and the journal stand to one another between two entries: the settings, the standing and the Targets of the open ids
-- (`Fixed`), the bytes of a packet that has begun (`Begins`), and what is open with the packet read last (`Does`). Assumes nothing.
use mathlib.Core.Path.{◌≡◌, refl, ap}
use mathlib.Core.List.{List}
use mathlib.Core.Bool.{Bool, true, false}
use mathlib.Core.Option.{Option, none, some}
use Prim.Native.Nat.{ℕ, ◌≤◌, ◌<◌}
use lib.ListN.{length, take}
use borrow.Author.Tests.{le-leb, lt-ltb}
use Rattle.packet.specs.Header.{Header, first, present}
use Rattle.packet.specs.Packet.{Request}
use Rattle.packet.specs.declared.opcode.Opcode.{Opcode}
use Rattle.packet.specs.declared.opcode.Opcode.TheVariants as op
use Rattle.packet.proofs.HeaderBytes.{Octets}
use Rattle.journal.specs.Record.{Record}
use Rattle.journal.specs.Checks.{Check}
use Rattle.journal.specs.Journal.{Settings as JournalSettings, Standing, Opened, nothing, trailing, putting, getting, sending, gathering, draining, Journal, Entry, busy, headers_of, is_enable}
use Rattle.journal.specs.Naming.{Opening, Naming}
use Rattle.incoming.specs.Frame.{frame_end}
use Rattle.incoming.specs.Gather.{gathering as gatheringOf}
use Rattle.incoming.specs.declared.frame.Frame.TheVariants.{More}
use Rattle.incoming.specs.declared.gather.Gathered.{Gathered}
use Rattle.incoming.proofs.Gathers.{PutAgrees}
use Rattle.table.specs.Targets.{target_bytes}
use Rattle.connection.specs.Peer.{id_in, target_asked}
use Rattle.connection.specs.declared.peer.Peer.{Peer}
use Rattle.connection.proofs.Carrying.{Carried}
use Rattle.connection.proofs.Openings.{Given}
use Rattle.connection.proofs.Standings.{standing_of, PeerFits, Windowed}
use Rattle.filing.specs.Entries.{handed_under}
use Rattle.journal_code.specs.declared.state.Settings.{Settings}
use Rattle.journal_code.specs.declared.state.State.{State}
use Rattle.journal_code.specs.declared.state.Open.{Open}
use Rattle.journal_code.specs.declared.state.Open.TheVariants.{Nothing, Trailing, Putting, Getting, Sending, Gathering, Draining}
use Rattle.journal_code.specs.declared.state.Last.{Last}
use Rattle.journal_code.specs.declared.state.Last.TheVariants as last
use Rattle.journal_code.specs.State.{is_busy, fits_in}
use Rattle.journal_code.specs.Run.{settings_of, Stores, Held, handed_in}

-- ---- the standing

-- no record depends on the nonce of a challenge
abbrev pub plain : Standing → Standing
plain s = record { authenticated = s.authenticated; challenge = none; ids = s.ids; next = s.next; srm = s.srm; checks = s.checks }

pub record Fixed (st : Settings) (p : Peer) (t : List ℕ) (js : JournalSettings) (sd : Standing) (os : List Opening) : Type 0 where
  pub demands : Bool
  pub settings : js ≡ settings_of st demands
  pub past : List Check
  pub standing : plain sd ≡ standing_of p t past
  pub window : Windowed p past
  pub fits : PeerFits p.nonces p
  pub carried : Carried t sd.ids os
  pub room : 320 ≤ length t

-- ---- the bytes of a packet that has begun

pub record Begins (b : ℕ) (p q : List ℕ) : Type 0 where
  pub is : q ≡ take b p
  pub frame : frame_end p b ≡ More
  pub few : b < 65535
  pub octets : Octets (take b p)
  pub room : 65535 ≤ length p

-- ---- what is open

-- what of a request decides what the host's reply to it does
abbrev pub last_of : Opcode → List Header → Last
last_of op.Connect hs = last.Connect (is_enable (first 0x97 hs)) (target_asked (first 0x46 hs))
last_of op.Disconnect hs = last.Disconnect (id_in (first 0xCB hs))
last_of op.Put hs = last.Other
last_of op.Get hs = last.Other
last_of op.SetPath hs = last.Other
last_of op.Action hs = last.Other
last_of op.Session hs = last.Other
last_of op.Abort hs = last.Other
last_of (op.UserDefined x) hs = last.Other

abbrev pub last_in : Option Request → Last
last_in none = last.Other
last_in (some r) = last_of r.opcode r.headers

-- a Put: what the journal carries is gathered in the stores
pub record PutOpen (limit : ℕ) (g : Gathered) (srm : Bool) (h b : List ℕ) (x : Opened) : Type 0 where
  pub carries : Record
  pub is : x ≡ putting carries srm
  pub agrees : PutAgrees limit (gatheringOf g h b) carries

-- an operation of which the journal keeps headers alone
pub record KeptOpen (f : List ℕ → Opened) (x : Opened) : Type 0 where
  pub keeps : List ℕ
  pub is : x ≡ f keeps

abbrev pub OpenedAs : ℕ → Open → Gathered → Last → List ℕ → List ℕ → Opened → Type 0
OpenedAs limit Nothing g l h b x = x ≡ nothing
OpenedAs limit Trailing g l h b x = (x ≡ trailing) × (l ≡ last.Other)
OpenedAs limit (Putting srm) g l h b x = PutOpen limit g srm h b x
OpenedAs limit Getting g l h b x = KeptOpen getting x
OpenedAs limit Sending g l h b x = x ≡ sending
OpenedAs limit (Gathering o) g l h b x = KeptOpen (gathering o) x
OpenedAs limit Draining g l h b x = x ≡ draining

pub record Does (limit : ℕ) (o : Open) (g : Gathered) (l : Last) (h b : List ℕ) (x : Opened) (r : Option Request) : Type 0 where
  pub opened : OpenedAs limit o g l h b x
  pub last : l ≡ last_in r
  pub given : Given (first 0x46 (headers_of r))
  pub kept : g.kept ≤ 65535
  pub within : g.body ≤ limit
  pub headers : 65535 ≤ length h
  pub body : limit ≤ length b

-- an operation is open in the journal exactly if it is in the state
pub busy-same : (limit : ℕ) (o : Open) (g : Gathered) (l : Last) (h b : List ℕ) (x : Opened) → OpenedAs limit o g l h b x → busy x ≡ is_busy o
busy-same limit Nothing g l h b x w = ap (λ (y : Opened). busy y) w
busy-same limit Trailing g l h b x w = ap (λ (y : Opened). busy y) w.0
busy-same limit (Putting srm) g l h b x w = ap (λ (y : Opened). busy y) w.is
busy-same limit Getting g l h b x w = ap (λ (y : Opened). busy y) w.is
busy-same limit Sending g l h b x w = ap (λ (y : Opened). busy y) w
busy-same limit (Gathering o) g l h b x w = ap (λ (y : Opened). busy y) w.is
busy-same limit Draining g l h b x w = ap (λ (y : Opened). busy y) w

-- ---- all of it

pub record Live (s : State) (x : Stores) (j : Journal) (n : Naming) : Type 0 where
  pub going : s.ended ≡ false
  pub number : s.number ≡ 0
  pub alive : j.ended ≡ false
  pub fixed : Fixed s.settings s.peer x.tables j.settings j.standing n.openings
  pub begins : Begins s.begun x.packet j.begun
  pub does : Does s.settings.limit s.opened s.gathered s.last x.headers x.body j.opened j.last
  pub target : target_bytes s.target ≡ n.under

-- the journal goes on, or both have ended, and the state with another number than 6
pub data Coupled (s : State) (x : Stores) (j : Journal) (n : Naming) : Type 0 where
  live : Live s x j n → Coupled s x j n
  over : s.ended ≡ true → (s.number ≡ 6 → ⊥) → j.ended ≡ true → Coupled s x j n

-- an entry handed over what the journal says, and both stand as they should
pub record Next (h : Held) (e : Entry) (n : Naming) : Type 0 where
  pub given : handed_in h ≡ handed_under n.under e.given
  pub after : Coupled h.state h.stores e.next n

-- or the kept headers did not fit, and that is told
pub data Came (fits : Type 0) (h : Held) (e : Entry) (n : Naming) : Type 0 where
  goes : Next h e n → Came fits h e n
  full : h.state.ended ≡ true → h.state.number ≡ 6 → (fits → ⊥) → Came fits h e n

-- the stores have room for the state
pub has_room : (s : State) (x : Stores) (j : Journal) (n : Naming) → Live s x j n
    → fits_in s (length x.packet) (length x.headers) (length x.body) (length x.tables) ≡ true
unfolding fits_in
has_room s x j n w =
    rw (
      le-leb 65535 (length x.packet) w.begins.room,
      le-leb 65535 (length x.headers) w.does.headers,
      le-leb s.settings.limit (length x.body) w.does.body,
      le-leb 320 (length x.tables) w.fixed.room,
      le-leb s.peer.count 64 w.fixed.fits.count,
      le-leb s.gathered.kept 65535 w.does.kept,
      le-leb s.gathered.body s.settings.limit w.does.within,
      lt-ltb s.begun 65535 w.begins.few,
    ) refl
