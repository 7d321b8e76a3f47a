-- What the theorem over whole runs asks of an operation that may take many packets, a Put or a Get: the call begins it where nothing is open,
-- each move keeps it or ends it, and at its end nothing is open again or the client has ended.
use mathlib.Core.Path.{◌≡◌}
use mathlib.Core.Bool.{false, true}
use mathlib.Core.Option.{some}
use Prim.Native.Nat.{ℕ}
use lib.ListN.{take}
use Rattle.text.specs.Unicode.{Octets}
use Rattle.packet.specs.Packet.{Request}
use Rattle.incoming.specs.Survey.{survey_of}
use Rattle.journal.specs.Journal.{Journal, admitted}
use Rattle.server.specs.declared.Settings.{Settings as ServerSettings}
use Rattle.model.specs.Dispatch.{known_in}
use Rattle.model.specs.Runs.{State}
use Rattle.model.proofs.ServerPut.{put_passes}
use Rattle.client_model.specs.Guard.{awaiting}
use Rattle.client_model.specs.Answer.{is_connecting}
use Rattle.client_model.specs.declared.Await.TheVariants as await
use Rattle.client_model.specs.declared.Client.{Client}
use Rattle.client_model.specs.declared.Outcome.TheVariants as said
use Rattle.client_model.specs.declared.Settings.{Settings}
use Rattle.link.specs.Link.{Link, UserCall, Move, user, move}
use Rattle.link.specs.Told.{goes}
use Rattle.link.specs.Claims.{PlainUser, PlainMove, is_admitted}
use Rattle.link.specs.GetMore.{first_get}
use Rattle.link.proofs.Moves.{is_end}
use Rattle.link.proofs.Joint.{AtRest}
use Rattle.link.proofs.GetJoint.{is_admitted as isAdmittedGet}

-- ---- inside an operation

-- The client is inside an operation that is no Connect: it awaits no call of one, and no response is read as that to a Connect.
pub record Busy (l : Link) : Type 0 where
  pub awaits : awaiting l.client await.Call ≡ false
  pub operation : is_connecting l.client.operation ≡ false

-- All that a Connect or a Disconnect sets is in `l` as it was in `before`, and so are the settings of both ends.
pub record Kept (before l : Link) : Type 0 where
  pub client : l.client.settings ≡ before.client.settings
  pub id : l.client.connection_id ≡ before.client.connection_id
  pub server : l.server.engine.settings ≡ before.server.engine.settings
  pub peer : l.server.engine.peer ≡ before.server.engine.peer
  pub tables : l.server.tables ≡ before.server.tables

-- A packet that waits to be sent is of bytes.
abbrev pub SendsOctets : Link → Type 0
SendsOctets l = (n : ℕ) → l.said ≡ said.Send n → Octets (take n l.stores.request)

-- ---- one operation

-- Nothing is open, and the client has its settings. The server sends packets of `box` bytes at most.
abbrev pub At : Settings → ℕ → Link → Type 0
At cs box l = AtRest box l × (l.client.settings ≡ cs)

-- What a move inside the operation that was called in `before` leads to.
pub data After (cs : Settings) (Inside : ℕ → Link → Link → Type 0) (box : ℕ) (before l : Link) : Type 0 where
  still : Inside box before l → After cs Inside box before l
  rests : At cs box l → Kept before l → After cs Inside box before l
  gone : is_end l.said ≡ true → After cs Inside box before l

-- The operation that the call `u` begins.
pub record Part (cs : Settings) (Inside : ℕ → Link → Link → Type 0) (u : UserCall) : Type 0 where
  pub begins : (box : ℕ) (l : Link) → At cs box l → PlainUser u → goes l u ≡ true → Inside box l (move l (user u))
  pub goes_on : (box : ℕ) (before l : Link) → Inside box before l → (m : Move) → PlainMove m → After cs Inside box before (move l m)
  pub busy : (box : ℕ) (before l : Link) → Inside box before l → Busy l
  pub octets : (box : ℕ) (before l : Link) → Inside box before l → SendsOctets l

-- ---- the journal

-- The journal `j` stands for the server: it has the server's settings, it admits the first packet of a Put exactly if the server lets it pass, and
-- that of a Get exactly if the server does not turn it away.
pub record Ties (st : ServerSettings) (j : Journal) (s : State) : Type 0 where
  pub settings : s.engine.settings ≡ st
  pub puts : (r : Request) → let v = survey_of (some r.headers) in
      is_admitted j r ≡ put_passes s.engine.operation s.engine r v (known_in s.engine s.tables v)
  pub gets : (c : Client) → admitted j.settings j.standing (first_get c)
      ≡ isAdmittedGet (record { settings = s.engine.settings; peer = s.engine.peer; tables = s.tables }) c.connection_id
