-- What holds of a Get besides `GetHolds` (docs/PROTOCOL.md#link), aborted or not: when the host is asked at all, which of the client's outcomes comes
-- when, that nothing is handed over after an Abort, and how long the client's packets are.
use Rattle.std.specs.Prelude.{ℕ, ◌≤◌, ◌≡◌, List, [], ◌∷◌, ◌++◌, true, false, ◌⊎◌, length}
use Rattle.packet.specs.Limits.{max_packet}
use Rattle.packet.specs.Packet.{Request}
use Rattle.packet.specs.declared.opcode.Opcode.TheVariants as op
use Rattle.journal.specs.Record.{bare}
use Rattle.journal.specs.Journal.{Journal, admitted}
use Rattle.server.specs.declared.Settings.{Settings as ServerSettings}
use Rattle.client_model.specs.Leading.{leading_headers, leading}
use Rattle.client_model.specs.declared.Client.{Client}
use Rattle.client_model.specs.declared.Outcome.TheVariants as said
use Rattle.client_model.specs.declared.Settings.{Settings}
use Rattle.link.specs.Link.{Link, get, Move, user, move, moves}
use Rattle.link.specs.Told.{goes, aborted_in, asked_in, parts_in}
use Rattle.link.specs.ContractClaims.{request_bytes}
use Rattle.link.specs.Claims.{Plain, Fresh, connected_in, Until, journal_in, EndHolds}

-- The first packet of a Get, as far as admission looks at it: the user's headers have no ConnectionID.
abbrev pub first_get : Client → Request
first_get c =
    record { opcode = op.Get; final = false; bytes = []; headers = leading_headers c.connection_id c.settings.srm_wanted }

-- What holds of a Get with the headers `hs` that was called in the link `before` and led to `l`, by the run `ms`. The journal is that of the server's
-- calls up to then.
pub record GetMore (j : Journal) (before l : Link) (hs : List ℕ) (ms : List Move) : Type 0 where
  -- The host is asked once, with exactly the headers behind any ConnectionID, or not at all, and the end is as `EndHolds` says, also if the user
  -- aborts.
  pub asked : (asked_in l ms ≡ (leading before.client.connection_id false ++ hs) ∷ []) ⊎ (asked_in l ms ≡ [])
  pub ends : EndHolds l ms
  -- An admitted Get that is not aborted asks, if its headers are within 65,535 bytes.
  pub asks : aborted_in l ms ≡ false → admitted j.settings j.standing (first_get before.client) ≡ true
      → length (leading before.client.connection_id false ++ hs) ≤ max_packet
      → asked_in l ms ≡ (leading before.client.connection_id false ++ hs) ∷ []
  -- The client says that the Get is done only if the user did not abort, that it was aborted only if the user did, and never that it was stopped.
  pub done : (c n : ℕ) → (moves l ms).said ≡ said.Done c n → aborted_in l ms ≡ false
  pub stopped : (c n : ℕ) → (moves l ms).said ≡ said.Stopped c n → ⊥
  pub aborted : (c n : ℕ) → (moves l ms).said ≡ said.Aborted c n → aborted_in l ms ≡ true
  -- Nothing is handed over after an Abort.
  pub late : (xs : List Move) (m : Move) (zs : List Move) → ms ≡ xs ++ (m ∷ zs) → aborted_in l xs ≡ true → parts_in (moves l xs) (m ∷ zs) ≡ bare
  -- Each packet that waits to be sent is within the limit that the client has for the server.
  pub within : (xs : List Move) (m : Move) (zs : List Move) → ms ≡ xs ++ (m ∷ zs)
      → length (request_bytes (moves l xs).said (moves l xs).stores.request) ≤ before.client.remote_max_packet_length

-- The claim, after any run of two fresh ends with an accepted Connect: a Get, passed on to its end.
abbrev pub GetsMore : Type 0
GetsMore =
    (st : ServerSettings) (cs : Settings) (l : Link) (before ms : List Move) (hs : List ℕ) → Fresh st cs l
    → Plain before → Plain (user (get hs) ∷ ms) → connected_in false l before ≡ true
    → goes (moves l before) (get hs) ≡ true → Until (move (moves l before) (user (get hs))) ms
    → GetMore (journal_in st l before) (moves l before) (move (moves l before) (user (get hs))) hs ms
