-- What of the journal (docs/PROTOCOL.md#journal) lies in the fields of a `State`, and how an entry changes them.
use Rattle.std.specs.Prelude.{ℕ, Bool, true, false, ◌&&◌, leb, ltb}
use Rattle.packet.specs.Limits.{max_packet, max_connections}
use Rattle.table.specs.Places.{table_length}
use Rattle.table.specs.Targets.{unnamed}
use Rattle.table.specs.declared.targets.Target.{Target}
use Rattle.connection.specs.Peer.{fresh_peer}
use Rattle.connection.specs.declared.peer.Peer.{Peer}
use Rattle.incoming.specs.declared.gather.Gathered.{Gathered}
use Rattle.journal_code.specs.declared.state.Settings.{Settings}
use Rattle.journal_code.specs.declared.state.Open.{Open}
use Rattle.journal_code.specs.declared.state.Open.TheVariants.{Nothing, Trailing, Putting, Getting, Sending, Gathering, Draining}
use Rattle.journal_code.specs.declared.state.Last.{Last}
use Rattle.journal_code.specs.declared.state.Last.TheVariants.{Other}
use Rattle.journal_code.specs.declared.state.State.{State}

-- The one definition that lists the fields; it is shut, so that proofs do not write them all out.
unfoldable pub state_with : Settings → Peer → Target → Last → Open → Gathered → ℕ → ℕ → Bool → Bool → State
state_with st p t l o g b n e h =
    record { settings = st; peer = p; gathered = g; target = t; last = l; opened = o; begun = b; number = n; ended = e; handed = h }

-- Nothing changes, and nothing is handed over.
abbrev pub quiet : State → State
quiet s = state_with s.settings s.peer s.target s.last s.opened s.gathered s.begun s.number s.ended false

-- The session has ended with the number `n`, or with one that is still to come (0).
abbrev pub ended_with : State → ℕ → State
ended_with s n = state_with s.settings s.peer s.target s.last s.opened s.gathered 0 n true false

-- A packet goes on, of which `b` bytes have come.
abbrev pub coming_to : State → ℕ → State
coming_to s b = state_with s.settings s.peer s.target s.last s.opened s.gathered b s.number s.ended false

-- The state with the peer `p`.
abbrev pub standing_by : State → Peer → State
standing_by s p = state_with s.settings p s.target s.last s.opened s.gathered s.begun s.number s.ended false

-- The state with `o` open.
abbrev pub opens_now : State → Open → State
opens_now s o = state_with s.settings s.peer s.target s.last o s.gathered s.begun s.number s.ended false

-- A packet was read that left `o` open, and `g` in the stores.
abbrev pub moved_to : State → Peer → Target → Last → Open → Gathered → Bool → State
moved_to s p t l o g h = state_with s.settings p t l o g 0 s.number s.ended h

-- What is gathered before the first packet of a Put.
abbrev pub nothing_gathered : Gathered
nothing_gathered = record { kept = 0; body = 0; came = false; over = false; full = false }

-- The state at the start of a session: nothing is open, and no packet was read.
abbrev pub fresh_state : Settings → State
fresh_state st = state_with st fresh_peer unnamed Other Nothing nothing_gathered 0 0 false false

-- An operation is open.
abbrev pub is_busy : Open → Bool
is_busy Nothing = false
is_busy Trailing = false
is_busy (Putting srm) = true
is_busy Getting = true
is_busy Sending = true
is_busy (Gathering o) = true
is_busy Draining = true

-- The stores have room for the state.
unfoldable pub fits_in : State → ℕ → ℕ → ℕ → ℕ → Bool
fits_in s p h b t =
    leb max_packet p && (leb max_packet h && (leb s.settings.limit b && (leb table_length t
    && (leb s.peer.count max_connections && (leb s.gathered.kept max_packet && (leb s.gathered.body s.settings.limit
    && ltb s.begun max_packet))))))
