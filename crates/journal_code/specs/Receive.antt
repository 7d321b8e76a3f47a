-- What a packet does to the state and the stores (docs/PROTOCOL.md#journal): the journal's `journal_packet` and `bytes_read` as the code has them.
-- The body bytes of a header that would pass the limit are not stored, and `over` says so.
use Rattle.std.specs.Prelude.{ℕ, List, Bool, true, false, ◌&&◌, ◌||◌, not, length, take, leb}
use Rattle.std.proofs.Math.Option.{Option, none, some}
use Rattle.std.specs.Int.Count.{ones}
use Rattle.base.specs.Pick.{pick}
use Rattle.packet.specs.FirstByte.{same_opcode}
use Rattle.packet.specs.Header.{Header}
use Rattle.packet.specs.Packet.{Request, request_of}
use Rattle.packet.specs.declared.opcode.Opcode.{Opcode}
use Rattle.packet.specs.declared.opcode.Opcode.TheVariants.{Connect, Abort}
use Rattle.journal.specs.Checks.{most_wrong}
use Rattle.table.specs.Targets.{unnamed}
use Rattle.table.specs.declared.targets.Target.{Target}
use Rattle.connection.specs.Peer.{checked_peer, ids_of}
use Rattle.connection.specs.declared.peer.Peer.{Peer}
use Rattle.incoming.specs.Frame.{Frames, framed}
use Rattle.incoming.specs.Gather.{Gathering, gathering, gather_all}
use Rattle.incoming.specs.declared.frame.Frame.{Frame}
use Rattle.incoming.specs.declared.frame.Frame.TheVariants.{More, Whole, Short}
use Rattle.incoming.specs.declared.gather.Keep.TheVariants as keep
use Rattle.incoming.specs.declared.gather.Gathered.{Gathered}
use Rattle.journal_code.specs.declared.heading.Heading.{Heading}
use Rattle.journal_code.specs.declared.state.State.{State}
use Rattle.journal_code.specs.declared.state.Open.{Open}
use Rattle.journal_code.specs.declared.state.Open.TheVariants.{Nothing, Trailing, Putting}
use Rattle.journal_code.specs.declared.state.Last.TheVariants.{Other}
use Rattle.journal_code.specs.declared.route.Route.{Route}
use Rattle.journal_code.specs.declared.route.Route.TheVariants as way
use Rattle.journal_code.specs.State.{quiet, ended_with, coming_to, moved_to, is_busy, nothing_gathered, fits_in}
use Rattle.journal_code.specs.Heading.{heading_of, last_by}
use Rattle.journal_code.specs.Route.{heading_route}

-- ---- the fields

-- A Connect is stopped.
abbrev pub stopped_in : State → Heading → Bool
stopped_in s h = s.settings.authentication && (leb most_wrong (ones s.peer.window) && h.has_response)

-- The peer after a packet.
unfoldable pub peer_after : State → Heading → Peer
peer_after s h =
    pick (same_opcode h.opcode Connect)
    (pick (is_busy s.opened) s.peer (pick (stopped_in s h) (checked_peer s.peer false) s.peer))
    s.peer

-- A packet goes under the mark wherever it comes.
abbrev pub marked_by : Opcode → Bool
marked_by o = same_opcode o Connect || same_opcode o Abort

-- The Target under which a packet goes.
unfoldable pub target_after : State → Heading → Target
target_after s h = pick (marked_by h.opcode) unnamed (pick (is_busy s.opened) s.target h.under)

-- A packet was read, and left `o` open.
abbrev pub after_packet : State → Heading → Open → Gathered → Bool → State
after_packet s h o g handed = moved_to s (peer_after s h) (target_after s h) (last_by h.opcode h) o g handed

-- What is open after a packet of a Put that is not final: `going` if the Put goes on.
abbrev pub going_on : State → Bool → Bool → Open → Open
going_on s over srm going = pick (not over || srm) going (pick s.settings.refuses Trailing Nothing)

abbrev pub put_open : State → Bool → Bool → Bool → Open
put_open s over srm next = going_on s over srm (Putting next)

-- The state after a packet of a Put, with which `g` is gathered.
unfoldable pub put_state : State → Heading → Bool → Bool → Gathered → State
put_state s h srm next g =
    pick g.full (ended_with s 6)
    (pick h.is_final (after_packet s h Nothing g (not g.over)) (after_packet s h (put_open s g.over srm next) g false))

-- The state after a packet that cannot be read.
abbrev pub unreadable_state : State → State
unreadable_state s =
    pick (is_busy s.opened) (ended_with s 4) (moved_to s s.peer s.target Other s.opened s.gathered false)

-- What was gathered before a packet of a Put, the first or a later one.
abbrev pub begun_of : State → Bool → Gathered
begun_of s true = nothing_gathered
begun_of s false = s.gathered

-- ---- with the stores

-- The state, with the stores of kept headers and body.
pub record Step : Type 0 where
  pub state : State
  pub headers : List ℕ
  pub body : List ℕ

-- Makes a `Step`.
abbrev pub step : State → List ℕ → List ℕ → Step
step s h b = record { state = s; headers = h; body = b }

-- A packet of a Put was gathered.
abbrev pub put_step : State → Heading → Bool → Bool → Gathering → Step
put_step s h srm next g = step (put_state s h srm next g.got) g.headers g.body

-- What a packet with these headers does, by its way.
abbrev pub act_step : Route → State → Heading → List Header → List ℕ → List ℕ → Step
act_step way.Stop s h hs hd bd = step (ended_with s 0) hd bd
act_step (way.Become o) s h hs hd bd = step (after_packet s h o s.gathered false) hd bd
act_step (way.Put first srm next) s h hs hd bd =
    put_step s h srm next (gather_all keep.Put s.settings.limit hs (gathering (begun_of s first) hd bd))

-- What a packet does, by what it reads as; `t` is the table store.
abbrev pub request_step : Option Request → State → List ℕ → List ℕ → List ℕ → Step
request_step none s t hd bd = step (unreadable_state s) hd bd
request_step (some r) s t hd bd =
    act_step (heading_route s (heading_of r (ids_of s.peer t) t)) s (heading_of r (ids_of s.peer t) t) r.headers hd bd

-- What a whole packet does.
unfoldable pub packet_step : State → List ℕ → List ℕ → List ℕ → List ℕ → Step
packet_step s p t hd bd = request_step (request_of p) s t hd bd

-- ---- bytes

-- The state, with all stores that bytes may change.
pub record Came : Type 0 where
  pub state : State
  pub packet : List ℕ
  pub headers : List ℕ
  pub body : List ℕ

-- Makes a `Came`.
abbrev pub came : State → List ℕ → List ℕ → List ℕ → Came
came s p h b = record { state = s; packet = p; headers = h; body = b }

-- A step, with the packet store `p`.
abbrev pub came_by : Step → List ℕ → Came
came_by x p = came x.state p x.headers x.body

-- What bytes do, by how far the packet has come.
abbrev pub frame_step : Frame → Frames → State → List ℕ → List ℕ → List ℕ → Came
frame_step More f s t hd bd = came (coming_to s f.result.begun) f.packet hd bd
frame_step Short f s t hd bd = came (ended_with s 3) f.packet hd bd
frame_step Whole f s t hd bd = came_by (packet_step s (take f.result.begun f.packet) t hd bd) f.packet

-- Bytes come from the peer.
unfoldable pub received_step : State → List ℕ → List ℕ → List ℕ → List ℕ → List ℕ → Came
received_step s i p hd bd t =
    pick s.ended (came (quiet s) p hd bd)
    (pick (fits_in s (length p) (length hd) (length bd) (length t))
    (frame_step (framed p s.begun 0 i).result.frame (framed p s.begun 0 i) s t hd bd)
    (came (quiet s) p hd bd))
