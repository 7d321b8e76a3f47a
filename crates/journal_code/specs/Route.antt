-- Which way a packet goes, as the code has it (docs/PROTOCOL.md#journal): the journal's `first_read` and `request_read` over fields and a heading.
use Rattle.std.specs.Prelude.{Bool, true, false, ◌&&◌, ◌||◌, not}
use Rattle.base.specs.Pick.{pick}
use Rattle.packet.specs.FirstByte.{same_opcode}
use Rattle.packet.specs.declared.opcode.Opcode.{Opcode}
use Rattle.packet.specs.declared.opcode.Opcode.TheVariants.{Connect, Disconnect, Put, Get, SetPath, Action, Session, Abort, UserDefined}
use Rattle.journal_code.specs.declared.heading.Heading.{Heading}
use Rattle.journal_code.specs.declared.state.State.{State}
use Rattle.journal_code.specs.declared.state.Open.{Open}
use Rattle.journal_code.specs.declared.state.Open.TheVariants.{Nothing, Trailing, Putting, Getting, Sending, Gathering, Draining}
use Rattle.journal_code.specs.declared.route.Route.{Route}
use Rattle.journal_code.specs.declared.route.Route.TheVariants as way

-- A password is required and was not given.
abbrev pub unauthorized_in : State → Opcode → Bool
unauthorized_in s o = s.settings.authentication && (not s.peer.authenticated && not (same_opcode o Disconnect))

-- The packet passes.
unfoldable pub admitted_in : State → Heading → Bool
admitted_in s h = not (unauthorized_in s h.opcode) && not h.unknown

-- What is open once a Put or a Get was turned away.
unfoldable pub turned_open : State → Heading → Open
turned_open s h = pick (s.peer.srm_enabled && not h.is_final) Draining Nothing

-- What is open after a packet of an operation of headers alone.
abbrev pub gathers_on : Opcode → Bool → Open
gathers_on o final = pick final Nothing (Gathering o)

-- Single Response Mode (SRM) is on after a request that enables it, if `enable` says so, or was on before.
abbrev pub asks_in : State → Bool → Bool
asks_in s enable = s.peer.srm_enabled || (s.settings.srm && enable)

-- The first packet of a Put passes.
abbrev pub first_put : State → Heading → Route
first_put s h = way.Put true s.peer.srm_enabled (asks_in s h.enable)

-- A packet passes, with nothing open.
abbrev pub admitted_route : Opcode → State → Heading → Route
admitted_route Connect s h = way.Become Nothing
admitted_route Disconnect s h = way.Become Nothing
admitted_route Put s h = first_put s h
admitted_route Get s h = way.Become Getting
admitted_route SetPath s h = way.Become Nothing
admitted_route Action s h = way.Become (gathers_on Action h.is_final)
admitted_route Session s h = way.Become (gathers_on Session h.is_final)
admitted_route Abort s h = way.Become Nothing
admitted_route (UserDefined x) s h = way.Become (gathers_on (UserDefined x) h.is_final)

-- A packet is turned away, with nothing open.
abbrev pub turned_by : Opcode → State → Heading → Open
turned_by Put s h = turned_open s h
turned_by Get s h = turned_open s h
turned_by Connect s h = Nothing
turned_by Disconnect s h = Nothing
turned_by SetPath s h = Nothing
turned_by Action s h = Nothing
turned_by Session s h = Nothing
turned_by Abort s h = Nothing
turned_by (UserDefined x) s h = Nothing

-- A packet comes with nothing open.
unfoldable pub first_route : State → Heading → Route
first_route s h = pick (admitted_in s h) (admitted_route h.opcode s h) (way.Become (turned_by h.opcode s h))

-- The packet is a Put packet without a Name.
abbrev pub trails_in : Heading → Bool
trails_in h = same_opcode h.opcode Put && not h.has_name

-- A packet comes after a Put that was too long.
unfoldable pub trailing_route : State → Heading → Route
trailing_route s h = pick (trails_in h) (way.Become (pick h.is_final Nothing Trailing)) (first_route s h)

-- The next packet of an operation with the opcode `o` goes on, and any other interrupts it.
abbrev pub continued : Heading → Opcode → Route → Route
continued h o w = pick (same_opcode h.opcode o) w way.Stop

-- What is open after a packet of a drain.
abbrev pub drained : Bool → Open
drained final = pick final Nothing Draining

-- A packet comes by what is open.
abbrev pub inside_route : Open → State → Heading → Route
inside_route Nothing s h = first_route s h
inside_route Trailing s h = trailing_route s h
inside_route (Putting srm) s h = continued h Put (way.Put false srm srm)
inside_route Getting s h = continued h Get (way.Become Getting)
inside_route Sending s h = continued h Get (way.Become Sending)
inside_route (Gathering o) s h = continued h o (way.Become (gathers_on o h.is_final))
inside_route Draining s h = way.Become (drained h.is_final)

-- A packet that can be read: an Abort closes what is open.
unfoldable pub heading_route : State → Heading → Route
heading_route s h = pick (same_opcode h.opcode Abort) (way.Become Nothing) (inside_route s.opened s h)
