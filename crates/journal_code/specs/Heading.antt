-- What the journal asks of a packet, as the code has it (docs/PROTOCOL.md#journal): of a few headers the first.
use Rattle.std.specs.Prelude.{ℕ, List, Bool, true, false, Option as Maybe, Some, None}
use Rattle.std.proofs.Math.Option.{Option, none, some}
use Rattle.base.specs.Pick.{pick}
use Rattle.packet.specs.HeaderIds as header_id
use Rattle.packet.specs.Header.{first, present}
use Rattle.packet.specs.Packet.{Request, prefix_of}
use Rattle.packet.specs.declared.opcode.Opcode.{Opcode}
use Rattle.packet.specs.declared.opcode.Opcode.TheVariants.{Connect, Disconnect, Put, Get, SetPath, Action, Session, Abort, UserDefined}
use Rattle.journal.specs.Ids.{member}
use Rattle.table.specs.Targets.{unnamed, place_of, target_at}
use Rattle.table.specs.declared.targets.Target.{Target}
use Rattle.incoming.specs.Survey.{survey_of}
use Rattle.connection.specs.Peer.{target_asked, ConnectionId}
use Rattle.journal_code.specs.declared.heading.Link.{Link}
use Rattle.journal_code.specs.declared.heading.Heading.{Heading}
use Rattle.journal_code.specs.declared.state.Last.{Last}
use Rattle.journal_code.specs.declared.state.Last.TheVariants as last

-- Makes a `Link`.
abbrev pub link : ConnectionId → Bool → Target → Link
link named unknown under = record { named = named; unknown = unknown; under = under }

-- The connection that a survey names by `has` and `id`; the ids are open, and stand in the table store `t`.
unfoldable pub link_by : Bool → ℕ → List ℕ → List ℕ → Link
link_by has id ids t =
    pick has
    (pick (member id ids) (link (Some id) false (target_at t (place_of id ids))) (link (Some id) true unnamed))
    (link None false unnamed)

-- The connection that a request names.
abbrev pub link_of : Request → List ℕ → List ℕ → Link
link_of r ids t = link_by (survey_of (some r.headers)).has_id (survey_of (some r.headers)).id ids t

-- What the journal asks of a request.
abbrev pub heading_of : Request → List ℕ → List ℕ → Heading
heading_of r ids t =
    record {
      opcode = r.opcode;
      is_final = r.final;
      headers = prefix_of r.opcode;
      enable = (survey_of (some r.headers)).enable;
      named = (link_of r ids t).named;
      unknown = (link_of r ids t).unknown;
      under = (link_of r ids t).under;
      has_name = present (first header_id.name r.headers);
      has_response = present (first header_id.authenticate_response r.headers);
      target = target_asked (first header_id.target r.headers);
    }

-- The same of what a packet reads as.
abbrev pub reading_of : Option Request → List ℕ → List ℕ → Maybe Heading
reading_of none ids t = None
reading_of (some r) ids t = Some (heading_of r ids t)

-- What of a request decides what the host's reply to it does.
abbrev pub last_by : Opcode → Heading → Last
last_by Connect h = last.Connect h.enable h.target
last_by Disconnect h = last.Disconnect h.named
last_by Put h = last.Other
last_by Get h = last.Other
last_by SetPath h = last.Other
last_by Action h = last.Other
last_by Session h = last.Other
last_by Abort h = last.Other
last_by (UserDefined x) h = last.Other
