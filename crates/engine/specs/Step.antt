-- What a call leads to, decided without the stores, and carried out: the design level between model/specs/Step and the code.
use Rattle.std.specs.Prelude.{ℕ, List, [], ◌∷◌, Bool, false, true, Option, Some, None}
use Rattle.connection.specs.Reply.{Sending as Replying, fields_of, send_bytes, sent_into, front}
use Rattle.connection.specs.declared.peer.Peer.{Peer}
use Rattle.model.specs.Step.{Stores, Stepped, stepped, with_reply, engine_with, Done, done}
use Rattle.server.specs.declared.Operation.{Operation}
use Rattle.server.specs.declared.Operation.TheVariants.{Nothing}
use Rattle.server.specs.declared.Await.TheVariants as await
use Rattle.server.specs.declared.End.TheVariants as end
use Rattle.server.specs.declared.Engine.{Engine}
use Rattle.server.specs.declared.Outcome.TheVariants as outcome
use Rattle.server.specs.declared.CallResult.{CallResult}
use Rattle.engine.specs.declared.step.Plan.{Plan}
use Rattle.engine.specs.declared.step.ShortReply.TheVariants.{Silent, Byte, Grant, Fields}
use Rattle.packet.specs.Codes.{sent_code}
use Rattle.packet.specs.Packet.{packet_bytes}
use Rattle.server.specs.declared.Await.{Await}
use Rattle.server.specs.declared.End.{End}
use Rattle.server.specs.declared.HostRequest.{HostRequest}
use Rattle.server.specs.declared.Outcome.{Outcome}
use Rattle.engine.specs.declared.step.ShortReply.{ShortReply}

-- The bytes of a short reply.
abbrev pub small_bytes : ShortReply → List ℕ
small_bytes Silent = []
small_bytes (Byte b) = packet_bytes b [] []
small_bytes Grant = packet_bytes 0x90 [] (0x97 ∷ 0x01 ∷ [])
small_bytes (Fields b limit) = packet_bytes b (fields_of limit) []

-- The engine carries a plan out: it writes the short reply to the front of the reply store.
abbrev pub planned : Plan → Stores → Done
planned p s = done p.engine p.outcome (with_reply s (front (small_bytes p.small) s.reply))

-- Makes a `Plan`.
abbrev pub plan : Engine → Outcome → ShortReply → Plan
plan e o m = record { engine = e; outcome = o; small = m }

-- The engine wants bytes.
unfoldable pub wants_plan : Engine → Peer → Operation → Plan
wants_plan e p o = plan (engine_with e.settings p o await.Bytes 0 e.length e.target) outcome.WantsBytes Silent

-- The engine asks the host.
unfoldable pub asks_plan : Engine → Peer → Operation → Await → HostRequest → Plan
asks_plan e p o a r = plan (engine_with e.settings p o a 0 e.length e.target) (outcome.Request r) Silent

-- The engine ends with `x`.
unfoldable pub ends_plan : Engine → Peer → End → Plan
ends_plan e p x = plan (engine_with e.settings p Nothing await.Nothing 0 e.length e.target) (outcome.End x) Silent

-- The engine replies with a first byte and no headers.
unfoldable pub code_plan : Engine → Peer → Await → ℕ → Plan
code_plan e p a b = plan (engine_with e.settings p Nothing a 0 e.length e.target) (outcome.Reply 3) (Byte b)

-- The engine replies with a code, Connect's fields and no headers.
unfoldable pub fields_plan : Engine → Peer → ℕ → Plan
fields_plan e p code =
    plan (engine_with e.settings p Nothing await.Taken 0 e.length e.target) (outcome.Reply 7)
    (Fields (sent_code code) e.settings.max_packet_length)

-- The engine replies with a first byte and no headers, and `o` is open afterwards.
unfoldable pub code_keeping_plan : Engine → Operation → ℕ → Plan
code_keeping_plan e o b = plan (engine_with e.settings e.peer o await.Taken 0 e.length e.target) (outcome.Reply 3) (Byte b)

-- How many bytes a Continue has: three, and two more for the header that grants Single Response Mode (SRM).
abbrev pub continue_length : Bool → ℕ
continue_length true = 5
continue_length false = 3

-- The short reply that a Continue is, by whether it grants SRM.
abbrev pub continue_small : Bool → ShortReply
continue_small true = Grant
continue_small false = Byte 0x90

-- The engine says Continue, with SingleResponseMode if `grant` is set.
unfoldable pub continue_plan : Engine → Operation → Bool → Plan
continue_plan e o grant =
    plan (engine_with e.settings e.peer o await.Taken 0 e.length e.target) (outcome.Reply (continue_length grant)) (continue_small grant)

-- A call returns `took` and leaves these bytes in the reply store.
pub record Written : Type 0 where
  pub took : CallResult
  pub reply : List ℕ

-- Makes a `Written`.
abbrev pub written : CallResult → List ℕ → Written
written r y = record { took = r; reply = y }

-- The call leaves the other stores as they were.
abbrev pub within : Written → Stores → Stepped
within w s = stepped w.took (with_reply s w.reply)

-- A call that takes no bytes returns this by its plan.
abbrev pub took_by : Plan → CallResult
took_by p = record { engine = p.engine; taken = 0; outcome = p.outcome }

-- The plan is carried out: its short reply stands at the front of the reply store.
abbrev pub carried : Plan → List ℕ → Written
carried p y = written (took_by p) (front (small_bytes p.small) y)

-- The engine replies with what was written, or ends if it was too large.
unfoldable pub sent_plan : Engine → Peer → Option ℕ → Plan
sent_plan e p None = ends_plan e p end.ReplyTooLarge
sent_plan e p (Some n) =
    plan (engine_with e.settings p Nothing await.Taken 0 e.length e.target) (outcome.Reply n) Silent

-- The same by what the writer of the reply gave.
abbrev pub sent_by : Engine → Peer → Replying → Written
sent_by e p z = written (took_by (sent_plan e p z.answer)) z.reply

-- The engine replies with a code, `fields` and headers.
unfoldable pub replies_by : Engine → Peer → ℕ → List ℕ → List ℕ → List ℕ → Written
replies_by e p code fields hs y = sent_by e p (sent_into (send_bytes p.remote_max_packet_length code fields hs) y)
