-- The object of a Get as calls send it. The claim is that the replies which the host takes are the packets of the object (`packets_of` of
-- outgoing), whether a request of the peer is read between them or not, which Single Response Mode (SRM) decides.
use Rattle.std.specs.Prelude.{◌≡◌, ℕ, zero, suc, ◌-◌, ◌≤◌, List, [], ◌∷◌, ◌++◌, Bool, true, false, get_or, take, drop, eqb}
use Rattle.std.proofs.Math.Option.{Option, none, some}
use Rattle.text.specs.Unicode.{Octets}
use Rattle.packet.specs.Limits.{max_packet}
use Rattle.packet.specs.Header.{Header, read_headers}
use Rattle.base.specs.Pick.{pick}
use Rattle.packet.specs.Codes.{sent_code}
use Rattle.packet.specs.ResponseCodes as response
use Rattle.incoming.specs.declared.gather.Gathered.{Gathered}
use Rattle.outgoing.specs.Packets.{Packets, packets_of}
use Rattle.outgoing.specs.Claims.{Reads, gives, has_body_of, body_bytes_of}
use Rattle.server.specs.declared.Operation.TheVariants.{Getting}
use Rattle.server.specs.declared.Await.TheVariants as await
use Rattle.server.specs.declared.Engine.{Engine}
use Rattle.server.specs.declared.Outcome.{Outcome}
use Rattle.server.specs.declared.Outcome.TheVariants as outcome
use Rattle.model.specs.Step.{Stores, Stepped, limit_of}
use Rattle.model.specs.Guard.{short, short_tables, sound, bad_headers}
use Rattle.model.specs.Calls.{bytes_offered_step, reply_taken_step, object_given_step, body_given_step}
use Rattle.model.specs.Refusals.{Waits, bytes, taking, reply, object, acknowledgement, password, nonce, credentials, nothing, reading, asked}

-- A reply before others, if these were reached.
abbrev pub then_replies : List ℕ → Option (List (List ℕ)) → Option (List (List ℕ))
then_replies p none = none
then_replies p (some ps) = some (p ∷ ps)

-- The peer's request to go on: a Get packet without headers.
abbrev pub go_on : List ℕ
go_on = 0x83 ∷ 0x00 ∷ 0x03 ∷ []

-- The host's calls: `reads` says how it reads the body, and `t` is the table store that it lends.
module _ (reads : Reads) (t : List ℕ) where
  -- The host's answer to a request: to a body read, what it gives of the body that is left. Nothing else is asked for an object.
  abbrev pub answers_by : Waits → Engine → Stores → List ℕ → (List ℕ → Stepped → Option (List (List ℕ))) → Option (List (List ℕ))
  answers_by (reading n) e s left rest = rest (drop (gives reads n left) left) (body_given_step e (take (gives reads n left) left) s)
  answers_by bytes e s left rest = none
  answers_by taking e s left rest = none
  answers_by reply e s left rest = none
  answers_by object e s left rest = none
  answers_by acknowledgement e s left rest = none
  answers_by password e s left rest = none
  answers_by nonce e s left rest = none
  answers_by credentials e s left rest = none
  answers_by nothing e s left rest = none

  -- The host's next call, by what it was told: it sends a reply and says so, until one is not Continue; it answers a request; and if bytes
  -- are wanted, it offers the peer's request to go on.
  abbrev pub host_by : Outcome → Engine → Stores → List ℕ → (List ℕ → Stepped → Option (List (List ℕ))) → Option (List (List ℕ))
  host_by (outcome.Reply n) e s left rest =
      pick (eqb (get_or s.reply 0 0) (sent_code response.continue)) (then_replies (take n s.reply) (rest left (reply_taken_step e s)))
      (some (take n s.reply ∷ []))
  host_by (outcome.Request r) e s left rest = answers_by (asked r) e s left rest
  host_by outcome.WantsBytes e s left rest = rest left (bytes_offered_step e go_on s t)
  host_by (outcome.End x) e s left rest = none
  host_by (outcome.Refused x) e s left rest = none

  -- The replies from a call on, in at most `k` calls; `none` if these are not enough, or if a call goes another way.
  unfoldable pub replies_from : ℕ → List ℕ → Stepped → Option (List (List ℕ))
  replies_from zero left c = none
  replies_from (suc k) left c = host_by c.took.outcome c.took.engine c.stores left (replies_from k)

-- An object's packets as replies: if one of its headers is longer than the capacity, 0x50 follows.
abbrev pub as_replies : Packets → List (List ℕ)
as_replies ps = ps.sent ++ pick ps.whole [] ((sent_code response.internal_server_error ∷ 0 ∷ 3 ∷ []) ∷ [])

-- Whatever object the host gives for a Get, and however it reads the body, from some number of calls on the replies are its packets.
abbrev pub GetSends : Type 0
GetSends = (e : Engine) (s : Stores) (t : List ℕ) (g : Gathered) (srm confirm wait : Bool) (hs : List ℕ) (headers : List Header)
    (body : Option (List ℕ)) (reads : Reads)
    → short (limit_of e) s ≡ false → short_tables t ≡ false → sound e ≡ true → e.peer.remote_max_packet_length ≤ max_packet
    → e.awaits ≡ await.Get → e.operation ≡ Getting g srm confirm wait
    → bad_headers hs ≡ false → Octets hs → read_headers hs 0 ≡ some headers
    → (n : ℕ) × ((k : ℕ) → n ≤ k → replies_from reads t k (body_bytes_of body) (object_given_step e hs (has_body_of body) s)
    ≡ some (as_replies (packets_of (e.peer.remote_max_packet_length - 3) confirm headers body)))
