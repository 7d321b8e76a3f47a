-- What is claimed of an object that is sent: its packets are those of Packets, in whatever pieces the host reads the body. The run below
-- makes them by the two definitions that the contracts of `next_packet` and `body_given` cite.
use Rattle.std.specs.Prelude.{◌≡◌, ℕ, zero, suc, ◌≤◌, min, List, [], ◌∷◌, Bool, true, false, length, take, drop}
use Rattle.std.proofs.Math.Option.{Option, none, some}
use Rattle.text.specs.Unicode.{Octets}
use Rattle.packet.specs.Limits.{max_packet, max_capacity}
use Rattle.packet.specs.Header.{Header, read_headers}
use Rattle.outgoing.specs.declared.object.Outgoing.{Outgoing}
use Rattle.outgoing.specs.declared.object.Next.{Next}
use Rattle.outgoing.specs.declared.object.Next.TheVariants.{Send, Read, TooLarge}
use Rattle.outgoing.specs.Object.{Made, next_packet, body_given_of}
use Rattle.outgoing.specs.Packets.{Packets, all_sent, cannot_go, before, packets_of}

-- ---- the host

-- How a host reads: from what is left of the body, how many bytes it gives at most, less one. So a read gives no bytes only if none are
-- left, and since each read leaves less, every way to cut a body into pieces is one of these.
abbrev pub Reads : Type 0
Reads = List ℕ → ℕ

-- How many bytes the host gives of what is left: never more than it is asked for.
abbrev pub gives : Reads → ℕ → List ℕ → ℕ
gives reads asked left = min asked (suc (reads left))

-- ---- the run

-- A packet before others, if these were reached.
abbrev pub before_run : List ℕ → Option Packets → Option Packets
before_run p none = none
before_run p (some r) = some (before p r)

module _ (capacity : ℕ) (store : List ℕ) (reads : Reads) where
  -- What follows a packet that was made or begun, with what the host has left of the body, given what the rest gives: a whole packet is
  -- taken, and the next is made; a read is answered with what the host gives.
  abbrev pub run_by : Next → Made → List ℕ → (List ℕ → Made → Option Packets) → Option Packets
  run_by (Send n true) m left rest = some (all_sent (take n m.reply ∷ []))
  run_by (Send n false) m left rest =
      before_run (take n m.reply) (rest left (next_packet capacity m.packet.outgoing store m.reply))
  run_by Read m left rest =
      let n = gives reads m.packet.chunk.room left in
      rest (drop n left) (body_given_of m.packet.outgoing m.packet.chunk (take n left) m.reply)
  run_by TooLarge m left rest = some cannot_go

  -- The packets that are sent, in at most `k` steps; `none` if they are not enough.
  unfoldable pub run : ℕ → List ℕ → Made → Option Packets
  run zero left m = none
  run (suc k) left m = run_by m.packet.next m left (run k)

-- ---- the claim

-- An object before its first packet, of `total` header bytes; `granted` puts the grant of Single Response Mode in front of them.
abbrev pub fresh : ℕ → Bool → Bool → Outgoing
fresh total granted has =
    record { total = total; sent = 0; lead = granted; has_body = has; has_pending = false; pending = 0 }

-- The object has a body.
abbrev pub has_body_of : Option (List ℕ) → Bool
has_body_of none = false
has_body_of (some b) = true

-- What the host has of the body at first.
abbrev pub body_bytes_of : Option (List ℕ) → List ℕ
body_bytes_of none = []
body_bytes_of (some b) = b

-- From some number of steps on, the run gives these packets.
abbrev pub Runs : ℕ → List ℕ → Reads → List ℕ → Made → Packets → Type 0
Runs capacity store reads left m ps = (n : ℕ) × ((k : ℕ) → n ≤ k → run capacity store reads k left m ≡ some ps)

-- Whatever headers stand at the front of the header store, and however the host reads the body, the packets sent are those of the object.
abbrev pub SentAsPackets : Type 0
SentAsPackets = (capacity total : ℕ) (granted : Bool) (store reply : List ℕ) (headers : List Header) (body : Option (List ℕ)) (reads : Reads)
    → 252 ≤ capacity → capacity ≤ max_capacity → max_packet ≤ length reply → total ≤ length store → Octets (take total store)
    → read_headers (take total store) 0 ≡ some headers
    → Runs capacity store reads (body_bytes_of body) (next_packet capacity (fresh total granted (has_body_of body)) store reply)
    (packets_of capacity granted headers body)
