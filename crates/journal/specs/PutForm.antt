-- The Put form, as the requirements call it (docs/PROTOCOL.md#put-form): which consecutive packets are one Put, and the record that they
-- stand for. It names packets, and of the journal only whether an operation was open or all had ended before the first, whether that one is
-- admitted, and whether it trails a Put that was too long. No engine is in it.
use Rattle.std.specs.Prelude.{ℕ, ◌+◌, ◌≤◌, ◌≡◌, List, [], ◌∷◌, map, Bool, true, false, ◌&&◌, ◌⊎◌, length, take, drop}
use Rattle.std.proofs.Math.Option.{Option, none, some}
use Rattle.packet.specs.FirstByte.{same_opcode}
use Rattle.packet.specs.Packet.{Request, request_of}
use Rattle.packet.specs.declared.opcode.Opcode.TheVariants.{Put}
use Rattle.journal.specs.Record.{Record, bare, joined, size_of, carried_by}
use Rattle.journal.specs.Journal.{Journal, Opened, nothing, trailing, putting, getting, sending, gathering, draining, busy, admitted, trails, Marked}

-- ---- what a packet is to a Put

-- The request is a Put.
abbrev pub is_put_request : Option Request → Bool
is_put_request none = false
is_put_request (some r) = same_opcode r.opcode Put

-- The packet can be read and is a Put.
unfoldable pub readable_put : List ℕ → Bool
readable_put p = is_put_request (request_of p)

-- The request has the Final bit.
abbrev pub final_request : Option Request → Bool
final_request none = false
final_request (some r) = r.final

-- The packet can be read and has the Final bit.
unfoldable pub is_final : List ℕ → Bool
is_final p = final_request (request_of p)

-- What the headers of a request carry.
abbrev pub carried_request : Option Request → Record
carried_request none = bare
carried_request (some r) = carried_by r.headers

-- What a packet carries: its kept headers, and its Body and EndOfBody bytes.
unfoldable pub carried_in : List ℕ → Record
carried_in p = carried_request (request_of p)

-- The journal admits the request.
abbrev pub admitted_request : Journal → Option Request → Bool
admitted_request j none = false
admitted_request j (some r) = admitted j.settings j.standing r

-- The journal admits the packet.
unfoldable pub admits : Journal → List ℕ → Bool
admits j p = admitted_request j (request_of p)

-- Packets that trail a Put that was too long are being refused.
abbrev pub is_trailing : Opened → Bool
is_trailing trailing = true
is_trailing nothing = false
is_trailing (putting c s) = false
is_trailing (getting k) = false
is_trailing sending = false
is_trailing (gathering o k) = false
is_trailing draining = false

-- The request is a Put packet without a Name.
abbrev pub trails_request : Option Request → Bool
trails_request none = false
trails_request (some r) = trails r

-- The packet trails a Put that was too long, so it is refused with it (docs/PROTOCOL.md#trailing).
unfoldable pub is_trailed : Journal → List ℕ → Bool
is_trailed j p = is_trailing j.opened && trails_request (request_of p)

-- ---- one Put

-- The first packet is admitted, with no operation open and before the end, and does not trail a Put that was too long.
abbrev pub Starts : List Marked → Type 0
Starts [] = ⊥
Starts (p ∷ ps) =
    (busy p.before.opened ≡ false) × (p.before.ended ≡ false) × (admits p.before p.bytes ≡ true)
    × (is_trailed p.before p.bytes ≡ false)

-- All are readable Put packets, and only the last has the Final bit.
abbrev pub Puts : List Marked → Type 0
Puts [] = ⊥
Puts (p ∷ []) = (readable_put p.bytes ≡ true) × (is_final p.bytes ≡ true)
Puts (p ∷ q ∷ ps) = (readable_put p.bytes ≡ true) × (is_final p.bytes ≡ false) × Puts (q ∷ ps)

-- What the packets carry, in order.
abbrev pub carried : List Marked → Record
carried [] = bare
carried (p ∷ ps) = joined (carried_in p.bytes) (carried ps)

-- These packets are one Put, and `r` is its record: their body bytes total no more than the limit.
pub record OnePut (limit : ℕ) (run : List Marked) (r : Record) : Type 0 where
  pub starts : Starts run
  pub puts : Puts run
  pub within : size_of r ≤ limit
  pub is : r ≡ carried run

-- ---- all Puts among some packets

-- Some packets of a list: the place of the first, how many there are, and a record.
pub record Form : Type 0 where
  pub first : ℕ
  pub count : ℕ
  pub given : Record

-- The packets of a form.
abbrev pub run_of : List Marked → Form → List Marked
run_of ps f = take f.count (drop f.first ps)

-- The form's packets are in the list, and are one Put with that record.
pub record IsForm (limit : ℕ) (ps : List Marked) (f : Form) : Type 0 where
  pub there : length (run_of ps f) ≡ f.count
  pub one : OnePut limit (run_of ps f) f.given

-- The form is in the list.
abbrev pub In : Form → List Form → Type 0
In f [] = ⊥
In f (g ∷ l) = (f ≡ g) ⊎ In f l

-- Each form begins after the end of the one before.
abbrev pub Apart : ℕ → List Form → Type 0
Apart n [] = Unit {0}
Apart n (f ∷ l) = (n ≤ f.first) × Apart (f.first + f.count) l

-- The records are those of all the Put forms among the packets, each once and in order; no packet is in two of them.
pub record Exactly (limit : ℕ) (ps : List Marked) (rs : List Record) : Type 0 where
  pub forms : List Form
  pub records : rs ≡ map (λ (f : Form). f.given) forms
  pub each : (f : Form) → In f forms → IsForm limit ps f
  pub all : (f : Form) → IsForm limit ps f → In f forms
  pub apart : Apart 0 forms
