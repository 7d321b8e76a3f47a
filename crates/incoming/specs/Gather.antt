-- Gathering (docs/PROTOCOL.md#put, #get, #headers-only; the source's engine/server.rs): the headers of an operation's packets go to the
-- header store as received, the body bytes of a Put to the body store.
use Rattle.std.specs.Prelude.{ℕ, ◌+◌, List, [], ◌∷◌, Bool, true, false, length, leb, Option}
use Rattle.std.proofs.Math.Seq.{paste}
use Rattle.base.specs.Pick.{pick}
use Rattle.packet.specs.Limits.{max_packet}
use Rattle.packet.specs.Header.{Header, bytes_of}
use Rattle.journal.specs.Record.{is_body, is_srm}
pub use Rattle.journal.specs.Journal.{list_of as headers_of}
use Rattle.incoming.specs.declared.gather.Keep.{Keep}
use Rattle.incoming.specs.declared.gather.Keep.TheVariants.{Put, Get, All}
use Rattle.incoming.specs.declared.gather.Gathered.{Gathered}

-- What is gathered, with the header and body stores.
pub record Gathering : Type 0 where
  pub got : Gathered
  pub headers : List ℕ
  pub body : List ℕ

-- Makes a `Gathering`.
abbrev pub gathering : Gathered → List ℕ → List ℕ → Gathering
gathering g h b = record { got = g; headers = h; body = b }

-- How many body bytes a Put or a part has, as the code says it: none if no body header came, which differs from a body of 0 bytes.
abbrev pub Body : Type 0
Body = Option ℕ

-- What becomes of a header.
pub data Fate : Type 0 where
  kept stored dropped : Fate

-- The body headers of a Put are stored.
abbrev pub is_stored : Keep → ℕ → Bool
is_stored Put id = is_body id
is_stored Get id = false
is_stored All id = false

-- The headers of Single Response Mode (SRM) of a Put or a Get are dropped.
abbrev pub is_dropped : Keep → ℕ → Bool
is_dropped Put id = is_srm id
is_dropped Get id = is_srm id
is_dropped All id = false

-- What becomes of a header with an id: it is stored, dropped, or kept.
abbrev pub fate_of : Keep → ℕ → Fate
fate_of k id = pick (is_stored k id) stored (pick (is_dropped k id) dropped kept)

-- A header is kept if the kept headers stay within 65,535 bytes; else gathering stops there (6).
unfoldable pub keep_bytes : Gathering → List ℕ → Gathering
keep_bytes g bs =
    pick (leb (g.got.kept + length bs) max_packet)
    (gathering
    (record { kept = g.got.kept + length bs; body = g.got.body; came = g.got.came; over = g.got.over; full = false })
    (paste g.headers g.got.kept bs (length bs))
    g.body)
    (gathering (record { kept = g.got.kept; body = g.got.body; came = g.got.came; over = g.got.over; full = true }) g.headers g.body)

-- Body bytes are stored; those of a header that would pass the limit are not stored at all.
unfoldable pub store_bytes : ℕ → Gathering → List ℕ → Gathering
store_bytes limit g bs =
    pick (leb (g.got.body + length bs) limit)
    (gathering
    (record { kept = g.got.kept; body = g.got.body + length bs; came = true; over = g.got.over; full = false })
    g.headers
    (paste g.body g.got.body bs (length bs)))
    (gathering (record { kept = g.got.kept; body = g.got.body; came = true; over = true; full = false }) g.headers g.body)

-- A header is gathered by its fate.
abbrev pub gather_by : Fate → ℕ → Gathering → Header → Gathering
gather_by kept limit g h = keep_bytes g (bytes_of h)
gather_by stored limit g h = store_bytes limit g h.value
gather_by dropped limit g h = g

-- One header is gathered.
unfoldable pub gather_one : Keep → ℕ → Gathering → Header → Gathering
gather_one k limit g h = gather_by (fate_of k h.id) limit g h

-- Headers are gathered in list order, up to one that does not fit.
unfoldable pub gather_all : Keep → ℕ → List Header → Gathering → Gathering
gather_all k limit [] g = g
gather_all k limit (h ∷ hs) g = pick g.got.full g (gather_all k limit hs (gather_one k limit g h))
