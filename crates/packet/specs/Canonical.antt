-- Canonical header bytes: what the writer gives for what the reader reads. The engine refuses an answer of the host that is not canonical
-- (docs/PROTOCOL.md#refusals, refusal 8).
use Rattle.std.specs.Prelude.{ℕ, List, [], ◌∷◌, ◌++◌, map, Bool, false, drop, ltb, eqb}
use Rattle.std.proofs.Math.Option.{Option, none, some}
use Rattle.base.specs.Pick.{pick}
use Rattle.text.specs.Unicode.{scalars16, scalars8, text8, utf16be}
use Rattle.packet.specs.HeaderIds as header_id
use Rattle.packet.specs.Header.{Header, read_headers, all_bytes}
use Rattle.packet.specs.Auth.{same}

-- UTF-16 text with a zero unit behind it, unless it is empty.
abbrev pub terminated16 : List ℕ → List ℕ
terminated16 [] = []
terminated16 (c ∷ cs) = utf16be (c ∷ cs) ++ (0 ∷ 0 ∷ [])

-- The value that the writer gives for a value that was read: ids below 0x40 are text; Type always gets a zero byte, Time none; the top byte
-- of Permissions is 0; any other value is written as it was read.
unfoldable pub rewritten : ℕ → List ℕ → List ℕ
rewritten id v =
    pick (ltb id 0x40) (terminated16 (scalars16 v))
    (pick (eqb id header_id.type) (text8 (scalars8 v) ++ (0 ∷ []))
    (pick (eqb id header_id.time) (text8 (scalars8 v))
    (pick (eqb id header_id.permissions) (0 ∷ drop 1 v) v)))

-- A header as the writer gives it for what was read.
abbrev pub rewritten_header : Header → Header
rewritten_header h = record { id = h.id; value = rewritten h.id h.value }

-- The bytes are what the writer gives for the headers read from them.
abbrev pub canonical_as : List ℕ → Option (List Header) → Bool
canonical_as s none = false
canonical_as s (some hs) = same (all_bytes (map rewritten_header hs)) s

-- The bytes read as headers, and the writer gives them back.
unfoldable pub canonical : List ℕ → Bool
canonical s = canonical_as s (read_headers s 0)
