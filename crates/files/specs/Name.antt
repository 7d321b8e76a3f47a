-- Which names are served, and the name that the headers of a request give (docs/PROTOCOL.md#text). Assumes nothing.
use Rattle.std.specs.Prelude.{ℕ, Bool, true, false, List, [], ◌∷◌, eqb, ltb, length, get_or}
use Rattle.base.specs.Pick.{pick}
use Rattle.base.specs.Place.{Place, Some, None}
use Rattle.text.specs.Text.{unicode_text}
use Rattle.packet.specs.HeaderIds as header_id
use Rattle.packet.specs.Header as header

-- Whether a byte may stand in a name: it is neither a zero nor a separator.
unfoldable pub part : ℕ → Bool
part b = pick (eqb b 0) false (pick (eqb b 47) false true)

-- Whether all bytes may stand in a name.
unfoldable pub plain : List ℕ → Bool
plain [] = true
plain (b ∷ s) = pick (part b) (plain s) false

-- Whether the bytes are a name that is served: one to 255 plain bytes, of which the first is no dot.
unfoldable pub file_name : List ℕ → Bool
file_name s = pick (eqb (length s) 0) false (pick (ltb 255 (length s)) false (pick (eqb (get_or s 0 0) 46) false (plain s)))

-- The text at a place of some headers, or none.
abbrev pub text_at : List ℕ → Place → List ℕ
text_at s None = []
text_at s (Some p) = unicode_text (header.part s p.start p.end)

-- The text of the first Name among some headers; no bytes if there is no Name.
unfoldable pub name_text : List ℕ → List ℕ
name_text s = text_at s (header.first_place header_id.name s 0)
