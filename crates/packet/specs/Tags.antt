-- Tag lists (docs/PROTOCOL.md#tag-lists; IrOBEX 1.5, section 3.6, for those of authentication): a tag, a length, that many bytes, and so
-- on, filling the payload.
use Rattle.std.specs.Prelude.{Bool, true, false, ◌&&◌, ◌||◌, List, [], ◌∷◌, ◌++◌, ℕ, zero, suc, ◌+◌, ◌-◌, eqb, ltb, leb, length, get_or, take, drop}
use Rattle.std.proofs.Math.Option.{Option, none, some}
use Rattle.base.specs.Pick.{pick}
use Rattle.base.specs.Place.{Place, span, Some, None}
use Rattle.packet.specs.Limits.{max_tag_value}
use Rattle.packet.specs.declared.tlv.TagAt.{TagAt}
use Rattle.packet.specs.declared.tlv.TagAt.TheVariants as at_a_place
use Rattle.packet.specs.declared.store.LengthField.TheVariants.{OneByte}
use Rattle.packet.specs.Placed.{Putting, placed}

-- ---- the list that a payload is

-- One tag and the bytes of its value.
pub record Tag : Type 0 where
  pub tag : ℕ
  pub value : List ℕ

-- All the tags of a payload, or none of them.
pub data Tags : Type 0 where
  unreadable : Tags
  tag_list : List Tag → Tags

-- A tag in front of what the rest reads as.
abbrev pub push : Tag → Tags → Tags
push t unreadable = unreadable
push t (tag_list ts) = tag_list (t ∷ ts)

-- A tag, a length, that many bytes, and then the rest.
abbrev pub tag_then : (List ℕ → Tags) → List ℕ → Tags
tag_then rest [] = tag_list []
tag_then rest (t ∷ []) = unreadable
tag_then rest (t ∷ n ∷ s) = pick (leb n (length s)) (push (record { tag = t; value = take n s }) (rest (drop n s))) unreadable

-- The tags of a payload. Each takes two bytes or more, so a fuel over the length is enough.
unfoldable pub tags_by : ℕ → List ℕ → Tags
tags_by zero s = unreadable
tags_by (suc f) s = tag_then (tags_by f) s

-- The tags of a payload, which they fill.
unfoldable pub tags : List ℕ → Tags
tags s = tags_by (suc (length s)) s

-- The tags could be read.
abbrev pub is_readable : Tags → Bool
is_readable unreadable = false
is_readable (tag_list ts) = true

-- Tags fill the payload.
abbrev pub is_tag_list : List ℕ → Bool
is_tag_list s = is_readable (tags s)

-- ---- the cursor

-- What stands at `at`: the end, a tag whose value ends within the payload, or neither.
unfoldable pub tag_at : List ℕ → ℕ → TagAt
tag_at s at =
    pick (leb (length s) at) at_a_place.End
    (pick (ltb (length s - at) 2) at_a_place.Bad
    (pick (ltb (length s - (at + 2)) (get_or s (at + 1) 0)) at_a_place.Bad
    (at_a_place.At (get_or s at 0) (at + 2) (at + 2 + get_or s (at + 1) 0))))

-- ---- the last value under a tag

-- A tag with a value of `n` bytes is one that is looked for: it has the number, and its value is not empty, or an empty one counts too.
abbrev pub counts : ℕ → Bool → ℕ → ℕ → Bool
counts want empty t n = eqb t want && (empty || ltb 0 n)

-- Where the value of the last tag that counts stands among the tags that start at `at`, or what was found before them.
unfoldable pub last_from : ℕ → Bool → ℕ → Place → List Tag → Place
last_from want empty at before [] = before
last_from want empty at before (t ∷ ts) =
    last_from want empty (at + 2 + length t.value)
    (pick (counts want empty t.tag (length t.value)) (span (at + 2) (at + 2 + length t.value)) before) ts

-- Where the value of the last tag that counts stands; nothing is found in what is unreadable.
abbrev pub last_in : ℕ → Bool → ℕ → Place → Tags → Place
last_in want empty at before unreadable = None
last_in want empty at before (tag_list ts) = last_from want empty at before ts

-- Where the last value under a tag stands in a payload; `empty` says whether an empty one counts.
unfoldable pub last_under : List ℕ → ℕ → Bool → Place
last_under s want empty = last_in want empty 0 None (tags s)

-- Where the last value under a tag stands, even an empty one.
unfoldable pub last_value : List ℕ → ℕ → Place
last_value s want = last_under s want true

-- The bytes that stand at a place.
abbrev pub bytes_at : List ℕ → Place → Option (List ℕ)
bytes_at s (Some p) = some (take (p.end - p.start) (drop p.start s))
bytes_at s None = none

-- The value of the last tag that counts, or what was before the list.
unfoldable pub last_bytes : ℕ → Bool → Option (List ℕ) → List Tag → Option (List ℕ)
last_bytes want empty before [] = before
last_bytes want empty before (t ∷ ts) =
    last_bytes want empty (pick (counts want empty t.tag (length t.value)) (some t.value) before) ts

-- The value of the last tag that counts in a tag list.
abbrev pub last_of : ℕ → Bool → Tags → Option (List ℕ)
last_of want empty unreadable = none
last_of want empty (tag_list ts) = last_bytes want empty none ts

-- ---- the writer

-- The bytes of a tag.
abbrev pub write_tag : Tag → List ℕ
write_tag t = t.tag ∷ length t.value ∷ t.value

-- The bytes of all tags, one after the other.
unfoldable pub write_tags : List Tag → List ℕ
write_tags [] = []
write_tags (t ∷ ts) = write_tag t ++ write_tags ts

-- A tag goes to `at` of the store. Its length is one byte.
unfoldable pub put_tag : List ℕ → ℕ → ℕ → List ℕ → Putting
put_tag store at t v = placed store at OneByte (ltb max_tag_value (length v)) (write_tag (record { tag = t; value = v }))
