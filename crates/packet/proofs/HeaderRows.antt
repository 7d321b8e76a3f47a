-- The definitions on examples, computed: the source's own (header.rs), and rows of refusal 8. Assumes nothing.
use mathlib.Core.Path.{◌≡◌, refl}
use mathlib.Core.Bool.{Bool, true, false}
use mathlib.Core.List.{List, [], ◌∷◌, ◌++◌, map}
use Prim.Native.Nat.{ℕ}
use Rattle.text.specs.Unicode.{up_to_zero_of, codes, units, is_pair, first16, paired, pieces16, scalars16, need, low, high, inside, first8, split8, pieces8, lossy, scalars8, utf8, utf16, joined}
use Rattle.base.specs.Bytes.{bytes32}
use Rattle.text.specs.Text.{ascii_text}
use Rattle.packet.specs.Modes.{is_mode, is_parameter, is_action}
use Rattle.packet.specs.Tags.{tags_by, tags}
use Rattle.packet.specs.Auth.{same}
use Rattle.packet.specs.Header.{encoding_of, tagged, allowed, encoded_at, header_at_of, walk, read_headers, bytes_of, all_bytes}
use Rattle.packet.specs.HeaderWriter.{header}
use Rattle.packet.specs.Canonical.{terminated16, rewritten, canonical}

record Row : Type 0 where
  bytes : List ℕ
  is : Bool

row : List ℕ → Bool → Row
row b x = record { bytes = b; is = x }

-- which bytes are what the writer gives for what the reader reads
rows : List Row
rows =
    row [] true
    -- Name: empty; "a"; a terminator alone; none; a byte after it; an unpaired surrogate
    ∷ row (0x01 ∷ 0 ∷ 3 ∷ []) true
    ∷ row (0x01 ∷ 0 ∷ 7 ∷ 0 ∷ 97 ∷ 0 ∷ 0 ∷ []) true
    ∷ row (0x01 ∷ 0 ∷ 5 ∷ 0 ∷ 0 ∷ []) false
    ∷ row (0x01 ∷ 0 ∷ 5 ∷ 0 ∷ 97 ∷ []) false
    ∷ row (0x01 ∷ 0 ∷ 8 ∷ 0 ∷ 97 ∷ 0 ∷ 0 ∷ 0 ∷ []) false
    ∷ row (0x01 ∷ 0 ∷ 7 ∷ 0xD8 ∷ 0 ∷ 0 ∷ 0 ∷ []) false
    -- Type: empty, and without its zero; "pdf"; a zero inside; ill-formed
    ∷ row (0x42 ∷ 0 ∷ 4 ∷ 0 ∷ []) true
    ∷ row (0x42 ∷ 0 ∷ 3 ∷ []) false
    ∷ row (0x42 ∷ 0 ∷ 7 ∷ 112 ∷ 100 ∷ 102 ∷ 0 ∷ []) true
    ∷ row (0x42 ∷ 0 ∷ 6 ∷ 112 ∷ 0 ∷ 0 ∷ []) false
    ∷ row (0x42 ∷ 0 ∷ 5 ∷ 0xC0 ∷ 0 ∷ []) false
    -- Time: no zero
    ∷ row (0x44 ∷ 0 ∷ 4 ∷ 49 ∷ []) true
    ∷ row (0x44 ∷ 0 ∷ 5 ∷ 49 ∷ 0 ∷ []) false
    -- Permissions: the top byte
    ∷ row (0xD6 ∷ 0 ∷ 1 ∷ 2 ∷ 3 ∷ []) true
    ∷ row (0xD6 ∷ 1 ∷ 1 ∷ 2 ∷ 3 ∷ []) false
    -- unreadable: a mode of 3, an action of 3, a broken tag list, a length of 2, a length past the end, a byte left over
    ∷ row (0x97 ∷ 3 ∷ []) false
    ∷ row (0x94 ∷ 3 ∷ []) false
    ∷ row (0x4C ∷ 0 ∷ 4 ∷ 1 ∷ []) false
    ∷ row (0x48 ∷ 0 ∷ 2 ∷ []) false
    ∷ row (0x48 ∷ 0 ∷ 4 ∷ []) false
    ∷ row (0x97 ∷ 1 ∷ 0xC0 ∷ []) false
    -- two headers, the second unknown
    ∷ row (0x97 ∷ 1 ∷ 0x70 ∷ 0 ∷ 4 ∷ 9 ∷ []) true
    ∷ []

canonical-rows : map (λ (r : Row). row r.bytes (canonical r.bytes)) rows ≡ rows
unfolding row rows canonical read_headers walk header_at_of encoded_at encoding_of allowed tagged is_mode is_parameter is_action tags tags_by same bytes_of all_bytes rewritten up_to_zero_of codes units is_pair first16 paired pieces16 scalars16 need low high inside first8 split8 pieces8 lossy scalars8 utf8 utf16 joined
canonical-rows = refl

-- the source's examples of writing: Name "ab", an empty Name, Type "pdf", ConnectionID 0x01020304
written : List (List ℕ)
written =
    bytes_of (header 0x01 (terminated16 (lossy (97 ∷ 98 ∷ []))))
    ∷ bytes_of (header 0x01 (terminated16 (lossy [])))
    ∷ bytes_of (header 0x42 (ascii_text (112 ∷ 100 ∷ 102 ∷ []) ++ (0 ∷ [])))
    ∷ bytes_of (header 0xCB (bytes32 0x01020304))
    ∷ []

written-rows : written
    ≡ (0x01 ∷ 0 ∷ 9 ∷ 0 ∷ 0x61 ∷ 0 ∷ 0x62 ∷ 0 ∷ 0 ∷ [])
    ∷ (0x01 ∷ 0 ∷ 3 ∷ [])
    ∷ (0x42 ∷ 0 ∷ 7 ∷ 0x70 ∷ 0x64 ∷ 0x66 ∷ 0 ∷ [])
    ∷ (0xCB ∷ 1 ∷ 2 ∷ 3 ∷ 4 ∷ [])
    ∷ []
unfolding written bytes_of encoding_of ascii_text up_to_zero_of codes need low high inside first8 split8 pieces8 lossy scalars8 utf8 utf16 joined
written-rows = refl
