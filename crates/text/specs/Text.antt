-- The text of a header's bytes (IrOBEX 1.5, section 2.1; docs/PROTOCOL.md#text), and what a lent store gets: the whole text, or nothing if
-- the store is too short (refusal 10).
use Rattle.std.specs.Prelude.{List, ◌++◌, ℕ, ltb, length, drop, Result, Ok, Err}
use Rattle.base.specs.Pick.{pick}
use Rattle.text.specs.declared.Piece.{Piece}
use Rattle.text.specs.declared.Form.{Form}
use Rattle.text.specs.declared.Form.TheVariants.{Utf8, Utf16}
use Rattle.base.specs.declared.Short.{Short}
use Rattle.base.specs.Store.{short}
use Rattle.text.specs.Unicode.{codes, pieces16, scalars16, pieces8, lossy, scalars8, utf8, utf16, joined, text8, utf16be}

-- The UTF-16 text of a header, as UTF-8.
unfoldable pub unicode_text : List ℕ → List ℕ
unicode_text s = text8 (scalars16 s)

-- The text of Type or Time, as UTF-8.
unfoldable pub ascii_text : List ℕ → List ℕ
ascii_text s = text8 (scalars8 s)

-- UTF-8 text as the UTF-16 that a header carries, without the zero unit behind it.
unfoldable pub unicode_bytes : List ℕ → List ℕ
unicode_bytes t = utf16be (lossy t)

-- The pieces of a text in one form.
abbrev pub pieces_of : Form → List ℕ → List Piece
pieces_of Utf8 s = pieces8 s
pieces_of Utf16 s = pieces16 s

-- A scalar value in one form.
abbrev pub encoded : Form → ℕ → List ℕ
encoded Utf8 c = utf8 c
encoded Utf16 c = utf16 c

-- A text in the form `from` as bytes of the form `to`: the three texts above are cases of it.
unfoldable pub recoded : Form → Form → List ℕ → List ℕ
recoded from to s = joined (encoded to) (codes (pieces_of from s))

-- The number of an answer: 10, the store is too short; none (0) if the text was written.
abbrev pub decoded_number : Result ℕ Short → ℕ
decoded_number (Ok n) = 0
decoded_number (Err e) = 10

-- A writer's answer, its number, and the store afterwards.
pub record Stored : Type 0 where
  pub answer : Result ℕ Short
  pub number : ℕ
  pub store : List ℕ

-- What a writer promises, by its answer `a` and the store `d` afterwards.
abbrev pub stored : Result ℕ Short → List ℕ → Stored
stored a d = record { answer = a; number = decoded_number a; store = d }

-- What the definition says: the answer `a` with the number `n`, and the store `d`.
abbrev pub numbered : ℕ → Result ℕ Short → List ℕ → Stored
numbered n a d = record { answer = a; number = n; store = d }

-- The text `t` goes to the front of the store `d`; if `d` is too short, nothing changes.
unfoldable pub store_text : List ℕ → List ℕ → Stored
store_text t d = pick (ltb (length d) (length t)) (numbered 10 (Err short) d) (numbered 0 (Ok (length t)) (t ++ drop (length t) d))
