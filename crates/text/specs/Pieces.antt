-- What the reader of text promises of what it finds at a place, by cases. Unicode has the pieces.
use Rattle.std.specs.Prelude.{◌≡◌, List, [], ◌∷◌, ℕ, ◌+◌, ◌<◌, ◌≤◌, length, drop, Option, Some, None}
use Rattle.text.specs.declared.Piece.{Piece}
use Rattle.text.specs.declared.Form.{Form}
use Rattle.text.specs.Text.{pieces_of}

-- The piece `p` stands at `at`, and the other pieces behind it.
pub record ReadsOne (f : Form) (s : List ℕ) (at : ℕ) (p : Piece) : Type 0 where
  pub first : pieces_of f (drop at s) ≡ p ∷ pieces_of f (drop (at + p.size) s)
  pub some : 1 ≤ p.size
  pub within : at + p.size ≤ length s
  pub scalar : p.code < 0x110000

-- What the reader found at `at` stands there.
abbrev pub Reads : Form → List ℕ → ℕ → Option Piece → Type 0
Reads f s at None = pieces_of f (drop at s) ≡ []
Reads f s at (Some p) = ReadsOne f s at p
