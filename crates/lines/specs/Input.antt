-- What is read of an input: the part of a store that is kept, and the line that follows another one in it.
use Rattle.std.specs.Prelude.{ℕ, ◌+◌, ◌-◌, List, Bool, true, false, length, take, drop, ltb}
use Rattle.std.proofs.Math.Seq.{paste}
use Rattle.base.specs.Pick.{pick}
use Rattle.lines.specs.declared.input.Line.{Line}
use Rattle.lines.specs.Word.{Filled, filled, between, first_from, line_feed}
use Rattle.lines.specs.Output.{least_of}

-- What stands from `from` up to `to`, at the front.
unfoldable pub kept_front : List ℕ → ℕ → ℕ → Filled
kept_front s from to = filled (paste s 0 (drop from s) (to - from)) (to - from)

-- What stands before the first line.
abbrev pub before_first : Line
before_first =
    record { start = 0; end = 0; next = 0; have = 0; is_there = false; is_cut = false; is_over = false }

-- Up to where a store holds input behind the line `x`, and from where on.
abbrev pub have_of : List ℕ → Line → ℕ
have_of s x = least_of x.have (length s)

abbrev pub next_of : List ℕ → Line → ℕ
next_of s x = least_of x.next (have_of s x)

-- The end of the line that follows `x`, or of the input in the store.
abbrev pub end_after : List ℕ → Line → ℕ
end_after s x = first_from (take (have_of s x) s) (next_of s x) line_feed

-- Whether all of the line that follows `x` is in the store.
abbrev pub has_line : List ℕ → Line → Bool
has_line s x = ltb (end_after s x) (have_of s x)

-- Whether the start of the line that follows `x` was dropped while it was read.
abbrev pub has_cut : Line → Bool
has_cut x = pick x.is_there false x.is_cut

-- That line.
abbrev pub line_after : List ℕ → Line → Line
line_after s x =
    record {
      start = next_of s x;
      end = end_after s x;
      next = end_after s x + 1;
      have = have_of s x;
      is_there = true;
      is_cut = has_cut x;
      is_over = false;
    }

-- The bytes of a line in a store, whatever places it names.
unfoldable pub bytes_of : List ℕ → Line → List ℕ
bytes_of s x = between s (least_of x.start (least_of x.end (length s))) (least_of x.end (length s))
