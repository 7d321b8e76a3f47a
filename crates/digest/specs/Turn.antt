-- What md5.rt's own functions say of each other, beside the RFC's definitions in Md5: the part of a message that falls into a block.
use Rattle.std.specs.Prelude.{ℕ, ◌-◌, min, List, length, drop}
use Rattle.std.proofs.Math.Seq.{paste}
use Rattle.digest.specs.declared.md5.Span.{Span}

-- Which of the `n` elements of a part at `from` fall into the block at `at`: the place of the first in the block, how many of the part
-- stand before it, and how many fall in.
unfoldable pub span_of : ℕ → ℕ → ℕ → Span
span_of at from n =
    let p = min (from - at) 64 in
    let s = min (at - from) n in
    record { place = p; skip = s; count = min (64 - p) (n - s) }

-- The block `b` at `at` with those elements of a part that fall into it.
unfoldable pub part_laid : List ℕ → ℕ → List ℕ → ℕ → List ℕ
part_laid b at part from =
    let s = span_of at from (length part) in
    paste b s.place (drop s.skip part) s.count
