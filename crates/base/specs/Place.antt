-- Where bytes stand in a list of them, if they stand there: a part of the list, or none.
use Rattle.std.specs.Prelude.{ℕ, Option}
pub use Rattle.std.specs.Prelude.{Some, None}
use Rattle.base.specs.declared.Span.{Span}

-- A part of a list, if there is one.
abbrev pub Place : Type 0
Place = Option Span

-- The part from `b` up to `e`.
abbrev pub span : ℕ → ℕ → Place
span b e = Some (record { start = b; end = e })
