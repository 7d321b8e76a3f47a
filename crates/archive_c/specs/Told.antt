-- What a call of the archive tells C: the number of its answer (docs/DECISIONS.md, part B), and the target afterwards.
use Rattle.std.specs.Prelude.{ℕ, List}
use Rattle.archive.specs.Writing.{wrote_number, Writing}
use Rattle.archive.specs.Reading.{body_number, Reading}

-- What C is told: the number of the answer, and the target afterwards.
pub record Told : Type 0 where
  pub number : ℕ
  pub target : List ℕ

-- Makes a `Told`.
abbrev pub told : ℕ → List ℕ → Told
told n t = record { number = n; target = t }

-- What a call of `write` tells C.
abbrev pub told_writing : Writing → Told
told_writing w = told (wrote_number w.answer) w.target

-- What a call of `read` tells C.
abbrev pub told_reading : Reading → Told
told_reading r = told (body_number r.answer) r.target
