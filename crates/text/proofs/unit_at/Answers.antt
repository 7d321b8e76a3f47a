-- `text::unit_at` meets its contract. Two bytes are there, or the units have ended. Assumes nothing.
use mathlib.Core.Path.{◌∙◌}
use native.Mathlib.Omega.{arith}
use Rattle.text.proofs.Pairs.{unit_none, unit_some}
use Rattle.text.proofs.unit_at.Goals as goal
use Rattle.text.proofs.unit_at.Goals.{then-s-lt2-via-then-s-lt2, then-s-lt2-via-else-s-lt2+then-s-at}

pub returns-then-s-lt2 : goal.returns-then-s-lt2
returns-then-s-lt2 c =
    let x = c.args in
    elim c.then-s-lt2.branch [
      | then-s-lt2-via-then-s-lt2 w ↦ (unit_none x.s.now x.at (omega arith), omega arith)
      | then-s-lt2-via-else-s-lt2+then-s-at w ↦ (unit_none x.s.now x.at (omega arith), omega arith)
    ]

pub returns : goal.returns
returns c =
    let x = c.args in
    (c.from.ensures ∙ c.from_be_bytes.ensures ∙ unit_some x.s.now x.at (omega arith), omega (arith, c.from.ensures))
