-- `text::is_well_formed8` meets its contract: with a zero the pieces before it are not all bytes; with none they are. Assumes nothing.
use mathlib.Core.Path.{sym, ◌∙◌}
use native.Mathlib.Omega.{arith}
use borrow.Author.Tests.{ne_eqb}
use Rattle.text.proofs.Cut.{cut-within}
use Rattle.text.proofs.TextWhole.{cut-some, cut-nothing}
use Rattle.text.proofs.is_well_formed8.Goals as goal

pub returns-then-zero_at-s : goal.returns-then-zero_at-s
returns-then-zero_at-s c =
    c.is_whole.ensures
    ∙ cut-nothing c.args.s.now (omega (arith, c.if-zero_at-s.true, c.zero_at.ensures))

pub returns-else-zero_at-s : goal.returns-else-zero_at-s
returns-else-zero_at-s c =
    rw (ne_eqb _ _ c.if-zero_at-s.false)
    (sym (cut-some c.args.s.now (omega (arith, c.if-zero_at-s.false, c.zero_at.ensures, cut-within c.args.s.now))))
