-- `audit::verdict::there_word` meets its contract: its tests are those of the definition. Assumes nothing.
use Rattle.std.proofs.Common.{sym, refl, ◌∙◌, eq-eqb, ne_eqb}
use Rattle.audit.specs.Verdict.{there_word}
use Rattle.audit.proofs.verdict.there_word.Goals as goal

pub returns-then-not-is_same : goal.returns-then-not-is_same
unfolding there_word
returns-then-not-is_same c = rw (sym c.is_same.ensures ∙ c.if-not-is_same.true) refl

pub returns-then-code-eq-SUCCESS : goal.returns-then-code-eq-SUCCESS
unfolding there_word
returns-then-code-eq-SUCCESS c =
    rw (
      sym c.is_same.ensures ∙ c.if-not-is_same.false,
      eq-eqb c.args.code 32 c.if-code-eq-SUCCESS.true,
    ) refl

pub returns : goal.returns
unfolding there_word
returns c =
    rw (
      sym c.is_same.ensures ∙ c.if-not-is_same.false,
      ne_eqb c.args.code 32 c.if-code-eq-SUCCESS.false,
    ) refl
