-- `audit::verdict::absent_word` meets its contract: its tests are those of the definition. Assumes nothing.
use Rattle.std.proofs.Common.{refl, eq-eqb, ne_eqb}
use Rattle.audit.specs.Verdict.{absent_word}
use Rattle.audit.proofs.verdict.absent_word.Goals as goal

pub returns-then-code-eq-SUCCESS : goal.returns-then-code-eq-SUCCESS
unfolding absent_word
returns-then-code-eq-SUCCESS c = rw (eq-eqb c.args.code 32 c.if-code-eq-SUCCESS.true) refl

pub returns-then-has_part : goal.returns-then-has_part
unfolding absent_word
returns-then-has_part c = rw (ne_eqb c.args.code 32 c.if-code-eq-SUCCESS.false, c.if-has_part.true) refl

pub returns : goal.returns
unfolding absent_word
returns c = rw (ne_eqb c.args.code 32 c.if-code-eq-SUCCESS.false, c.if-has_part.false) refl
