-- `audit::waiting::topped` meets its contract: its tests are those of the definition. Assumes nothing.
use Rattle.std.proofs.Common.{refl, arith, le-ltb, lt-ltb}
use Rattle.audit.specs.Waiting.{topped}
use Rattle.audit.proofs.waiting.topped.Goals as goal

pub returns-then-code-lt128 : goal.returns-then-code-lt128
unfolding topped
returns-then-code-lt128 c = rw (lt-ltb c.args.code 128 c.if-code-lt128.true) refl

pub returns-else-code-lt128 : goal.returns-else-code-lt128
unfolding topped
returns-else-code-lt128 c = rw (le-ltb c.args.code 128 (omega arith)) refl
