-- `packet::header::is_top_zero` meets its contract: all but the first byte are written as they were read. Assumes nothing.
use native.Mathlib.Omega.{arith}
use mathlib.Core.Path.{ap}
use lib.ListN.{length}
use Rattle.packet.proofs.CanonicalLaws.{not_same, top_test}
use Rattle.packet.proofs.header.is_top_zero.Goals as goal

pub returns-then-value-eq0 : goal.returns-then-value-eq0
returns-then-value-eq0 c = not_same _ _ (λ e. omega (arith, ap length e))

pub returns : goal.returns
returns c = top_test c.args.value.now (omega arith)
