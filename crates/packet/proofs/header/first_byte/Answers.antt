-- `packet::header::first_byte` meets its contract: past the end stands 0. Assumes nothing.
use native.Mathlib.Omega.{arith}
use mathlib.Core.Path.{sym}
use lib.ListN.{get_or-eq_default}
use Rattle.packet.proofs.header.first_byte.Goals as goal

pub returns-then-value-eq0 : goal.returns-then-value-eq0
returns-then-value-eq0 c = sym (get_or-eq_default c.args.value.now 0 (omega arith))
