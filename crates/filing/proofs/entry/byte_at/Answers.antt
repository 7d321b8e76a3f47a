-- `filing::entry::byte_at` meets its contract: past the end it is 0. Assumes nothing.
use native.Mathlib.Omega.{arith}
use mathlib.Core.Path.{sym}
use lib.ListN.{get_or-eq_default}
use Rattle.filing.proofs.entry.byte_at.Goals as goal

pub returns-else-i-payload : goal.returns-else-i-payload
returns-else-i-payload c = sym (get_or-eq_default c.args.payload.now 0 (omega arith))
