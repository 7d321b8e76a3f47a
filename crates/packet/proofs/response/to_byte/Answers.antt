-- `packet::response::to_byte` meets its contract: the code's `|` sets the top bit. Assumes nothing.
use native.Mathlib.Omega.{arith}
use Rattle.packet.proofs.TopBit.{set_top}
use Rattle.packet.proofs.response.to_byte.Goals as goal

pub returns : goal.returns
returns c = set_top c.args.code (omega arith)
