-- `text::width16` meets its contract. The range of the scalar value decides, as in the definition. Assumes nothing.
use mathlib.Core.Path.{ap, sym}
use native.Mathlib.Omega.{arith}
use lib.ListN.{length}
use Rattle.text.proofs.Widths.{utf16_1, utf16_2}
use Rattle.text.proofs.width16.Goals as goal

pub returns-then-c-lt65536 : goal.returns-then-c-lt65536
returns-then-c-lt65536 c = (sym (ap length (utf16_1 c.args.c c.if-c-lt65536.true)), omega arith)

pub returns-else-c-lt65536 : goal.returns-else-c-lt65536
returns-else-c-lt65536 c = (sym (ap length (utf16_2 c.args.c c.if-c-lt65536.false)), omega arith)
