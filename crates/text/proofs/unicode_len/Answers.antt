-- `text::unicode_len` meets its contract: the text is at most twice as long as the payload, so its length fits. Assumes nothing.
use mathlib.Core.Path.{ap}
use native.Mathlib.Omega.{arith}
use lib.ListN.{length}
use Rattle.text.proofs.TextSizes.{is_unicode, unicode_most}
use Rattle.text.proofs.unicode_len.Goals as goal

pub returns : goal.returns
returns c = let s = c.args.payload.now in omega (arith, c.text_len.ensures, ap length (is_unicode s), unicode_most s)
