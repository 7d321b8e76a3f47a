-- `text::encoded_unicode_len` meets its contract: the bytes are at most twice as many as the text's, so their number fits. Assumes nothing.
use mathlib.Core.Path.{ap}
use native.Mathlib.Omega.{arith}
use lib.ListN.{length}
use Rattle.text.proofs.TextSizes.{is_encoded, encoded_most}
use Rattle.text.proofs.encoded_unicode_len.Goals as goal

pub returns : goal.returns
returns c = let t = c.args.text.now in omega (arith, c.text_len.ensures, ap length (is_encoded t), encoded_most t)
