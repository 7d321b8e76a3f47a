-- `text::recode` meets its contract: a store that is shorter than the saturated length is shorter than the text. Assumes nothing.
use native.Mathlib.Omega.{arith}
use Rattle.text.specs.Text.{recoded}
use Rattle.text.proofs.TextRoom.{stored_short}
use Rattle.text.proofs.recode.Goals as goal

pub returns-then-d-text_len : goal.returns-then-d-text_len
returns-then-d-text_len c =
    let x = c.args in
    stored_short (recoded x.from x.to x.s.now) x.d.now (omega (arith, c.if-d-text_len.true, c.text_len.ensures))
