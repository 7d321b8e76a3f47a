-- `packet::header::wide_size` meets its contract: no bytes, or two more than those of the text. Assumes nothing.
use native.Mathlib.Omega.{arith}
use mathlib.Core.Path.{sym, ◌∙◌}
use Rattle.packet.proofs.TextStore.{none16, some16}
use Rattle.packet.proofs.header.wide_size.Goals as goal

pub returns-then-n-eq0 : goal.returns-then-n-eq0
returns-then-n-eq0 c =
    omega (
      arith,
      none16 c.args.text.now
          (sym c.encoded_unicode_len-n.ensures ∙ c.if-n-eq0.true),
    )

pub returns : goal.returns
returns c =
    let t = c.args.text.now in
    let e = c.encoded_unicode_len-n.ensures in
    omega (arith, c.plus.ensures, e, some16 t (λ q. c.if-n-eq0.false (e ∙ q)))
