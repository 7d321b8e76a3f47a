-- `packet::header::text_size` meets its contract: each arm is a case of `text_value`. Assumes nothing.
use native.Mathlib.Omega.{arith}
use mathlib.Core.List.{[], ◌∷◌}
use lib.ListN.{length-append}
use Rattle.text.specs.Text.{ascii_text}
use Rattle.packet.proofs.header.text_size.Goals as goal

pub returns-in-Wide : goal.returns-in-Wide
returns-in-Wide c = rw c.in-Wide.is c.wide_size.ensures

pub returns-in-Ended : goal.returns-in-Ended
returns-in-Ended c =
    rw c.in-Ended.is
    (omega (
      arith,
      c.plus.ensures,
      c.ascii_len.ensures,
      length-append
          (ascii_text c.args.text.now) (0 ∷ []),
    ))

pub returns-in-Bare : goal.returns-in-Bare
returns-in-Bare c = rw c.in-Bare.is c.ascii_len-in-Bare.ensures
