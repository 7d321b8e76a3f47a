-- `filing::names::hex8` meets its contract: each digit is that of its place. Assumes nothing.
use mathlib.Core.Path.{refl}
use Rattle.filing.proofs.names.hex8.Goals as goal

pub returns : goal.returns
returns c =
    rw (
      c.hex_digit.ensures,
      c.hex_digit-2.ensures,
      c.hex_digit-3.ensures,
      c.hex_digit-4.ensures,
      c.hex_digit-5.ensures,
      c.hex_digit-6.ensures,
      c.hex_digit-7.ensures,
      c.hex_digit-8.ensures,
    ) refl
