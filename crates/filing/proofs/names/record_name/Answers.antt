-- `filing::names::record_name` meets its contract: each digit is the last one of the number without those behind it. Assumes nothing.
use mathlib.Core.Path.{refl}
use Rattle.calendar.specs.Time.{decimal}
use Rattle.filing.specs.Names.{record_name}
use Rattle.filing.proofs.names.record_name.Goals as goal

pub returns : goal.returns
unfolding record_name decimal
returns c =
    rw (
      c.decimal_digit.ensures,
      c.decimal_digit-2.ensures,
      c.decimal_digit-3.ensures,
      c.decimal_digit-4.ensures,
      c.decimal_digit-5.ensures,
      c.decimal_digit-6.ensures,
    ) refl
