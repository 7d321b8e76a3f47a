-- `calendar::time::text_of` meets its contract: each byte is a digit of its number. Assumes nothing.
use mathlib.Core.Path.{sym}
use Rattle.calendar.proofs.Text.{text_digits}
use Rattle.calendar.proofs.time.text_of.Goals as goal

pub returns : goal.returns
returns c =
    rw (
      c.digit.ensures,
      c.digit-2.ensures,
      c.digit-3.ensures,
      c.digit-4.ensures,
      c.digit-5.ensures,
      c.digit-6.ensures,
      c.digit-7.ensures,
      c.digit-8.ensures,
      c.digit-9.ensures,
      c.digit-10.ensures,
      c.digit-11.ensures,
      c.digit-12.ensures,
      c.digit-13.ensures,
      c.digit-14.ensures,
      c.from-month.ensures,
      c.from-day.ensures,
      c.from-hour.ensures,
      c.from-minute.ensures,
      c.from-second.ensures,
    )
    (sym (text_digits c.args.at))
