-- `calendar::time::instant_in` meets its contract: in a text of the form each place of a number has two digits. Assumes nothing.
use native.Mathlib.Omega.{arith}
use Rattle.calendar.specs.Time.{read_instant}
use Rattle.calendar.proofs.Text.{form, in_date, in_clock, century}
use Rattle.calendar.proofs.time.instant_in.Goals as goal

pub number_at-requires : goal.number_at-requires
number_at-requires c = let t = c.args.text.now in in_date t (form t c.requires) _ (omega arith)

pub number_at-requires-2 : goal.number_at-requires-2
number_at-requires-2 c = let t = c.args.text.now in in_date t (form t c.requires) _ (omega arith)

pub number_at-requires-3 : goal.number_at-requires-3
number_at-requires-3 c = let t = c.args.text.now in in_date t (form t c.requires) _ (omega arith)

pub number_at-requires-4 : goal.number_at-requires-4
number_at-requires-4 c = let t = c.args.text.now in in_date t (form t c.requires) _ (omega arith)

pub number_at-requires-5 : goal.number_at-requires-5
number_at-requires-5 c = let t = c.args.text.now in in_clock t (form t c.requires) _ (omega arith) (omega arith)

pub number_at-requires-6 : goal.number_at-requires-6
number_at-requires-6 c = let t = c.args.text.now in in_clock t (form t c.requires) _ (omega arith) (omega arith)

pub number_at-requires-7 : goal.number_at-requires-7
number_at-requires-7 c = let t = c.args.text.now in in_clock t (form t c.requires) _ (omega arith) (omega arith)

pub returns : goal.returns
unfolding read_instant
returns c =
    rw (
      c.from-century.ensures,
      c.from-year.ensures,
      c.number_at.ensures,
      c.number_at-2.ensures,
      c.number_at-3.ensures,
      c.number_at-4.ensures,
      c.number_at-5.ensures,
      c.number_at-6.ensures,
      c.number_at-7.ensures,
      century c.args.text.now,
    )
