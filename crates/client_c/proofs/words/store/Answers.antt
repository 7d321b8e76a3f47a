-- `client_c::words::store` meets its contract. The numbers are those that the definition says, and the result is read back from them
-- (`Back`). Assumes nothing.
use mathlib.Core.Path.{refl, ap, ◌∙◌}
use Rattle.client_c.specs.Words.{words_of, result_of}
use Rattle.client_c.proofs.Back.{written_back}
use Rattle.client_c.proofs.words.store.Goals as goal

pub returns-clause-written : goal.returns-clause-written
unfolding words_of
returns-clause-written c =
    simp (
      c.wide-3.ensures,
      c.wide-2.ensures,
      c.wide.ensures,
      c.flag_number-2.ensures,
      c.wide8.ensures.0,
      c.await_number.ensures,
      c.wide16-2.ensures.0,
      c.flag_number.ensures,
      c.wide16.ensures.0,
      c.outcome_numbers-t.ensures,
      c.operation_numbers-o.ensures.numbers,
      c.id_numbers-i.ensures.numbers,
    )

pub returns-clause-read : goal.returns-clause-read
returns-clause-read c =
    ap result_of (returns-clause-written c)
    ∙ (written_back (words_of c.args.r) c.args.r refl c.wide16.ensures.1 c.wide16-2.ensures.1 c.id_numbers-i.ensures.back
    c.operation_numbers-o.ensures.back).1
