-- `engine_c::words::store` meets its contract. The numbers are those that the definition says, and the result is read back from them
-- (`Back`). Assumes nothing.
use Rattle.engine_c.specs.Words.{words_of}
use Rattle.engine_c.proofs.Back.{written_back}
use Rattle.engine_c.proofs.words.store.Goals as goal

pub returns : goal.returns
unfolding words_of
returns c =
    let at-awaits = c in
    let at-settings = c in
    let r = c.args.r in
    let w = written_back _ r
    (simp (
      c.wide-3.ensures,
      c.wide-2.ensures,
      c.wide.ensures,
      c.target_numbers-g.ensures,
      c.awaits_number-a.ensures,
      c.outcome_numbers-t.ensures,
      c.operation_numbers-o.ensures.numbers,
      c.peer_numbers-p.ensures.numbers,
      c.settings_numbers-s.ensures.numbers,
    ))
    c.settings_numbers-s.ensures.back c.peer_numbers-p.ensures.back
    c.operation_numbers-o.ensures.back in
    record { written = w.0; read = w.1 }
