-- `engine_c::obex_engine_start` meets its contract: the settings that the numbers hold go to the engine's call, `admit` refuses numbers that are
-- none (`Starting`), and `store` leaves the result in them, and nothing else. Assumes nothing.
use mathlib.Core.Path.{sym, ap, ◌∙◌}
use Rattle.engine_c.specs.Words.{words_of}
use Rattle.engine_c.proofs.Starting.{judged-start}
use Rattle.engine_c.proofs.obex_engine_start.Goals as goal

pub returns : goal.returns
returns c =
    let admitting = c in
    let lent = c in
    let called = c in
    let reading = c in record {
      step = rw c.store.ensures.read
          (judged-start _ _ _ _ _ _ _ _ _ c.is_settings-fit.ensures c.settings_of.ensures c.start-r.ensures
          c.admit.ensures);
      numbers = c.store.ensures.written ∙ ap words_of (sym c.store.ensures.read);
    }
