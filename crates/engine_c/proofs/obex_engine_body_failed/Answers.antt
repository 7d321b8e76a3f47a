-- `engine_c::obex_engine_body_failed` meets its contract: the state that the numbers hold goes to the engine's call, and `store` leaves its
-- result in them, and nothing else. Assumes nothing.
use mathlib.Core.Path.{sym, ap, ◌∙◌}
use Rattle.engine_c.specs.Words.{words_of}
use Rattle.engine_c.proofs.obex_engine_body_failed.Goals as goal

pub returns : goal.returns
returns c =
    record {
      step = rw (
        c.store.ensures.read,
        ← c.engine_of.ensures,
      ) c.body_failed-r.ensures;
      numbers = (c.store.ensures.written ∙ ap words_of (sym c.store.ensures.read));
    }
