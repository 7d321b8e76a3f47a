-- `client_c::obex_client_stream_ended` meets its contract: the state that the numbers hold goes to the client's call, and `store` leaves
-- its result in them, and
-- nothing else. Assumes nothing.
use mathlib.Core.Path.{sym, ap, ◌∙◌}
use Rattle.client_c.specs.Words.{words_of}
use Rattle.client_c.proofs.obex_client_stream_ended.Goals as goal

pub returns : goal.returns
returns c =
    let called = c in record {
      step = rw (c.store.ensures.read, ← c.client_of.ensures) c.stream_ended-r.ensures;
      numbers = (c.store.ensures.written ∙ ap words_of (sym c.store.ensures.read));
    }
