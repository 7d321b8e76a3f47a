-- `incoming::gather::gather_one` meets its contract. The two tests are those of what becomes of the header, and each of the three has its function.
use mathlib.Core.Path.{sym, ap, ◌∙◌}
use Rattle.packet.specs.Header.{part}
use Rattle.incoming.specs.Gather.{gathering, keep_bytes}
use Rattle.incoming.proofs.Turns.{one-stored, one-dropped, one_kept}
use Rattle.incoming.proofs.gather.gather_one.Goals as goal

pub returns-then-is_stored : goal.returns-then-is_stored
returns-then-is_stored c =
    record {
      model = let t = c in
          let x = c.args in
          c.store_bytes.ensures.model x.headers.now
          ∙ one-stored x.keep x.limit (gathering x.g x.headers.now x.body.now)
          (record { id = x.id; value = part x.p.now x.start x.«end» })
          (sym c.is_stored.ensures ∙ c.if-is_stored.true);
    }

pub returns-then-is_dropped : goal.returns-then-is_dropped
returns-then-is_dropped c =
    record {
      model = let k = c in
          let x = c.args in
          one-dropped x.keep x.limit (gathering x.g x.headers.now x.body.now) (record { id = x.id; value = part x.p.now x.start x.«end» })
          (sym c.is_stored.ensures ∙ c.if-is_stored.false)
          (sym c.is_dropped.ensures ∙ c.if-is_dropped.true);
    }

pub returns : goal.returns
returns c =
    record {
      model = let d = c in
          let k = c in
          let s = c in
          let x = c.args in
          let g = gathering x.g x.headers.now x.body.now in
          c.keep_bytes.ensures.model x.body.now
          ∙ ap (keep_bytes g) (sym c.requires.0)
          ∙ one_kept x.keep x.limit g (record { id = x.id; value = part x.p.now x.start x.«end» })
          (sym c.is_stored.ensures ∙ c.if-is_stored.false)
          (sym c.is_dropped.ensures ∙ c.if-is_dropped.false);
    }
