-- `engine::operation::gather_packet` meets its contract: what `gather` gives is what the model gathers (proofs/Arrivals.antt). Assumes nothing.
use Rattle.model.specs.Step.{stores, limit_of}
use Rattle.model.proofs.Steps.{gathered_within}
use Rattle.engine.proofs.Arrivals.{gathered_way, gathered_planned}
use Rattle.engine.proofs.operation.gather_packet.Goals as goal

pub gather-g-requires : goal.gather-g-requires
gather-g-requires c =
    let g = gathered_within (limit_of c.args.e) c.args.begun c.requires.1 in
    let w = c.wide.ensures in
    (rw (c.headers_from.ensures, c.requires.0), g.0, c.requires.2, rw w g.1, rw w c.requires.3)

pub returns : goal.returns
returns c =
    λ q y.
    let s = stores q c.args.headers.now c.args.body.now y in
    gathered_planned _ _ _ _ _ _ s _ _
    (gathered_way c.args.e c.args.kind _ _ _ s _ _ _ _ c.gather-g.ensures.model c.headers_from.ensures
    c.keep.ensures c.wide.ensures c.requires.0)
    c.handle_gathered.ensures
