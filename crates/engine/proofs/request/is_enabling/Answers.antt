-- `engine::request::is_enabling` meets its contract: the header's one byte is the first's, or the header is not there.
use mathlib.Core.Path.{sym, ◌∙◌}
use Rattle.engine.proofs.LastPacket.{last_finds, mode-inside, enabling_at, enabling_missing}
use native.Mathlib.Omega.{arith}
use Rattle.engine.proofs.request.is_enabling.Goals as goal

pub returns-in-None : goal.returns-in-None
returns-in-None c =
    enabling_missing c.args.q.now (sym (last_finds _ _ c.requires).mode ∙ c.in-None.is)

pub bounds-q-value : goal.bounds-q-value
bounds-q-value c =
    let w = mode-inside c.args.q.now _ _ (sym (last_finds _ _ c.requires).mode ∙ c.in-Some.is) in
    omega (arith, w.0, w.1)

pub returns-in-Some : goal.returns-in-Some
returns-in-Some c =
    enabling_at c.args.q.now _ _ (sym (last_finds _ _ c.requires).mode ∙ c.in-Some.is)
