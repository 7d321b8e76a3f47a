-- `engine::request::first_target` meets its contract: the header is found and its bytes are the Target's, or it is not there. Assumes nothing.
use mathlib.Core.Path.{sym, ap, ◌∙◌}
use Rattle.std.specs.Prelude.{Some}
use Rattle.table.specs.declared.targets.Target.{Target}
use Rattle.connection.specs.Peer.{target_asked}
use Rattle.engine.proofs.LastPacket.{first_bounds, first-value, last_finds}
use Rattle.engine.proofs.request.first_target.Goals as goal

pub returns-in-None : goal.returns-in-None
returns-in-None c =
    ap target_asked (first-value 0x46 c.args.q.now _ (sym (last_finds _ _ c.requires).target ∙ c.in-None.is))

pub of-requires-clause-ordered : goal.of-requires-clause-ordered
of-requires-clause-ordered c = (first_bounds 0x46 _ _ _ _ (sym (last_finds _ _ c.requires).target ∙ c.in-Some.is)).0

pub of-requires-clause-within : goal.of-requires-clause-within
of-requires-clause-within c = (first_bounds 0x46 _ _ _ _ (sym (last_finds _ _ c.requires).target ∙ c.in-Some.is)).1

pub returns-in-Some : goal.returns-in-Some
returns-in-Some c =
    ap (λ (g : Target). Some g) (rw c.of.ensures at c.target_of.ensures)
    ∙ ap target_asked (first-value 0x46 c.args.q.now _ (sym (last_finds _ _ c.requires).target ∙ c.in-Some.is))
