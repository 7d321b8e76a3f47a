-- `journal_code::heading::target_in` meets its contract: the header is found and its bytes are the Target's, or it is not there.
use mathlib.Core.Path.{sym, ap, ◌∙◌}
use Rattle.std.specs.Prelude.{Some}
use Rattle.table.specs.declared.targets.Target.{Target}
use Rattle.journal_code.proofs.Found.{bounds, no_target, the_target}
use Rattle.journal_code.proofs.heading.target_in.Goals as goal

pub returns-in-None : goal.returns-in-None
returns-in-None c =
    λ hs e. no_target c.args.p.now c.args.at hs e
    (sym c.first_header.ensures ∙ c.in-None.is)

pub of-requires-clause-ordered : goal.of-requires-clause-ordered
of-requires-clause-ordered c = (bounds 0x46 _ _ _ _ (sym c.first_header.ensures ∙ c.in-Some.is)).0

pub of-requires-clause-within : goal.of-requires-clause-within
of-requires-clause-within c = (bounds 0x46 _ _ _ _ (sym c.first_header.ensures ∙ c.in-Some.is)).1

pub returns-in-Some : goal.returns-in-Some
returns-in-Some c =
    λ hs e. ap (λ (g : Target). Some g) (rw c.of.ensures at c.target_of.ensures) ∙ the_target c.args.p.now c.args.at hs e _ _
    (sym c.first_header.ensures ∙ c.in-Some.is)
