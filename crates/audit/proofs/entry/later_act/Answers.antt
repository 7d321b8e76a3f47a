-- `audit::entry::later_act` meets its contract: each arm has its act. Assumes nothing.
use Rattle.std.proofs.Common.{sym, refl, ◌∙◌}
use Rattle.audit.proofs.entry.later_act.Goals as goal

pub returns-in-Some : goal.returns-in-Some
returns-in-Some c = rw (sym c.kind_in.ensures ∙ c.in-Some.is) c.known_act.ensures

pub returns-in-None : goal.returns-in-None
returns-in-None c = rw (sym c.kind_in.ensures ∙ c.in-None.is) refl
