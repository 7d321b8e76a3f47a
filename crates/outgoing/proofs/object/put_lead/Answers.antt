-- `outgoing::object::put_lead` meets its contract. Both bytes are those of `lead_store`. Assumes nothing.
use mathlib.Core.Path.{refl}
use Rattle.outgoing.proofs.object.put_lead.Goals as goal

pub returns-then-lead : goal.returns-then-lead
returns-then-lead c = rw c.if-lead.true (refl, refl)
