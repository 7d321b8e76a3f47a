-- `reception::note::is_unfinished` meets its contract: each arm is that of the definition. Assumes nothing.
use mathlib.Core.Path.{sym, ap}
use Rattle.server.specs.declared.Outcome.{Outcome}
use Rattle.reception.specs.Notes.{is_unfinished}
use Rattle.reception.proofs.note.is_unfinished.Goals as goal

pub returns-in-WantsBytes : goal.returns-in-WantsBytes
returns-in-WantsBytes c = sym (ap (λ (o : Outcome). is_unfinished o c.args.begun) c.in-WantsBytes.is)
