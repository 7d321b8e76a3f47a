-- `outgoing::object::next_filled` meets its contract. By the reason, what `next_filled` says. Assumes nothing.
use mathlib.Core.Path.{refl}
use Rattle.outgoing.proofs.Sending.{made_alike}
use Rattle.outgoing.proofs.object.next_filled.Goals as goal

pub returns-in-Empty : goal.returns-in-Empty
returns-in-Empty c = rw c.in-Empty.is c.body_after.ensures

pub returns-in-Full : goal.returns-in-Full
returns-in-Full c = rw c.in-Full.is c.send.ensures

pub returns-in-Long : goal.returns-in-Long
returns-in-Long c = rw c.in-Long.is (made_alike c.too_large.ensures refl)
