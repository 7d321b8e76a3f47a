-- `connection::request::connect_request` meets its contract. The invariant: what is noted and what is left give the places (`Walked`).
use Rattle.std.proofs.Common.{◌-◌, length}
use Rattle.connection.proofs.Requests.{Walked}
use Rattle.connection.proofs.request.connect_request.Given as goal

abbrev pub invariant-loop-id : goal.invariant-loop-id
invariant-loop-id l = Walked l.s l.from l.at l.c

abbrev pub decreases-loop-id : goal.decreases-loop-id
decreases-loop-id l = length l.s - l.at
