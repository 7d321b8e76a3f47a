-- `connection::request::connect_request` meets its contract. The invariant: what is noted and what is left give the places (`Walked`).
use Rattle.std.proofs.Common.{sym, ◌∙◌, arith}
use Rattle.packet.proofs.HeaderBytes.{header_at_within}
use Rattle.connection.proofs.Requests.{begins, goes_on, ends, stops}
use Rattle.connection.proofs.request.connect_request.Goals as goal

pub loop-id-init : goal.loop-id-init
loop-id-init c = begins _ _ _ c.nothing_found-c.ensures

pub loop-id-smaller : goal.loop-id-smaller
loop-id-smaller c =
    let k = c in
    let h = header_at_within _ _ _ _ _ _ (sym c.step.ensures ∙ c.in-At.is) in
    omega arith

pub loop-id-preserved : goal.loop-id-preserved
loop-id-preserved c =
    let k = c in
    goes_on _ _ _ _ _ _ _ _ _ (sym c.step.ensures ∙ c.in-At.is) c.loop-id.invariant c.note-c.ensures

pub returns-in-Unreadable : goal.returns-in-Unreadable
returns-in-Unreadable c =
    let k = c in
    stops _ _ _ _ _ (sym c.step.ensures ∙ c.in-Unreadable.is) c.loop-id.invariant c.nothing_found.ensures

pub returns-in-End : goal.returns-in-End
returns-in-End c =
    let l = c in
    ends _ _ _ _ (sym c.step.ensures ∙ c.in-End.is) c.loop-id.invariant
