-- `engine::calls::connections_closed` meets its contract: the guard refuses as the model does, so does the judgement of the ids, and then all
-- of them are closed. Assumes nothing.
use mathlib.Core.Path.{sym, ap, ◌∙◌}
use native.Mathlib.Omega.{arith}
use Rattle.model.specs.Close.{closed}
use Rattle.server.specs.declared.CallResult.{CallResult}
use Rattle.engine.proofs.Closes.{Closable, guard_turned, guard_passed, judge-turned, all_closed}
use Rattle.engine.proofs.calls.connections_closed.Goals as goal

pub returns-in-Err : goal.returns-in-Err
returns-in-Err c =
    let a = c.args in
    ap (λ (r : CallResult). closed r a.tables.now) c.refuse.ensures
    ∙ guard_turned a.e a.tables.now _ c.guard_close.ensures a.ids.now _ c.in-Err.is

pub judge-requires : goal.judge-requires
judge-requires c =
    let a = c.args in
    let g : Closable a.e a.tables.now = guard_passed a.e a.tables.now _ c.guard_close.ensures c.in_default.is in
    (g.few, omega (arith, g.few, g.room))

pub returns-in-Err-judge : goal.returns-in-Err-judge
returns-in-Err-judge c =
    let a = c.args in
    let g : Closable a.e a.tables.now = guard_passed a.e a.tables.now _ c.guard_close.ensures c.in_default.is in
    ap (λ (r : CallResult). closed r a.tables.now) c.refuse-in-Err-judge.ensures
    ∙ judge-turned a.e a.ids.now a.tables.now _ c.judge.ensures _ c.in-Err-judge.is
    ∙ sym (g.whole a.ids.now)

pub close_all-left-requires : goal.close_all-left-requires
close_all-left-requires c =
    let a = c.args in
    let g : Closable a.e a.tables.now = guard_passed a.e a.tables.now _ c.guard_close.ensures c.in_default.is in
    (g.few, g.room)

pub returns : goal.returns
returns c =
    let a = c.args in
    let g : Closable a.e a.tables.now = guard_passed a.e a.tables.now _ c.guard_close.ensures c.in_default.is in
    all_closed a.e a.ids.now a.tables.now _ c.judge.ensures g c.in_default-judge.is _ _ c.close_all-left.ensures _
    c.closed_peer.ensures _ c.go_on_with.ensures
