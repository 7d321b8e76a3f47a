-- `connection::peer::close_id` meets its contract. The numbers kept of those gone through stand in front (`Closed`), and what is still to
-- be read lies behind them. Assumes nothing.
use Rattle.std.proofs.Common.{◌≡◌, ◌+◌, ◌<◌, length, refl, sym, ◌∙◌, arith}
use Rattle.connection.proofs.Closing.{Closed, closed_none, closed_bounds, closed-keeps, closed_skips}
use Rattle.connection.proofs.peer.close_id.Goals as goal
use Rattle.connection.proofs.peer.close_id.Goals.{then-ids-i, else-ids-i}

pub loop-i-init : goal.loop-i-init
loop-i-init c = (omega arith, refl, closed_none c.args.ids.now c.args.id)

pub loop-i-preserved : goal.loop-i-preserved
loop-i-preserved c =
    let l = c in
    let x = c.args in
    let y = x.ids.now in
    let d = c.loop-i.invariant.2 in
    let h : c.loop-i.i < length y = omega arith in
    let e : Closed y x.id (c.loop-i.i + 1) c.if-ids-i.ids c.if-ids-i.kept =
    elim c.if-ids-i.branch [
      | then-ids-i w ↦ rw (w.ids-is, w.kept-is) (closed-keeps y x.id c.loop-i.i c.loop-i.ids c.loop-i.kept h d (λ q. w.if-ids-i.true (q ∙ sym c.from.ensures)))
      | else-ids-i w ↦ rw (w.ids-is, w.kept-is) (closed_skips y x.id c.loop-i.i c.loop-i.ids c.loop-i.kept h d (w.if-ids-i.false ∙ c.from.ensures))
    ] in
    let b = closed_bounds y x.id (c.loop-i.i + 1) c.if-ids-i.ids c.if-ids-i.kept (omega arith) e in
    (b.0, b.1, e)

pub returns : goal.returns
returns c =
    let l = c in
    let x = c.args in
    let e : c.loop-i.i ≡ x.count = omega (arith, c.loop-i-test.false, c.loop-i.auto.i-end) in
    let d : Closed x.ids.now x.id x.count c.loop-i.ids c.loop-i.kept = rw e at c.loop-i.invariant.2 in record {
      value = d.count;
      store = d.store;
    }
