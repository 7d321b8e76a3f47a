-- `table::targets::close_column` meets its contract. The numbers kept of those gone through stand at the column's front (`Moved`), and what
-- is still to be read lies behind them. Assumes nothing.
use mathlib.Core.Path.{◌≡◌, refl, sym, ◌∙◌}
use Prim.Native.Nat.{◌<◌, ◌+◌}
use native.Mathlib.Omega.{arith}
use lib.ListN.{length}
use Rattle.table.specs.Targets.{column_closed}
use Rattle.table.proofs.Columns.{Moved, moved_none, moved_bounds, moved_keeps, moved_skips}
use Rattle.table.proofs.targets.close_column.Goals as goal
use Rattle.table.proofs.targets.close_column.Goals.{then-tables-i, else-tables-i}

pub loop-i-init : goal.loop-i-init
loop-i-init c = (omega arith, refl, moved_none c.args.tables.now c.args.at c.args.id)

pub loop-i-preserved : goal.loop-i-preserved
loop-i-preserved c =
    let x = c.args in
    let y = x.tables.now in
    let l = c.loop-i in
    let m = l.invariant.2 in
    let h : x.at + l.i < length y = omega arith in
    let k : l.i < x.at = omega arith in
    let e : Moved y x.at x.id (l.i + 1) c.if-tables-i.tables c.if-tables-i.kept =
    elim c.if-tables-i.branch [
      | then-tables-i w ↦ rw (w.tables-is, w.kept-is) (moved_keeps y x.at x.id l.i l.tables l.kept h k m (λ q. w.if-tables-i.true (q ∙ sym c.from.ensures)))
      | else-tables-i w ↦ rw (w.tables-is, w.kept-is) (moved_skips y x.at x.id l.i l.tables l.kept h k m (w.if-tables-i.false ∙ c.from.ensures))
    ] in
    let b = moved_bounds y x.at x.id (l.i + 1) c.if-tables-i.tables c.if-tables-i.kept e in
    (b.0, b.1, e)

pub returns : goal.returns
unfolding column_closed
returns c =
    let l = c.loop-i in
    let x = c.args in
    let e : l.i ≡ x.count = omega (arith, c.loop-i-test.false, l.auto.i-end) in
    let m : Moved x.tables.now x.at x.id x.count l.tables l.kept = rw e at l.invariant.2 in
    m.store
