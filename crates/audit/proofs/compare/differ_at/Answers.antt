-- `audit::compare::differ_at` meets its contract. The invariant: the two are alike up to the place, so they differ first where what is left of them
-- does. Assumes nothing.
use Rattle.std.proofs.Common.{◌∙◌, arith}
use Rattle.audit.proofs.Differ.{differ_start, differ_end, differ_end_2, differ_next, differ_here}
use Rattle.audit.proofs.compare.differ_at.Goals as goal

pub loop-i-init : goal.loop-i-init
loop-i-init c = (omega arith, omega arith, differ_start c.args.a.now c.args.b.now)

pub returns-then-b-i : goal.returns-then-b-i
returns-then-b-i c =
    omega (
      arith,
      c.loop-i.invariant.2,
      differ_end_2 c.args.a.now
          c.args.b.now c.loop-i.i c.if-b-i.true,
    )

pub returns-then-a-i : goal.returns-then-a-i
returns-then-a-i c =
    omega (
      arith,
      c.loop-i.invariant.2,
      differ_here c.args.a.now
          c.args.b.now c.loop-i.i (omega arith) (omega arith) c.if-a-i.true,
    )

pub loop-i-preserved : goal.loop-i-preserved
loop-i-preserved c =
    let d = c in (
      omega arith,
      omega arith,
      c.loop-i.invariant.2
          ∙ differ_next c.args.a.now c.args.b.now
          c.loop-i.i (omega arith) (omega arith) c.if-a-i.false,
    )

pub returns : goal.returns
returns c =
    omega (
      arith,
      c.loop-i.invariant.2,
      differ_end c.args.a.now c.args.b.now
          c.loop-i.i (omega arith),
    )
