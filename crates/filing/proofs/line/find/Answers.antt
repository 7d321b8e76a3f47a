-- `filing::line::find` meets its contract. The invariant: no byte so far is the one that is looked for. Assumes nothing.
use native.Mathlib.Omega.{arith}
use Rattle.filing.proofs.Lined.{before_here, before-next, before-none}
use Rattle.filing.proofs.line.find.Goals as goal

pub loop-i-init : goal.loop-i-init
loop-i-init c = (omega arith, omega arith)

pub returns-then-s-i : goal.returns-then-s-i
returns-then-s-i c =
    let l = c.loop-i in
    let a = c.args in
    let h = before_here a.byte a.s.now l.i c.loop-i-test.true c.if-s-i.true in record {
      value = omega (arith, l.invariant.1, h);
      room = omega arith;
    }

pub loop-i-preserved : goal.loop-i-preserved
loop-i-preserved c =
    let l = c.loop-i in
    let a = c.args in
    let h = before-next a.byte a.s.now l.i c.loop-i-test.true c.if-s-i.false in
    (omega arith, omega (arith, l.invariant.1, h))

pub returns : goal.returns
returns c =
    let l = c.loop-i in
    let a = c.args in
    let h = before-none a.byte a.s.now l.i c.loop-i-test.false in record {
      value = omega (arith, l.invariant.1, h);
      room = omega arith;
    }
