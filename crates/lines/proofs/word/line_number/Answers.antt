-- `lines::word::line_number` meets its contract. Each turn passes a line, and what is left says the number (`Places`). Assumes nothing.
use mathlib.Core.Path.{refl, ap}
use native.Mathlib.Omega.{arith}
use Prim.Native.Nat.{ℕ, ◌+◌}
use lib.ListN.{length}
use Rattle.lines.proofs.Places.{same_true, same_false, differs, line_turn, line_found, line_end_lem}
use borrow.Author.Rules.{rules}
use Rattle.lines.proofs.word.line_number.Goals as goal

pub loop-at-init : goal.loop-at-init
loop-at-init c = (omega arith, omega arith, (length c.args.text.now, (omega arith, refl)))

pub returns-then-same : goal.returns-then-same
returns-then-same c =
    let z = c in
    let l = c.loop-at in
    let x = c.args in
    let m = l.invariant.2 in
    let e = c.find-end.ensures.place in
    let t = same_true _ x.w.now (c.same.ensures.0 c.if-same.true) in record {
      within = l.invariant.1;
      number = line_found x.text.now x.w.now _ l.at l.k m.0 c.loop-at-test.true m.1.0 m.1.1 (rw
          (← e) t);
    }

pub loop-at-preserved : goal.loop-at-preserved
loop-at-preserved c =
    let z = c in
    let l = c.loop-at in
    let x = c.args in
    let m = l.invariant.2 in
    let e = c.find-end.ensures.place in
    let t = same_false _ x.w.now (λ q. differs _ c.if-same.false (c.same.ensures.1 q)) in (
      search rules,
      search rules,
      line_turn x.text.now x.w.now _ l.at l.k (c.find-end.result + 1) m.0
          c.loop-at-test.true m.1.0 m.1.1
          (rw (← e) t) (ap (λ (n : ℕ). n + 1) e) (omega arith),
    )

pub returns : goal.returns
returns c =
    let l = c.loop-at in
    let x = c.args in
    let m = l.invariant.2 in record {
      within = l.invariant.1;
      number = line_end_lem x.text.now x.w.now _ l.at l.k m.0 c.loop-at-test.false m.1.1;
    }
