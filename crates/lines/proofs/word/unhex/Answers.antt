-- `lines::word::unhex` meets its contract. Each turn passes a sign, and what is left says the bytes (`Copies`). Assumes nothing.
use mathlib.Core.Path.{sym}
use borrow.Author.Tests.{le-leb, lt-leb}
use Rattle.lines.specs.Word.{unhexed}
use Rattle.lines.proofs.Copies.{scan-end}
use borrow.Author.Rules.{rules}
use Rattle.lines.proofs.word.unhex.Goals as goal

pub returns-then-p-out : goal.returns-then-p-out
unfolding unhexed
returns-then-p-out c =
    let z = c in
    let l = c.loop-p in
    let e = scan-end c.args.s.now l.out _ l.p l.invariant.1.0 c.loop-p-test.false l.invariant.1.1.1 in record {
      within = search rules;
      bytes = simp (e, le-leb _ _ c.if-p-out.true, sym l.invariant.0);
    }

pub returns-else-p-out : goal.returns-else-p-out
unfolding unhexed
returns-else-p-out c =
    let z = c in
    let l = c.loop-p in
    let e = scan-end c.args.s.now l.out _ l.p l.invariant.1.0 c.loop-p-test.false l.invariant.1.1.1 in record {
      within = search rules;
      bytes = simp (e, lt-leb _ _ c.if-p-out.false, sym l.invariant.0);
    }
