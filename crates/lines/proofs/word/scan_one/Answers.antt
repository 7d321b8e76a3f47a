-- `lines::word::scan_one` meets its contract: the three tests are the definition's; what two digits give stands in `Copies`. Assumes nothing.
use borrow.Author.Tests.{le-ltb, ne_eqb}
use Rattle.lines.specs.Word.{scanned_one}
use Rattle.lines.proofs.Copies.{pair_of}
use borrow.Author.Rules.{rules}
use Rattle.lines.proofs.word.scan_one.Goals as goal

pub returns : goal.returns
unfolding scanned_one
returns c =
    let z = c in
    let tests = c in record {
      bounds = search rules;
      scanned = rw (ne_eqb _ 42 c.if-c-eq42.false, le-ltb _ 48 c.if-c-lt48.false, ne_eqb _ 58 c.if-c-eq58.false)
          (pair_of _ _ _ _ _ _ c.after-next.ensures.place
          (rw (← c.value.ensures.value, ← c.byte_at.ensures, ← c.value-2.ensures.value)
          c.push-n.ensures));
    }
