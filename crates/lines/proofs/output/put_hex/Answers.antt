-- `lines::output::put_hex` meets its contract: its two tests are the definition's. Assumes nothing.
use borrow.Author.Tests.{lt-ltb, le-ltb, eq-eqb, ne_eqb}
use Rattle.lines.specs.Output.{put_hex}
use borrow.Author.Rules.{rules}
use Rattle.lines.proofs.output.put_hex.Goals as goal

pub returns-then-s-eq0 : goal.returns-then-s-eq0
unfolding put_hex
returns-then-s-eq0 c =
    record {
      within = search rules;
      text = rw (eq-eqb _ 0 c.if-s-eq0.true) c.put.ensures.text;
    }

pub returns-then-longest-s : goal.returns-then-longest-s
unfolding put_hex
returns-then-longest-s c =
    record {
      within = search rules;
      text = rw (ne_eqb _ 0 c.if-s-eq0.false, lt-ltb _ _ c.if-longest-s.true)
          c.put_digest.ensures.text;
    }

pub returns : goal.returns
unfolding put_hex
returns c =
    record {
      within = search rules;
      text = rw (ne_eqb _ 0 c.if-s-eq0.false, le-ltb _ _ c.if-longest-s.false)
          c.put_digits.ensures.text;
    }
