-- `lines::output::put_digest` meets its contract: each text stands behind the one before. Assumes nothing.
use Rattle.lines.specs.Output.{put_digest}
use borrow.Author.Rules.{rules}
use Rattle.lines.proofs.output.put_digest.Goals as goal

pub returns : goal.returns
unfolding put_digest
returns c =
    let z = c in
    let at-put2 = c in
    let at-number = c in
    let at-put = c in record {
      within = search rules;
      text = rw (
        ← c.put-a.ensures.text,
        ← c.put_number-b.ensures.text,
        ← c.put-c.ensures.text,
        ← c.digest-sum.ensures,
      )
          c.put_digits.ensures.text;
    }
