-- `lines::output::put_digits` meets its contract: the digits go to the front of the part behind the first bytes (`Texts`). Assumes nothing.
use Rattle.lines.proofs.Texts.{part_digits}
use borrow.Author.Rules.{rules}
use Rattle.lines.proofs.output.put_digits.Goals as goal

pub returns : goal.returns
returns c =
    record {
      within = search rules;
      text = part_digits _ _ _ _ _ _ c.least-at.ensures.least c.least-at.ensures.bounds.1
          c.digits-k.ensures.text;
    }
