-- `lines::output::put_byte` meets its contract: what `put` puts are the two digits. Assumes nothing.
use borrow.Author.Rules.{rules}
use Rattle.lines.proofs.output.put_byte.Goals as goal

pub returns : goal.returns
returns c =
    record {
      within = search rules;
      text = rw (← c.pair-two.ensures) c.put.ensures.text;
    }
