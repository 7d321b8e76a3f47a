-- `lines::input::bytes_of` meets its contract: the two places are the smaller numbers of the definition. Assumes nothing.
use Rattle.lines.specs.Input.{bytes_of}
use borrow.Author.Rules.{rules}
use Rattle.lines.proofs.input.bytes_of.Goals as goal

pub returns : goal.returns
unfolding bytes_of
returns c =
    record {
      within = search rules;
      bytes = simp (c.least-start.ensures.least, c.least-end.ensures.least);
    }
