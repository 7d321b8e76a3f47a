-- `lines::output::put` meets its contract: place and count are the smaller numbers of the definition, and `copy_into` pastes
-- (`Texts`). Assumes nothing.
use Rattle.lines.proofs.Texts.{put_of}
use borrow.Author.Rules.{rules}
use Rattle.lines.proofs.output.put.Goals as goal

pub returns : goal.returns
returns c =
    let z = c in record {
      within = search rules;
      text = put_of _ _ _ _ _ _ c.least-at.ensures.least c.least-k.ensures.least c.copy_into.ensures;
    }
