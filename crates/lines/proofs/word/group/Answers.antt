-- `lines::word::group` meets its contract: what the code finds is what the definition names (`Copies`). Assumes nothing.
use Rattle.lines.proofs.Copies.{group_of}
use borrow.Author.Rules.{rules}
use Rattle.lines.proofs.word.group.Goals as goal

pub returns : goal.returns
returns c =
    let z = c in record {
      bounds = search rules;
      scanned = group_of _ _ _ _ _ _ _ c.find-end.ensures.place c.number.ensures.number c.repeat-n.ensures;
    }
