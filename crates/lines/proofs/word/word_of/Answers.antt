-- `lines::word::word_of` meets its contract: the bytes stand between the two places of the piece. Assumes nothing.
use mathlib.Core.Path.{refl}
use borrow.Author.Rules.{rules}
use Rattle.lines.proofs.word.word_of.Goals as goal

pub returns : goal.returns
returns c =
    record {
      within = search rules;
      bytes = rw (← c.piece_at-place.ensures.place) refl;
    }
