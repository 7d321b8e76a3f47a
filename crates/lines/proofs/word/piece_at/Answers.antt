-- `lines::word::piece_at` meets its contract. Each turn passes a piece, and the next one starts where the definition says. Assumes nothing.
use mathlib.Core.Path.{◌≡◌, ap, ◌∙◌}
use native.Mathlib.Omega.{arith}
use Rattle.lines.specs.Word.{piece_start, piece_at}
use borrow.Author.Rules.{rules}
use Rattle.lines.proofs.word.piece_at.Goals as goal

pub returns : goal.returns
unfolding piece_at
returns c =
    let l = c.loop in
    let x = c.args in
    let e : l.start ≡ piece_start x.byte x.text.now x.k = l.invariant.1 ∙ ap (piece_start x.byte x.text.now) (omega arith) in record {
      bounds = search rules;
      place = simp (c.find-2.ensures.place, e);
    }
