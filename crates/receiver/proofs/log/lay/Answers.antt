-- `receiver::log::lay` meets its contract: the frame was written, or it has no room. Assumes nothing.
use Rattle.std.proofs.Common.{◌≡◌, ℕ, List, Result, sym, ap, ◌∙◌}
use Rattle.archive.specs.Writing.{Writing, writing}
use Rattle.archive.specs.declared.block.WriteError.{WriteError}
use Rattle.receiver.specs.Log.{framed_by}
use Rattle.receiver.specs.declared.log.Framed.{Framed}
use Rattle.receiver.proofs.log.lay.Goals as goal

-- what a call gives, by its two parts
value : (w : Writing) (r : Result ℕ WriteError) (s : List ℕ) (f : Framed) → f ≡ framed_by r → writing r s ≡ w → f ≡ framed_by w.answer
value w r s f p e = p ∙ ap (λ (x : Writing). framed_by x.answer) e

store : (w : Writing) (r : Result ℕ WriteError) (s : List ℕ) → writing r s ≡ w → s ≡ w.target
store w r s e = ap (λ (x : Writing). x.target) e

pub returns-in-Ok : goal.returns-in-Ok
returns-in-Ok c =
    record {
      value = value _ c.lay_frame.result _ _ (sym (ap framed_by c.in-Ok.is)) c.lay_frame.ensures;
      store = store _ c.lay_frame.result _ c.lay_frame.ensures;
    }

pub returns-in-Err : goal.returns-in-Err
returns-in-Err c =
    record {
      value = value _ c.lay_frame.result _ _ (sym (ap framed_by c.in-Err.is)) c.lay_frame.ensures;
      store = store _ c.lay_frame.result _ c.lay_frame.ensures;
    }
