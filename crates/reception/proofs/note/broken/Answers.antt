-- `reception::note::broken` meets its contract: the tests are the definition's. Assumes nothing.
use mathlib.Core.Bool.{true, false}
use mathlib.Core.Path.{◌≡◌, sym, ◌∙◌}
use Prim.Native.Nat.{ℕ}
use Rattle.server.specs.declared.CallResult.{CallResult}
use Rattle.reception.specs.Notes.{is_refused, is_end, broken_for}
use Rattle.reception.specs.declared.answer.Answer.{Answer}
use Rattle.reception.proofs.note.broken.Goals as goal

module _ (a : Answer) (begun : ℕ) (r : CallResult) where
  no_step : is_refused r.outcome ≡ true → 0 ≡ broken_for a begun r
  no_step e = simp e

  breaks_off : is_refused r.outcome ≡ false → is_end a ≡ true → begun ≡ broken_for a begun r
  breaks_off e f = simp (e, f)

  stays : is_refused r.outcome ≡ false → is_end a ≡ false → 0 ≡ broken_for a begun r
  stays e f = simp (e, f)

pub returns-then-is_refused : goal.returns-then-is_refused
returns-then-is_refused c =
    let x = c.args in
    no_step x.answer x.before.begun x.res (sym c.is_refused.ensures ∙ c.if-is_refused.true)

pub returns-then-is_end : goal.returns-then-is_end
returns-then-is_end c =
    let x = c.args in
    breaks_off x.answer x.before.begun x.res (sym c.is_refused.ensures ∙ c.if-is_refused.false)
    (sym c.is_end.ensures ∙ c.if-is_end.true)

pub returns : goal.returns
returns c =
    let x = c.args in
    stays x.answer x.before.begun x.res (sym c.is_refused.ensures ∙ c.if-is_refused.false)
    (sym c.is_end.ensures ∙ c.if-is_end.false)
