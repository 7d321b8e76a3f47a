-- `reception::decide::after_filing` meets its contract: the code is that of the filing. Assumes nothing.
use mathlib.Core.Bool.{Bool}
use mathlib.Core.Path.{sym, ap, ◌∙◌}
use Prim.Native.Nat.{ℕ}
use Rattle.reception.specs.declared.answer.Answer.TheVariants as answer
use Rattle.reception.specs.Answers.{after_filing}
use Rattle.reception.proofs.decide.after_filing.Goals as goal

pub returns-then-is_taken : goal.returns-then-is_taken
returns-then-is_taken c =
    let f = c.args.filing in
    ap (λ (n : ℕ). answer.Reply n) c.code_for.ensures ∙ sym (ap (λ (b : Bool). after_filing b f.filed f.full) c.if-is_taken.true)

pub returns : goal.returns
returns c = let f = c.args.filing in sym (ap (λ (b : Bool). after_filing b f.filed f.full) c.if-is_taken.false)
