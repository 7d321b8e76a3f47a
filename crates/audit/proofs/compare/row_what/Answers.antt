-- `audit::compare::row_what` meets its contract: its tests are those of the definition. Assumes nothing.
use Rattle.std.proofs.Common.{ℕ, List, sym, refl, ap, ◌∙◌}
use Rattle.archive.specs.Block.{same}
use Rattle.audit.proofs.compare.row_what.Goals as goal

pub returns-then-not-is_equal : goal.returns-then-not-is_equal
returns-then-not-is_equal c =
    rw (sym (c.is_equal.ensures ∙ ap (λ (x : List ℕ). same x c.args.row.now)
    c.front.ensures) ∙ c.if-not-is_equal.true)
    refl

pub returns-then-not-is_equal-2 : goal.returns-then-not-is_equal-2
returns-then-not-is_equal-2 c =
    rw (
      sym (c.is_equal.ensures ∙ ap (λ (x : List ℕ). same x c.args.row.now)
          c.front.ensures) ∙ c.if-not-is_equal.false,
      sym (c.is_equal-2.ensures ∙ ap (λ (x : List ℕ). same x c.args.target.now)
          c.from_place.ensures) ∙ c.if-not-is_equal-2.true,
    ) refl

pub returns : goal.returns
returns c =
    rw (
      sym (c.is_equal.ensures ∙ ap (λ (x : List ℕ). same x c.args.row.now)
          c.front.ensures) ∙ c.if-not-is_equal.false,
      sym (c.is_equal-2.ensures ∙ ap (λ (x : List ℕ). same x c.args.target.now)
          c.from_place.ensures) ∙ c.if-not-is_equal-2.false,
    ) refl
