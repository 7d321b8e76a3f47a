-- `text::first16` meets its contract. A pair, an unpaired surrogate, or any other unit, as in the definition. Assumes nothing.
use mathlib.Core.Path.{sym, ◌∙◌}
use native.Mathlib.Omega.{arith}
use borrow.Author.Tests.{le-leb, lt-leb, lt-ltb, le-ltb}
use Rattle.text.proofs.Pairs.{pair_range, first-pair, first_single}
use Rattle.text.proofs.first16.Goals as goal
use Rattle.text.proofs.first16.Goals.{in_default-via-then-u-lt55296, in_default-via-else-u-lt55296+else-u-lt57344}

pub overflow_sub-u : goal.overflow_sub-u
overflow_sub-u c = omega (arith, (pair_range c.args.u c.args.v (sym c.is_pair.ensures ∙ c.if-is_pair.true)).0)

pub overflow_mul-u : goal.overflow_mul-u
overflow_mul-u c = omega (arith, (pair_range c.args.u c.args.v (sym c.is_pair.ensures ∙ c.if-is_pair.true)).1)

pub overflow_add-u : goal.overflow_add-u
overflow_add-u c = omega (arith, (pair_range c.args.u c.args.v (sym c.is_pair.ensures ∙ c.if-is_pair.true)).1)

pub overflow_sub-v : goal.overflow_sub-v
overflow_sub-v c = omega (arith, (pair_range c.args.u c.args.v (sym c.is_pair.ensures ∙ c.if-is_pair.true)).2)

pub overflow_add-u-then-is_pair : goal.overflow_add-u-then-is_pair
overflow_add-u-then-is_pair c =
    let r = pair_range c.args.u c.args.v (sym c.is_pair.ensures ∙ c.if-is_pair.true) in
    omega (arith, r.1, r.3)

pub returns-then-is_pair : goal.returns-then-is_pair
returns-then-is_pair c =
    let x = c.args in
    c.kept.ensures ∙ sym (first-pair x.u x.v (sym c.is_pair.ensures ∙ c.if-is_pair.true))

pub returns-in-55296-to-57343 : goal.returns-in-55296-to-57343
returns-in-55296-to-57343 c =
    let x = c.args in
    rw (first_single x.u x.v (sym c.is_pair.ensures ∙ c.if-is_pair.false), le-leb 0xD800 x.u (omega arith), lt-ltb x.u 0xE000 (omega arith))
    c.replaced.ensures

pub returns-in_default : goal.returns-in_default
returns-in_default c =
    let x = c.args in
    elim c.in_default.branch [
      | in_default-via-then-u-lt55296 w ↦ rw (first_single x.u x.v (sym c.is_pair.ensures ∙ c.if-is_pair.false), lt-leb 0xD800 x.u (omega arith))
          c.kept-in_default.ensures
      | in_default-via-else-u-lt55296+else-u-lt57344 w ↦ rw (
        first_single x.u x.v (sym c.is_pair.ensures ∙ c.if-is_pair.false),
        le-leb 0xD800 x.u (omega arith),
        le-ltb x.u 0xE000 (omega arith),
      )
          c.kept-in_default.ensures
    ]
