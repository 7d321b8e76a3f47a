-- `packet::header::encoded_at` meets its contract: the tests are those of `encoded_at`, in its order. Assumes nothing.
use mathlib.Core.Path.{sym, ◌∙◌}
use borrow.Author.Tests.{lt-ltb, le-ltb}
use Rattle.packet.specs.Header.{encoded_at}
use Rattle.packet.proofs.HeaderLaws.{Whole, whole_at}
use Rattle.packet.proofs.header.encoded_at.Goals as goal

pub returns-then-left-n : goal.returns-then-left-n
unfolding encoded_at
returns-then-left-n c = simp (← c.lead-n.ensures.0, lt-ltb _ _ c.if-left-n.true)

pub returns-then-size-n : goal.returns-then-size-n
unfolding encoded_at
returns-then-size-n c =
    simp (← c.lead-n.ensures.0, ← c.size_at-size.ensures.0, le-ltb _ _ c.if-left-n.false, lt-ltb _ _ c.if-size-n.true)

pub returns-then-left-size : goal.returns-then-left-size
unfolding encoded_at
returns-then-left-size c =
    simp (
      ← c.lead-n.ensures.0,
      ← c.size_at-size.ensures.0,
      le-ltb _ _ c.if-left-n.false,
      le-ltb _ _ c.if-size-n.false,
      lt-ltb _ _ c.if-left-size.true,
    )

pub returns-then-is_allowed : goal.returns-then-is_allowed
returns-then-is_allowed c =
    let w : Whole c.args.e c.args.s.now c.args.at c.lead-n.result c.size_at-size.result = record {
      lead = c.lead-n.ensures.0;
      all = c.size_at-size.ensures.0;
      past = c.if-size-n.false;
      fits = c.if-left-size.false;
    } in
    sym (whole_at _ _ _ _ _ _ _ w (sym c.is_allowed.ensures ∙ c.if-is_allowed.true))

pub returns : goal.returns
returns c =
    let w : Whole c.args.e c.args.s.now c.args.at c.lead-n.result c.size_at-size.result = record {
      lead = c.lead-n.ensures.0;
      all = c.size_at-size.ensures.0;
      past = c.if-size-n.false;
      fits = c.if-left-size.false;
    } in
    sym (whole_at _ _ _ _ _ _ _ w (sym c.is_allowed.ensures ∙ c.if-is_allowed.false))
