-- `engine_c::words::are_flags` meets its contract. Each `return` rewrites with the tests that led there. Assumes nothing.
use borrow.Author.Tests.{lt-ltb, le-ltb}
use Rattle.engine_c.specs.Words.{flags_fit}
use Rattle.engine_c.proofs.words.are_flags.Goals as goal

pub returns-then-a-ge2 : goal.returns-then-a-ge2
unfolding flags_fit
returns-then-a-ge2 c = simp (le-ltb _ _ c.if-a-ge2.true)

pub returns-then-b-ge2 : goal.returns-then-b-ge2
unfolding flags_fit
returns-then-b-ge2 c = simp (lt-ltb _ _ c.if-a-ge2.false, le-ltb _ _ c.if-b-ge2.true)

pub returns-then-c-ge2 : goal.returns-then-c-ge2
unfolding flags_fit
returns-then-c-ge2 c =
    simp (
      lt-ltb _ _ c.if-a-ge2.false,
      lt-ltb _ _ c.if-b-ge2.false,
      le-ltb _ _ c.if-c-ge2.true,
    )

pub returns-then-d-ge2 : goal.returns-then-d-ge2
unfolding flags_fit
returns-then-d-ge2 c =
    simp (
      lt-ltb _ _ c.if-a-ge2.false,
      lt-ltb _ _ c.if-b-ge2.false,
      lt-ltb _ _ c.if-c-ge2.false,
      le-ltb _ _ c.if-d-ge2.true,
    )

pub returns-then-e-ge2 : goal.returns-then-e-ge2
unfolding flags_fit
returns-then-e-ge2 c =
    simp (
      lt-ltb _ _ c.if-a-ge2.false,
      lt-ltb _ _ c.if-b-ge2.false,
      lt-ltb _ _ c.if-c-ge2.false,
      lt-ltb _ _ c.if-d-ge2.false,
      le-ltb _ _ c.if-e-ge2.true,
    )

pub returns-then-f-ge2 : goal.returns-then-f-ge2
unfolding flags_fit
returns-then-f-ge2 c =
    simp (
      lt-ltb _ _ c.if-a-ge2.false,
      lt-ltb _ _ c.if-b-ge2.false,
      lt-ltb _ _ c.if-c-ge2.false,
      lt-ltb _ _ c.if-d-ge2.false,
      lt-ltb _ _ c.if-e-ge2.false,
      le-ltb _ _ c.if-f-ge2.true,
    )

pub returns : goal.returns
unfolding flags_fit
returns c =
    simp (
      lt-ltb _ _ c.if-a-ge2.false,
      lt-ltb _ _ c.if-b-ge2.false,
      lt-ltb _ _ c.if-c-ge2.false,
      lt-ltb _ _ c.if-d-ge2.false,
      lt-ltb _ _ c.if-e-ge2.false,
      lt-ltb _ _ c.if-f-ge2.false,
    )
