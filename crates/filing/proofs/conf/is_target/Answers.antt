-- `filing::conf::is_target` meets its contract, test by test. Assumes nothing.
use borrow.Author.Tests.{lt-ltb, le-ltb, eq-eqb, ne_eqb}
use Rattle.filing.specs.Conf.{right_target}
use Rattle.filing.proofs.conf.is_target.Goals as goal

pub returns-then-v-lt2 : goal.returns-then-v-lt2
unfolding right_target
returns-then-v-lt2 c = simp (lt-ltb _ _ c.if-v-lt2.true)

pub returns-then-v-gt32 : goal.returns-then-v-gt32
unfolding right_target
returns-then-v-gt32 c = simp (le-ltb _ _ c.if-v-lt2.false, lt-ltb _ _ c.if-v-gt32.true)

pub returns-then-v-eq0 : goal.returns-then-v-eq0
unfolding right_target
returns-then-v-eq0 c =
    simp (
      le-ltb _ _ c.if-v-lt2.false,
      le-ltb _ _ c.if-v-gt32.false,
      eq-eqb _ _
          c.if-v-eq0.true,
      c.is_all_hex.ensures,
    )

pub returns : goal.returns
unfolding right_target
returns c = simp (le-ltb _ _ c.if-v-lt2.false, le-ltb _ _ c.if-v-gt32.false, ne_eqb _ _ c.if-v-eq0.false)
