-- `engine_c::words::is_settings` meets its contract. Each branch is a test of the definition. Assumes nothing.
use borrow.Author.Tests.{lt-ltb, le-ltb}
use mathlib.Core.Path.{sym, ◌∙◌}
use Rattle.engine_c.specs.Words.{settings_fit}
use Rattle.engine_c.proofs.words.is_settings.Goals as goal

pub returns-then-w-ge4294967296 : goal.returns-then-w-ge4294967296
unfolding settings_fit
returns-then-w-ge4294967296 c = simp (le-ltb _ _ c.if-w-ge4294967296.true)

pub returns-then-w-ge65536 : goal.returns-then-w-ge65536
unfolding settings_fit
returns-then-w-ge65536 c = simp (lt-ltb _ _ c.if-w-ge4294967296.false, le-ltb _ _ c.if-w-ge65536.true)

pub returns-then-w-ge256 : goal.returns-then-w-ge256
unfolding settings_fit
returns-then-w-ge256 c =
    let at-if-2 = c in
    simp (lt-ltb _ _ c.if-w-ge4294967296.false, lt-ltb _ _ c.if-w-ge65536.false, le-ltb _ _ c.if-w-ge256.true)

pub returns-then-not-are_flags : goal.returns-then-not-are_flags
unfolding settings_fit
returns-then-not-are_flags c =
    let copied = c in
    let at-if-3 = c in
    let at-if-2 = c in
    simp (
      lt-ltb _ _ c.if-w-ge4294967296.false,
      lt-ltb _ _ c.if-w-ge65536.false,
      lt-ltb _ _ c.if-w-ge256.false,
      sym c.are_flags.ensures ∙ c.if-not-are_flags.true,
    )

pub returns : goal.returns
unfolding settings_fit
returns c =
    let flags = c in
    let copied = c in
    let at-if-3 = c in
    let at-if-2 = c in
    simp (
      lt-ltb _ _ c.if-w-ge4294967296.false,
      lt-ltb _ _ c.if-w-ge65536.false,
      lt-ltb _ _ c.if-w-ge256.false,
      sym c.are_flags.ensures ∙ c.if-not-are_flags.false,
    )
