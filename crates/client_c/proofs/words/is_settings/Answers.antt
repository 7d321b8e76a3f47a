-- `client_c::words::is_settings` meets its contract. Each branch is a test of the definition. Assumes nothing.
use borrow.Author.Tests.{lt-ltb, le-ltb}
use Rattle.client_c.specs.Words.{settings_fit}
use Rattle.client_c.proofs.words.is_settings.Goals as goal

pub returns-then-w-ge65536 : goal.returns-then-w-ge65536
unfolding settings_fit
returns-then-w-ge65536 c = simp (le-ltb _ _ c.if-w-ge65536.true)

pub returns-then-w-ge2 : goal.returns-then-w-ge2
unfolding settings_fit
returns-then-w-ge2 c = simp (lt-ltb _ _ c.if-w-ge65536.false, le-ltb _ _ c.if-w-ge2.true)

pub returns : goal.returns
unfolding settings_fit
returns c = simp (lt-ltb _ _ c.if-w-ge65536.false, lt-ltb _ _ c.if-w-ge2.false)
