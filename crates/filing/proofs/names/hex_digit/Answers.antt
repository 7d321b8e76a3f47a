-- `filing::names::hex_digit` meets its contract: a digit below ten, and a letter from ten on. Assumes nothing.
use borrow.Author.Tests.{lt-ltb, le-ltb}
use Rattle.filing.proofs.names.hex_digit.Goals as goal

pub returns-then-low-lt10 : goal.returns-then-low-lt10
returns-then-low-lt10 c = simp (lt-ltb _ _ c.if-low-lt10.true)

pub returns : goal.returns
returns c = simp (le-ltb _ _ c.if-low-lt10.false)
