-- `filing::tries::wrong_number` meets its contract: a letter is one of three kinds. Assumes nothing.
use Rattle.filing.proofs.Letters.{letter_right, letter_stop, letter_wrong}
use Rattle.filing.proofs.tries.wrong_number.Goals as goal

pub returns-then-letter-eq-RIGHT : goal.returns-then-letter-eq-RIGHT
returns-then-letter-eq-RIGHT c = letter_right _ c.if-letter-eq-RIGHT.true

pub returns-then-letter-eq-STOP : goal.returns-then-letter-eq-STOP
returns-then-letter-eq-STOP c = letter_stop _ c.if-letter-eq-RIGHT.false c.if-letter-eq-STOP.true

pub returns : goal.returns
returns c = letter_wrong _ c.if-letter-eq-RIGHT.false c.if-letter-eq-STOP.false
