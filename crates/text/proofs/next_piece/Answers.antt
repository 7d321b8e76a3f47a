-- `text::next_piece` meets its contract, as reading in each form does. Assumes nothing.
use Rattle.text.proofs.next_piece.Goals as goal

pub returns-in-Utf8 : goal.returns-in-Utf8
returns-in-Utf8 c = rw c.in-Utf8.is c.next8.ensures

pub returns-in-Utf16 : goal.returns-in-Utf16
returns-in-Utf16 c = rw c.in-Utf16.is c.next16.ensures
