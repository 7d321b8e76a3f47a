-- `text::width` meets its contract, as the width of each form does. Assumes nothing.
use Rattle.text.proofs.width.Goals as goal

pub returns-in-Utf8 : goal.returns-in-Utf8
returns-in-Utf8 c = rw c.in-Utf8.is c.width8.ensures

pub returns-in-Utf16 : goal.returns-in-Utf16
returns-in-Utf16 c = rw c.in-Utf16.is c.width16.ensures
