-- `text::put` meets its contract, as storing in each form does. Assumes nothing.
use Rattle.text.proofs.put.Goals as goal

pub put8-requires : goal.put8-requires
put8-requires c = rw c.in-Utf8.is at c.requires

pub put16-requires : goal.put16-requires
put16-requires c = rw c.in-Utf16.is at c.requires

pub returns-in-Utf8 : goal.returns-in-Utf8
returns-in-Utf8 c = rw c.in-Utf8.is c.put8.ensures

pub returns-in-Utf16 : goal.returns-in-Utf16
returns-in-Utf16 c = rw c.in-Utf16.is c.put16.ensures
