-- `audit::verdict::word_of` meets its contract: each arm has its word. Assumes nothing.
use Rattle.audit.proofs.verdict.word_of.Goals as goal

pub returns-in-Absent : goal.returns-in-Absent
returns-in-Absent c = rw c.in-Absent.is c.absent_word.ensures

pub returns-in-Part : goal.returns-in-Part
returns-in-Part c = rw c.in-Part.is c.absent_word-in-Part.ensures

pub returns-in-There : goal.returns-in-There
returns-in-There c = rw c.in-There.is c.there_word.ensures
