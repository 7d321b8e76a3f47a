-- `headers_c::answer_of` meets its contract: each case has its number. Assumes nothing.
use Rattle.headers_c.proofs.answer_of.Goals as goal

pub returns-in-Written : goal.returns-in-Written
returns-in-Written c = simp c.in-Written.is

pub returns-in-TooLong : goal.returns-in-TooLong
returns-in-TooLong c = simp c.in-TooLong.is

pub returns-in-BadValue : goal.returns-in-BadValue
returns-in-BadValue c = simp c.in-BadValue.is

pub returns-in-Short : goal.returns-in-Short
returns-in-Short c = simp c.in-Short.is
