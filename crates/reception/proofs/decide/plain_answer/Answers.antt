-- `reception::decide::plain_answer` meets its contract: each arm is that of the definition. Assumes nothing.
use mathlib.Core.Path.{sym, ap}
use Rattle.reception.specs.Answers.{plain_answer}
use Rattle.reception.proofs.decide.plain_answer.Goals as goal

pub returns-in-Connect : goal.returns-in-Connect
returns-in-Connect c = sym (ap plain_answer c.in-Connect.is)

pub returns-in-Disconnect : goal.returns-in-Disconnect
returns-in-Disconnect c = sym (ap plain_answer c.in-Disconnect.is)

pub returns-in-SetPath : goal.returns-in-SetPath
returns-in-SetPath c = sym (ap plain_answer c.in-SetPath.is)

pub returns-in-Put : goal.returns-in-Put
returns-in-Put c = sym (ap plain_answer c.in-Put.is)

pub returns-in-Get : goal.returns-in-Get
returns-in-Get c = sym (ap plain_answer c.in-Get.is)

pub returns-in-Action : goal.returns-in-Action
returns-in-Action c = sym (ap plain_answer c.in-Action.is)

pub returns-in-Session : goal.returns-in-Session
returns-in-Session c = sym (ap plain_answer c.in-Session.is)

pub returns-in-UserDefined : goal.returns-in-UserDefined
returns-in-UserDefined c = sym (ap plain_answer c.in-UserDefined.is)

pub returns-in-Password : goal.returns-in-Password
returns-in-Password c = sym (ap plain_answer c.in-Password.is)
