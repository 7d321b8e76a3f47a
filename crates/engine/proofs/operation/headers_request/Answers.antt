-- `engine::operation::headers_request` meets its contract: the arms of the code are those of the definition. Assumes nothing.
use Rattle.engine.proofs.operation.headers_request.Goals as goal

pub returns-in-Action : goal.returns-in-Action
returns-in-Action c = rw c.in-Action.is

pub returns-in-Session : goal.returns-in-Session
returns-in-Session c = rw c.in-Session.is

pub returns-in-UserDefined : goal.returns-in-UserDefined
returns-in-UserDefined c = rw c.in-UserDefined.is

pub returns-in-Connect : goal.returns-in-Connect
returns-in-Connect c = rw c.in-Connect.is

pub returns-in-Disconnect : goal.returns-in-Disconnect
returns-in-Disconnect c = rw c.in-Disconnect.is

pub returns-in-Put : goal.returns-in-Put
returns-in-Put c = rw c.in-Put.is

pub returns-in-Get : goal.returns-in-Get
returns-in-Get c = rw c.in-Get.is

pub returns-in-SetPath : goal.returns-in-SetPath
returns-in-SetPath c = rw c.in-SetPath.is

pub returns-in-Abort : goal.returns-in-Abort
returns-in-Abort c = rw c.in-Abort.is
