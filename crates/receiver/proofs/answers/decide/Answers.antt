-- `receiver::answers::decide` meets its contract: a Put is decided by its own function, and of other requests nothing is promised. Assumes nothing.
use borrow.Enum.Refused.{opened}
use Rattle.receiver.proofs.Deciding.{on_request, on_plain}
use Rattle.receiver.proofs.answers.decide.Goals as goal

pub returns-in-Put : goal.returns-in-Put
returns-in-Put g c = on_request _ _ _ _ c.in-Put.is c.put_record.ensures

pub returns-in-Get : goal.returns-in-Get
returns-in-Get g c = on_request _ _ _ _ c.in-Get.is tt

pub returns-in-Read : goal.returns-in-Read
returns-in-Read g c = on_request _ _ _ _ c.in-Read.is tt

pub returns-in-Password : goal.returns-in-Password
returns-in-Password g c = on_request _ _ _ _ c.in-Password.is tt

pub returns-in-Nonce : goal.returns-in-Nonce
returns-in-Nonce g c = on_request _ _ _ _ c.in-Nonce.is tt

pub returns-in-Credentials : goal.returns-in-Credentials
returns-in-Credentials g c = on_request _ _ _ _ c.in-Credentials.is tt

pub returns-in_default : goal.returns-in_default
returns-in_default g c = on_plain c.args.request c.make.result.tried c.make.result.decision (opened c.in_default.in_default-own.keys7)
