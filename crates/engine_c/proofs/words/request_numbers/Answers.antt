-- `engine_c::words::request_numbers` meets its contract. Each kind gets the numbers that the definition says. Assumes nothing.
use Rattle.engine_c.proofs.words.request_numbers.Goals as goal

pub returns-in-Connect : goal.returns-in-Connect
returns-in-Connect c = simp (c.few.ensures, c.wide.ensures, c.in-Connect.is)

pub returns-in-Disconnect : goal.returns-in-Disconnect
returns-in-Disconnect c = simp (c.few-in-Disconnect.ensures, c.wide-in-Disconnect.ensures, c.in-Disconnect.is)

pub returns-in-SetPath : goal.returns-in-SetPath
returns-in-SetPath c =
    simp (
      c.few-in-SetPath.ensures,
      c.flag_number-in-SetPath.ensures,
      c.flag_number.ensures,
      c.wide-in-SetPath.ensures,
      c.in-SetPath.is,
    )

pub returns-in-Abort : goal.returns-in-Abort
returns-in-Abort c = simp (c.few-in-Abort.ensures, c.wide-in-Abort.ensures, c.in-Abort.is)

pub returns-in-Put : goal.returns-in-Put
returns-in-Put c = simp (c.put_numbers.ensures, c.in-Put.is)

pub returns-in-Get : goal.returns-in-Get
returns-in-Get c = simp (c.few-in-Get.ensures, c.wide-in-Get.ensures, c.in-Get.is)

pub returns-in-Action : goal.returns-in-Action
returns-in-Action c = simp (c.few-in-Action.ensures, c.wide-in-Action.ensures, c.in-Action.is)

pub returns-in-Session : goal.returns-in-Session
returns-in-Session c = simp (c.few-in-Session.ensures, c.wide-in-Session.ensures, c.in-Session.is)

pub returns-in-UserDefined : goal.returns-in-UserDefined
returns-in-UserDefined c =
    simp
    (c.few-in-UserDefined.ensures, c.wide8.ensures.0, c.wide-in-UserDefined.ensures, c.in-UserDefined.is)

pub returns-in-Password : goal.returns-in-Password
returns-in-Password c = simp (c.found_numbers.ensures, c.in-Password.is)

pub returns-in-Nonce : goal.returns-in-Nonce
returns-in-Nonce c = simp (c.few-in-Nonce.ensures, c.in-Nonce.is)

pub returns-in-Credentials : goal.returns-in-Credentials
returns-in-Credentials c = simp (c.credentials_numbers.ensures, c.in-Credentials.is)

pub returns-in-Read : goal.returns-in-Read
returns-in-Read c = simp (c.few-in-Read.ensures, c.wide-in-Read.ensures, c.in-Read.is)
