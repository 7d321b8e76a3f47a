-- What is decided by the results of the system's calls, and which call a decision comes to: the bytes `l` that are lent go with it.
use Rattle.std.specs.Prelude.{ℕ, Bool, true, false, List, [], ◌∷◌, ltb, take, drop}
use Rattle.std.proofs.Math.Option.{none, some}
use Rattle.base.specs.Bytes.{bytes32}
use Rattle.packet.specs.HeaderIds as header_id
use Rattle.packet.specs.ResponseCodes as response
use Rattle.packet.specs.AuthWrite.{given}
use Rattle.journal.specs.Calls.{Call, Credentials, bytes_offered_of, stream_ended_of, reply_taken_of, reply_given_of, object_given_of, body_given_of, body_failed_of, abort_acknowledged_of, password_given_of, nonce_given_of, credentials_given_of}
use Rattle.server.specs.declared.Engine.{Engine}
use Rattle.model.specs.Step.{Stores}
use Rattle.model.specs.Runs.{State}
use Rattle.base.specs.Pick.{pick}
use Rattle.digest.specs.declared.md5.Octets16.{Octets16}
use Rattle.filing.specs.Plan.{code_for}
use Rattle.server.specs.declared.HostRequest.{HostRequest}
use Rattle.server.specs.declared.HostRequest.TheVariants as request
use Rattle.reception.specs.declared.answer.Decision.{Decision}
use Rattle.reception.specs.declared.answer.Decision.TheVariants.{Make, Leave}
use Rattle.reception.specs.declared.answer.Secret.{Secret}
use Rattle.reception.specs.declared.answer.Secret.TheVariants as secret
use Rattle.reception.specs.declared.answer.Answer.{Answer}
use Rattle.reception.specs.declared.answer.Answer.TheVariants as answer

-- A Length header.
abbrev pub length_header : ℕ → List ℕ
length_header n = header_id.length ∷ bytes32 n

-- Whether there is a password.
abbrev pub is_password_known : Secret → Bool
is_password_known secret.Known = true
is_password_known secret.Unknown = false
is_password_known secret.Stopped = false

-- The user id, if it has bytes, and the password behind it.
abbrev pub own_of : ℕ → List ℕ → Credentials
own_of user l = record { user = given (ltb 0 user) (take user l); password = drop user l }

-- The call that a decision comes to.
abbrev pub call_of : Answer → List ℕ → Call
call_of answer.Offer l = bytes_offered_of l
call_of answer.End l = stream_ended_of
call_of answer.Sent l = reply_taken_of
call_of (answer.Reply code) l = reply_given_of code []
call_of (answer.Object size) l = object_given_of (length_header size) true
call_of answer.Body l = body_given_of l
call_of answer.BodyFailed l = body_failed_of
call_of answer.Acknowledge l = abort_acknowledged_of
call_of (answer.Password s) l = password_given_of (given (is_password_known s) l)
call_of (answer.Nonce n) l = nonce_given_of n l
call_of (answer.Credentials user) l = credentials_given_of (some (own_of user l))
call_of answer.NoCredentials l = credentials_given_of none

-- The state that a call is lent.
abbrev pub lending : Engine → Stores → List ℕ → State
lending e s t = record { engine = e; stores = s; tables = t }

-- ---- decisions

-- The answer to a request of which nothing is asked of the system, or nothing can be had.
abbrev pub plain_answer : HostRequest → Answer
plain_answer (request.Connect n) = answer.Reply response.success
plain_answer (request.Disconnect n) = answer.Reply response.success
plain_answer (request.SetPath n u c) = answer.Reply response.success
plain_answer (request.Abort n) = answer.Acknowledge
plain_answer (request.Put k b) = answer.Reply response.database_locked
plain_answer (request.Get k) = answer.Reply response.not_found
plain_answer (request.Action k) = answer.Reply response.not_implemented
plain_answer (request.Session k) = answer.Reply response.not_implemented
plain_answer (request.UserDefined o k) = answer.Reply response.not_implemented
plain_answer (request.Password u) = answer.Password secret.Unknown
plain_answer request.Nonce = answer.BodyFailed
plain_answer (request.Credentials n u r p) = answer.NoCredentials
plain_answer (request.Read n) = answer.BodyFailed

-- What is done once the reply was written, all of it or not.
abbrev pub after_write : Bool → Decision
after_write written = pick written (Make answer.Sent) (Leave 81)

-- What is done once sixteen random bytes were asked for.
abbrev pub after_draw : Bool → Octets16 → Decision
after_draw drawn n = pick drawn (Make (answer.Nonce n)) (Leave 82)

-- The answer to a Put, if records are taken under its Target or not.
abbrev pub after_filing : Bool → Bool → Bool → Answer
after_filing taken filed full = answer.Reply (pick taken (code_for filed full) response.forbidden)
