-- What a host answers that keeps nothing, by the rules of the bench (docs/PROTOCOL.md#bench): it replies without headers, with 0x20 to
-- Connect, Disconnect and Put, with 0x51 otherwise; it only acknowledges an Abort, and has no password and no credentials. A nonce, which
-- the bench is never asked for, is the kernel's.
use Rattle.std.specs.Prelude.{ℕ, Bool, List, [], ◌≡◌}
use Rattle.std.proofs.Math.Option.{none}
use Rattle.base.specs.Pick.{pick}
use Rattle.digest.specs.declared.md5.Octets16.{Octets16}
use Rattle.journal.specs.Calls.{Call, reply_given_of, abort_acknowledged_of, body_failed_of, password_given_of, nonce_given_of, credentials_given_of}
use Rattle.model.specs.Step.{Stores, Called}
use Rattle.model.specs.Runs.{step_of}
use Rattle.server.specs.declared.Engine.{Engine}
use Rattle.server.specs.declared.HostRequest.{HostRequest}
use Rattle.server.specs.declared.HostRequest.TheVariants as request
use Rattle.host.specs.declared.answers.Kind.{Kind}
use Rattle.host.specs.declared.answers.Kind.TheVariants as kind

-- The kind of answer to a request.
abbrev pub kind_for : HostRequest → Kind
kind_for (request.Connect n) = kind.Reply 0x20
kind_for (request.Disconnect n) = kind.Reply 0x20
kind_for (request.SetPath n u c) = kind.Reply 0x51
kind_for (request.Abort n) = kind.Acknowledge
kind_for (request.Put k b) = kind.Reply 0x20
kind_for (request.Get k) = kind.Reply 0x51
kind_for (request.Action k) = kind.Reply 0x51
kind_for (request.Session k) = kind.Reply 0x51
kind_for (request.UserDefined o k) = kind.Reply 0x51
kind_for (request.Password u) = kind.NoPassword
kind_for request.Nonce = kind.Nonce
kind_for (request.Credentials n u r p) = kind.NoCredentials
kind_for (request.Read n) = kind.NoBody

-- What the engine does with the answer: the model's step, with the table store.
abbrev pub answered : Call → Engine → Stores → List ℕ → Called
answered c e s t = step_of (record { engine = e; stores = s; tables = t }) c

-- What comes of an answer of each kind. A nonce is some sixteen bytes: no contract can say which ones the kernel gives. If it has none, the
-- host makes a call that is not due, and the engine refuses it.
abbrev pub Answers : Kind → Engine → Stores → List ℕ → Called → Type 0
Answers (kind.Reply code) e s t r = r ≡ answered (reply_given_of code []) e s t
Answers kind.Acknowledge e s t r = r ≡ answered abort_acknowledged_of e s t
Answers kind.NoPassword e s t r = r ≡ answered (password_given_of none) e s t
Answers kind.NoCredentials e s t r = r ≡ answered (credentials_given_of none) e s t
Answers kind.Nonce e s t r = (n : Octets16) × ((drawn : Bool) × (r ≡ answered (pick drawn (nonce_given_of n []) body_failed_of) e s t))
Answers kind.NoBody e s t r = r ≡ answered body_failed_of e s t
