-- Calls of the functions of `engine` themselves, as `ClientFunctions` has those of `client`.
use Rattle.std.specs.Prelude.{ℕ, ◌≡◌, List}
use Rattle.packet.specs.AuthWrite.{given}
use Rattle.incoming.specs.Frame.{coming}
use Rattle.connection.specs.Pieces.{credentials_of}
use Rattle.journal.specs.Calls.{Call, bytes_offered_of, stream_ended_of, reply_taken_of, reply_given_of, object_given_of, body_given_of, body_failed_of, abort_acknowledged_of, password_given_of, nonce_given_of, credentials_given_of, connections_closed_of}
use Rattle.server.specs.declared.CallResult.{CallResult}
use Rattle.server.specs.declared.Engine.{Engine}
use Rattle.server.specs.declared.Settings.{Settings}
use Rattle.model.specs.Step.{Stores, stores, stepped, Called, called}
use Rattle.model.specs.Runs.{State}
use Rattle.engine.proofs.calls.start.Reads as engine_start_reads
use Rattle.engine.proofs.calls.bytes_offered.Reads as engine_bytes_offered_reads
use Rattle.engine.proofs.calls.stream_ended.Reads as engine_stream_ended_reads
use Rattle.engine.proofs.calls.reply_taken.Reads as engine_reply_taken_reads
use Rattle.engine.proofs.calls.reply_given.Reads as engine_reply_given_reads
use Rattle.engine.proofs.calls.object_given.Reads as engine_object_given_reads
use Rattle.engine.proofs.calls.body_given.Reads as engine_body_given_reads
use Rattle.engine.proofs.calls.body_failed.Reads as engine_body_failed_reads
use Rattle.engine.proofs.calls.abort_acknowledged.Reads as engine_abort_acknowledged_reads
use Rattle.engine.proofs.calls.password_given.Reads as engine_password_given_reads
use Rattle.engine.proofs.calls.nonce_given.Reads as engine_nonce_given_reads
use Rattle.engine.proofs.calls.credentials_given.Reads as engine_credentials_given_reads
use Rattle.engine.proofs.calls.connections_closed.Reads as engine_connections_closed_reads
use Rattle.link_contracts.specs.FunctionCall.{FunctionCall, lent}

-- A call on the server: the state and all that it was lent, its other arguments, and what it returned and left.
pub record CallOnServer : Type 0 where
  pub state : State
  pub call : Call
  pub returned : Called

-- Makes a `CallOnServer`.
abbrev pub on_server : State → Call → Called → CallOnServer
on_server s c m = record { state = s; call = c; returned = m }

-- The state before a call, by the engine, the four stores and the table store.
abbrev pub state_with : Engine → Stores → List ℕ → State
state_with e s t = record { engine = e; stores = s; tables = t }

-- The call `y` was made by one of the engine's functions. A function that is not lent the table store or the four stores says nothing of them:
-- `t` and `s` are what the host keeps of those.
pub data ServerMade (y : CallOnServer) : Type 0 where
  offers_bytes : FunctionCall engine_bytes_offered_reads.Learnt
      (λ κs a r x. let t = a.1.1.1.0.now in
      on_server (state_with a.0 (lent stores a.1.1.1.1) t)
      (bytes_offered_of (coming a.1.1.1.1.0.now a.0.begun a.1.0 a.1.1.0.now))
      (called (stepped r (lent stores x.1.1.1.1)) t) ≡ y)
      → ServerMade y
  ends_stream : (t : List ℕ) → FunctionCall engine_stream_ended_reads.Learnt
      (λ κs a r x. on_server (state_with a.0 (lent stores a.1) t)
      stream_ended_of (called (stepped r (lent stores x.1)) t) ≡ y)
      → ServerMade y
  takes_reply : (t : List ℕ) → FunctionCall engine_reply_taken_reads.Learnt
      (λ κs a r x. on_server (state_with a.0 (lent stores a.1) t)
      reply_taken_of (called (stepped r (lent stores x.1)) t) ≡ y)
      → ServerMade y
  gives_reply : FunctionCall engine_reply_given_reads.Learnt
      (λ κs a r x. on_server (state_with a.0 (lent stores a.1.1.1.1) a.1.1.1.0.now)
      (reply_given_of a.1.0 a.1.1.0.now) (called (stepped r (lent stores x.1.1.1.1)) x.1.1.1.0.now) ≡ y)
      → ServerMade y
  gives_object : (t : List ℕ) → FunctionCall engine_object_given_reads.Learnt
      (λ κs a r x. on_server (state_with a.0 (lent stores a.1.1.1) t)
      (object_given_of a.1.0.now a.1.1.0) (called (stepped r (lent stores x.1.1.1)) t) ≡ y)
      → ServerMade y
  gives_body : (t : List ℕ) → FunctionCall engine_body_given_reads.Learnt
      (λ κs a r x. on_server (state_with a.0 (lent stores a.1.1) t)
      (body_given_of a.1.0.now) (called (stepped r (lent stores x.1.1)) t) ≡ y)
      → ServerMade y
  fails_body : (t : List ℕ) → FunctionCall engine_body_failed_reads.Learnt
      (λ κs a r x. on_server (state_with a.0 (lent stores a.1) t)
      body_failed_of (called (stepped r (lent stores x.1)) t) ≡ y)
      → ServerMade y
  acknowledges : (t : List ℕ) → FunctionCall engine_abort_acknowledged_reads.Learnt
      (λ κs a r x. on_server (state_with a.0 (lent stores a.1) t)
      abort_acknowledged_of (called (stepped r (lent stores x.1)) t) ≡ y)
      → ServerMade y
  gives_password : (t : List ℕ) → FunctionCall engine_password_given_reads.Learnt
      (λ κs a r x. on_server (state_with a.0 (lent stores a.1.1.1) t)
      (password_given_of (given a.1.0 a.1.1.0.now)) (called (stepped r (lent stores x.1.1.1)) t) ≡ y)
      → ServerMade y
  gives_nonce : FunctionCall engine_nonce_given_reads.Learnt
      (λ κs a r x. on_server (state_with a.0 (lent stores a.1.1.1.1) a.1.1.1.0.now)
      (nonce_given_of a.1.0 a.1.1.0.now) (called (stepped r (lent stores x.1.1.1.1)) x.1.1.1.0.now) ≡ y)
      → ServerMade y
  gives_credentials : (t : List ℕ) → FunctionCall engine_credentials_given_reads.Learnt
      (λ κs a r x. on_server (state_with a.0 (lent stores a.1.1.1.1.1) t)
      (credentials_given_of (credentials_of a.1.0 (given a.1.1.0 a.1.1.1.0.now) a.1.1.1.1.0.now))
      (called (stepped r (lent stores x.1.1.1.1.1)) t) ≡ y)
      → ServerMade y
  closes : (s : Stores) → FunctionCall engine_connections_closed_reads.Learnt
      (λ κs a r x. on_server (state_with a.0 s a.1.1.0.now)
      (connections_closed_of a.1.0.now) (called (stepped r s) x.1.1.0.now) ≡ y)
      → ServerMade y

-- A start of the engine: its settings, the realm, the four stores and the table store that it was lent, and its result and the stores afterwards.
pub record ServerStart : Type 0 where
  pub settings : Settings
  pub realm : List ℕ
  pub stores : Stores
  pub tables : List ℕ
  pub result : CallResult
  pub left : Stores

-- Makes a `ServerStart`.
abbrev pub server_start : Settings → List ℕ → Stores → List ℕ → CallResult → Stores → ServerStart
server_start st l s u r t = record { settings = st; realm = l; stores = s; tables = u; result = r; left = t }

-- The start `y` was made by the engine's function.
abbrev pub ServerStarts : ServerStart → Type 0
ServerStarts y =
    FunctionCall engine_start_reads.Learnt
    (λ κs a r x. server_start a.0 a.1.0.now (lent stores a.1.1.1) a.1.1.0.now r (lent stores x.1.1.1) ≡ y)
