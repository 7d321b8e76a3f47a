-- Calls of the functions of `client` themselves: the arguments with which a function was called, what it returned and left, and what its caller
-- learnt. `Learnt` is the check's own reading of a function's `ensures` clauses, so nothing else is known of a call here.
use Rattle.std.specs.Prelude.{◌≡◌}
use Rattle.incoming.specs.Frame.{coming}
use Rattle.client_model.specs.Step.{Stores, stores, Stepped, stepped}
use Rattle.client_model.specs.Refusals as due
use Rattle.client_model.specs.Refusals.{ClientCall}
use Rattle.client_model.specs.declared.CallResult.{CallResult}
use Rattle.client_model.specs.declared.Client.{Client}
use Rattle.client_model.specs.declared.Settings.{Settings}
use Rattle.client.proofs.calls.start.Reads as client_start_reads
use Rattle.client.proofs.calls.connect.Reads as client_connect_reads
use Rattle.client.proofs.calls.disconnect.Reads as client_disconnect_reads
use Rattle.client.proofs.calls.put.Reads as client_put_reads
use Rattle.client.proofs.calls.get.Reads as client_get_reads
use Rattle.client.proofs.calls.request_sent.Reads as client_request_sent_reads
use Rattle.client.proofs.calls.body_given.Reads as client_body_given_reads
use Rattle.client.proofs.calls.part_taken.Reads as client_part_taken_reads
use Rattle.client.proofs.calls.abort.Reads as client_abort_reads
use Rattle.client.proofs.calls.bytes_offered.Reads as client_bytes_offered_reads
use Rattle.client.proofs.calls.stream_ended.Reads as client_stream_ended_reads
use Rattle.link_contracts.specs.FunctionCall.{FunctionCall, lent}

-- A call on the client: the state and the stores that it was lent, its other arguments, and what it returned and left.
pub record CallOnClient : Type 0 where
  pub client : Client
  pub stores : Stores
  pub call : ClientCall
  pub returned : Stepped

-- Makes a `CallOnClient`.
abbrev pub on_client : Client → Stores → ClientCall → Stepped → CallOnClient
on_client c s x m = record { client = c; stores = s; call = x; returned = m }

-- The call `y` was made by one of the client's functions.
pub data ClientMade (y : CallOnClient) : Type 0 where
  connects : FunctionCall client_connect_reads.Learnt
      (λ κs a r x. on_client a.0 (lent stores a.1.1) (due.connect a.1.0.now) (stepped r (lent stores x.1.1)) ≡ y)
      → ClientMade y
  disconnects : FunctionCall client_disconnect_reads.Learnt
      (λ κs a r x. on_client a.0 (lent stores a.1.1) (due.disconnect a.1.0.now) (stepped r (lent stores x.1.1)) ≡ y)
      → ClientMade y
  puts : FunctionCall client_put_reads.Learnt
      (λ κs a r x. on_client a.0 (lent stores a.1.1.1) (due.put a.1.0.now a.1.1.0) (stepped r (lent stores x.1.1.1)) ≡ y)
      → ClientMade y
  gets : FunctionCall client_get_reads.Learnt
      (λ κs a r x. on_client a.0 (lent stores a.1.1) (due.get a.1.0.now) (stepped r (lent stores x.1.1)) ≡ y)
      → ClientMade y
  sends : FunctionCall client_request_sent_reads.Learnt
      (λ κs a r x. on_client a.0 (lent stores a.1) due.requestSent (stepped r (lent stores x.1)) ≡ y)
      → ClientMade y
  gives_body : FunctionCall client_body_given_reads.Learnt
      (λ κs a r x. on_client a.0 (lent stores a.1.1) (due.body_given_of a.1.0.now) (stepped r (lent stores x.1.1)) ≡ y)
      → ClientMade y
  takes_part : FunctionCall client_part_taken_reads.Learnt
      (λ κs a r x. on_client a.0 (lent stores a.1) due.partTaken (stepped r (lent stores x.1)) ≡ y)
      → ClientMade y
  aborts : FunctionCall client_abort_reads.Learnt
      (λ κs a r x. on_client a.0 (lent stores a.1) due.abort (stepped r (lent stores x.1)) ≡ y)
      → ClientMade y
  offers_bytes : FunctionCall client_bytes_offered_reads.Learnt
      (λ κs a r x. on_client a.0 (lent stores a.1.1.1)
      (due.bytes_offered_of (coming a.1.1.1.0.now a.0.begun a.1.0 a.1.1.0.now)) (stepped r (lent stores x.1.1.1)) ≡ y)
      → ClientMade y
  ends_stream : FunctionCall client_stream_ended_reads.Learnt
      (λ κs a r x. on_client a.0 (lent stores a.1) due.stream_ended_of (stepped r (lent stores x.1)) ≡ y)
      → ClientMade y

-- A start of the client: its settings, the stores that it was lent, and its result and the stores afterwards.
pub record ClientStart : Type 0 where
  pub settings : Settings
  pub stores : Stores
  pub result : CallResult
  pub left : Stores

-- Makes a `ClientStart`.
abbrev pub client_start : Settings → Stores → CallResult → Stores → ClientStart
client_start st s r t = record { settings = st; stores = s; result = r; left = t }

-- The start `y` was made by the client's function.
abbrev pub ClientStarts : ClientStart → Type 0
ClientStarts y =
    FunctionCall client_start_reads.Learnt (λ κs a r x. client_start a.0 (lent stores a.1) r (lent stores x.1) ≡ y)
