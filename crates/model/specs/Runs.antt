-- A list of calls on one engine, each getting the state and the stores as the call before left them, but for what the host has written into the
-- packet store behind an unfinished packet: what is known of each call, the records that it hands over, and what the host sees of it.
use Rattle.std.specs.Prelude.{ℕ, ◌<◌, ◌≡◌, List, [], ◌∷◌, ◌++◌, Bool, false, ◌||◌, get_or, take, Some, None}
use Rattle.std.proofs.Math.Option.{Option, none, some}
use Rattle.std.proofs.lemmas.List.Edits.{sets}
use Rattle.incoming.specs.Gather.{Body}
use Rattle.journal.specs.Record.{Record}
use Rattle.journal.specs.Calls.{Call, bytes_offered_of, stream_ended_of, reply_taken_of, reply_given_of, object_given_of, body_given_of, body_failed_of, abort_acknowledged_of, password_given_of, nonce_given_of, credentials_given_of, connections_closed_of}
use Rattle.model.specs.Step.{Stores, Stepped, stepped, Called, called}
use Rattle.model.specs.Calls.{bytes_offered_step, stream_ended_step, reply_taken_step, reply_given_step, object_given_step, body_given_step, body_failed_step, abort_acknowledged_step, password_given_step, nonce_given_step, credentials_given_step, connections_closed_step, started, with_packet}
use Rattle.model.specs.Close.{Closed}
use Rattle.model.specs.Guard.{short, short_tables}
use Rattle.model.specs.Refusals.{Seen}
use Rattle.server.specs.declared.Settings.{Settings}
use Rattle.server.specs.declared.Engine.{Engine}
use Rattle.server.specs.declared.Await.TheVariants as await
use Rattle.server.specs.declared.HostRequest.{HostRequest}
use Rattle.server.specs.declared.HostRequest.TheVariants as request
use Rattle.server.specs.declared.Outcome.{Outcome}
use Rattle.server.specs.declared.Outcome.TheVariants as outcome
use Rattle.server.specs.declared.CallResult.{CallResult}

-- The state and what is handed on from call to call: the four stores and the table store.
pub record State : Type 0 where
  pub engine : Engine
  pub stores : Stores
  pub tables : List ℕ

-- A call that may not write the table store leaves it.
abbrev pub keeps : State → Stepped → Called
keeps s m = called m s.tables

-- A call that is lent the table store alone leaves the four stores.
abbrev pub beside : State → Closed → Called
beside s m = called (stepped m.took s.stores) m.tables

-- A call is the model's step.
abbrev pub step_of : State → Call → Called
step_of s (bytes_offered_of i) = keeps s (bytes_offered_step s.engine i s.stores s.tables)
step_of s stream_ended_of = keeps s (stream_ended_step s.engine s.stores)
step_of s reply_taken_of = keeps s (reply_taken_step s.engine s.stores)
step_of s (reply_given_of code hs) = reply_given_step s.engine code hs s.stores s.tables
step_of s (object_given_of hs b) = keeps s (object_given_step s.engine hs b s.stores)
step_of s (body_given_of d) = keeps s (body_given_step s.engine d s.stores)
step_of s body_failed_of = keeps s (body_failed_step s.engine s.stores)
step_of s abort_acknowledged_of = keeps s (abort_acknowledged_step s.engine s.stores)
step_of s (password_given_of p) = keeps s (password_given_step s.engine p s.stores)
step_of s (nonce_given_of n l) = nonce_given_step s.engine n l s.stores s.tables
step_of s (credentials_given_of c) = keeps s (credentials_given_step s.engine c s.stores)
step_of s (connections_closed_of l) = beside s (connections_closed_step s.engine l s.tables)

-- The state after a call.
abbrev pub state_of : Called → State
state_of m = record { engine = m.took.engine; stores = m.stores; tables = m.tables }

-- ---- a run

-- A call that was performed: what the host wrote into the packet store before it, its arguments, its result, and the four stores and the
-- table store afterwards.
pub record Performed : Type 0 where
  pub written : List ℕ
  pub call : Call
  pub result : CallResult
  pub stores : Stores
  pub tables : List ℕ

-- Makes a `Performed`.
abbrev pub performed : List ℕ → Call → CallResult → Stores → List ℕ → Performed
performed w c r t u = record { written = w; call = c; result = r; stores = t; tables = u }

-- What a call returned and left, as the model's steps have it.
abbrev pub called_in : Performed → Called
called_in x = called (stepped x.result x.stores) x.tables

-- The state after a call that was performed.
abbrev pub next : Performed → State
next x = state_of (called_in x)

-- The state once the host has written the bytes `w` into the packet store, behind those of an unfinished packet. Bytes for which the store
-- has no room are not written.
abbrev pub writing : State → List ℕ → State
writing s w =
    record {
      engine = s.engine;
      stores = with_packet s.stores (sets s.stores.packet s.engine.begun w);
      tables = s.tables;
    }

-- The host writes while bytes are awaited, and at no other time: an answer is made from the packet that stands in the store.
abbrev pub Writes : State → List ℕ → Type 0
Writes s [] = Unit {0}
Writes s (b ∷ w) = s.engine.awaits ≡ await.Bytes

-- The state that a call is lent.
abbrev pub lent_to : State → Performed → State
lent_to s x = writing s x.written

-- The list is one of bytes.
abbrev pub Octets : List ℕ → Type 0
Octets l = (k : ℕ) → get_or l k 0 < 256

-- The bytes that a call offers are bytes.
abbrev pub OffersOctets : Call → Type 0
OffersOctets (bytes_offered_of i) = Octets i
OffersOctets stream_ended_of = Unit {0}
OffersOctets reply_taken_of = Unit {0}
OffersOctets (reply_given_of code hs) = Unit {0}
OffersOctets (object_given_of hs b) = Unit {0}
OffersOctets (body_given_of d) = Unit {0}
OffersOctets body_failed_of = Unit {0}
OffersOctets abort_acknowledged_of = Unit {0}
OffersOctets (password_given_of p) = Unit {0}
OffersOctets (nonce_given_of n l) = Unit {0}
OffersOctets (credentials_given_of c) = Unit {0}
OffersOctets (connections_closed_of l) = Unit {0}

-- What the contract of the call `c` says of it, lent the state `s`: its result and the stores afterwards are the model's step, and the bytes
-- that it was offered are bytes. A call that is not lent the table store leaves it.
pub record Says (s : State) (c : Call) (m : Called) : Type 0 where
  pub step : m ≡ step_of s c
  pub octets : OffersOctets c

-- A run: each call is what its contract says, in the state that the call before left and the host has written into.
abbrev pub Ran : State → List Performed → Type 0
Ran s [] = Unit {0}
Ran s (x ∷ xs) = Writes s x.written × (Says (lent_to s x) x.call (called_in x) × Ran (next x) xs)

-- ---- handing over: a call returns the Put request, with its kept headers and its body bytes or none (docs/PROTOCOL.md#handing-over)

-- The body bytes that a Put request tells of, at the front of the body store `b`; none if no body header came.
abbrev pub body_in : Body → List ℕ → Option (List ℕ)
body_in None b = none
body_in (Some n) b = some (take n b)

-- The record that a request hands over: only a Put has one.
abbrev pub handed_by : HostRequest → Stores → List Record
handed_by (request.Put k b) s = record { headers = take k s.headers; body = body_in b s.body } ∷ []
handed_by (request.Connect n) s = []
handed_by (request.Disconnect n) s = []
handed_by (request.SetPath n u c) s = []
handed_by (request.Abort n) s = []
handed_by (request.Get k) s = []
handed_by (request.Action k) s = []
handed_by (request.Session k) s = []
handed_by (request.UserDefined o k) s = []
handed_by (request.Password u) s = []
handed_by request.Nonce s = []
handed_by (request.Credentials n u r p) s = []
handed_by (request.Read n) s = []

-- The records that a call hands over, by what it returns.
abbrev pub handed : Outcome → Stores → List Record
handed (outcome.Request r) s = handed_by r s
handed outcome.WantsBytes s = []
handed (outcome.Reply n) s = []
handed (outcome.End n) s = []
handed (outcome.Refused n) s = []

-- The records that a run hands over, in order.
abbrev pub records : List Performed → List Record
records [] = []
records (x ∷ xs) = handed x.result.outcome x.stores ++ records xs

-- ---- what the host sees

-- What a call is lent is too short: one of the four stores, or, for the calls that are lent it, the table store.
abbrev pub lacks : Settings → Call → Stores → List ℕ → Bool
lacks st (bytes_offered_of i) s t = short_tables t || short st.max_object_size s
lacks st (reply_given_of code hs) s t = short_tables t || short st.max_object_size s
lacks st (nonce_given_of n l) s t = short_tables t || short st.max_object_size s
lacks st stream_ended_of s t = short st.max_object_size s
lacks st reply_taken_of s t = short st.max_object_size s
lacks st (object_given_of hs b) s t = short st.max_object_size s
lacks st (body_given_of d) s t = short st.max_object_size s
lacks st body_failed_of s t = short st.max_object_size s
lacks st abort_acknowledged_of s t = short st.max_object_size s
lacks st (password_given_of p) s t = short st.max_object_size s
lacks st (credentials_given_of c) s t = short st.max_object_size s
lacks st (connections_closed_of l) s t = short_tables t

-- What the host that set `st` sees of a call that was lent the state `s`.
abbrev pub seen_of : Settings → State → Performed → Seen
seen_of st s x =
    record {
      call = x.call;
      short = lacks st x.call s.stores s.tables;
      taken = x.result.taken;
      outcome = x.result.outcome;
      reply = get_or s.stores.reply 0 0;
    }

-- What the host sees of a run, call for call.
abbrev pub seen : Settings → State → List Performed → List Seen
seen st s [] = []
seen st s (x ∷ xs) = seen_of st (lent_to s x) x ∷ seen st (next x) xs

-- ---- the accepted starts: a fresh engine with these settings, and stores that are long enough
pub record Started (st : Settings) (s : State) : Type 0 where
  pub fresh : s.engine ≡ started st
  pub tables : short_tables s.tables ≡ false
  pub room : short st.max_object_size s.stores ≡ false
