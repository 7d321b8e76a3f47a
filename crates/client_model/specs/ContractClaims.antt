-- The claims on the client over contracts: a run of calls of which is known only what the functions' contracts say, from the start on, the
-- state and the stores passed on. That offered bytes are bytes is a promise of `bytes_offered`.
use Rattle.std.specs.Prelude.{◌≡◌, List, [], ◌∷◌, map}
use Rattle.client_model.specs.declared.Settings.{Settings}
use Rattle.client_model.specs.declared.Client.{Client}
use Rattle.client_model.specs.declared.CallResult.{CallResult}
use Rattle.client_model.specs.declared.Outcome.TheVariants as outcome
use Rattle.client_model.specs.Step.{Stores, stepped}
use Rattle.client_model.specs.Guard.{short}
use Rattle.client_model.specs.Calls.{start_step}
use Rattle.client_model.specs.Refusals.{ClientCall, client_step, Seen, verdict_of, at_start, due_from, OffersOctets}
use Rattle.client_model.specs.PacketsSent.{AllSend, AllBringOctets}

-- A call that was performed: its arguments, its result, and the stores afterwards.
pub record Performed : Type 0 where
  pub call : ClientCall
  pub result : CallResult
  pub stores : Stores

-- Makes a `Performed`.
abbrev pub performed : ClientCall → CallResult → Stores → Performed
performed x r t = record { call = x; result = r; stores = t }

-- What a call's contract says of it: its result and the stores afterwards are the model's step, and the bytes that it was offered are bytes.
pub record Says (c : Client) (s : Stores) (x : Performed) : Type 0 where
  pub step : stepped x.result x.stores ≡ client_step c s x.call
  pub octets : OffersOctets x.call

-- A run: each call is what its contract says, in the state and the stores that the call before left.
abbrev pub Ran : Client → Stores → List Performed → Type 0
Ran c s [] = Unit {0}
Ran c s (x ∷ xs) = Says c s x × Ran x.result.client x.stores xs

-- What a user sees of a run that begins with these stores.
abbrev pub seen_in : Stores → List Performed → List Seen
seen_in s [] = []
seen_in s (x ∷ xs) =
    record {
      call = x.call;
      short = short s;
      outcome = x.result.outcome;
      packet = x.stores.packet;
      request = x.stores.request;
    }
    ∷ seen_in x.stores xs

-- The calls of a run.
abbrev pub calls_in : List Performed → List ClientCall
calls_in xs = map (λ (x : Performed). x.call) xs

-- A start that was accepted, by what its contract says.
pub record Accepted (st : Settings) (s : Stores) (r : CallResult) (t : Stores) : Type 0 where
  pub says : stepped r t ≡ start_step st s
  pub accepted : r.outcome ≡ outcome.Ready

-- A call of the functions themselves is refused exactly if it is due to be, with the number that is due, in every run from an accepted start.
abbrev pub ContractsRefuse : Type 0
ContractsRefuse =
    (st : Settings) (s t : Stores) (r : CallResult) (xs : List Performed) → Accepted st s r t → Ran r.client t xs
    → map (λ (x : Seen). verdict_of x.outcome) (seen_in t xs) ≡ due_from at_start (seen_in t xs)

-- Every packet of every such run is within the server's limit and can be read with its own opcode, if the user's headers are bytes.
abbrev pub ContractsSend : Type 0
ContractsSend =
    (st : Settings) (s t : Stores) (r : CallResult) (xs : List Performed) → Accepted st s r t → Ran r.client t xs
    → AllBringOctets (calls_in xs) → AllSend at_start (seen_in t xs)
