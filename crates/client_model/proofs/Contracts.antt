-- The claims over contracts: a run of which is known what the contracts say is a list of calls of the model, from a start of the model.
-- Assumes nothing.
use mathlib.Core.Path.{◌≡◌, refl, sym, ap, subst, ◌∙◌}
use mathlib.Core.Bool.{Bool, true, false}
use mathlib.Core.List.{List, [], ◌∷◌, map}
use Prim.Native.Nat.{ℕ}
use native.Mathlib.Omega.{arith}
use Rattle.client_model.specs.declared.Settings.{Settings}
use Rattle.client_model.specs.declared.Client.{Client}
use Rattle.client_model.specs.declared.CallResult.{CallResult}
use Rattle.client_model.specs.declared.Outcome.TheVariants as outcome
use Rattle.client_model.specs.Step.{Stores, Stepped, stepped}
use Rattle.client_model.specs.Guard.{short}
use Rattle.client_model.specs.Calls.{start_step, started}
use Rattle.client_model.specs.Refusals.{Seen, verdict_of, at_start, due_from, seen, AllOfferOctets}
use Rattle.client_model.specs.PacketsSent.{AllSend}
use Rattle.client_model.specs.ContractClaims.{Performed, Ran, seen_in, calls_in, Accepted, ContractsRefuse, ContractsSend}
use Rattle.client_model.proofs.Due.{client-refusals}
use Rattle.client_model.proofs.PacketsSent.{client-sends}

-- what is seen of a run is what is seen of its calls
run-seen : (c : Client) (s : Stores) (xs : List Performed) → Ran c s xs → seen c s (calls_in xs) ≡ seen_in s xs
run-seen c s [] w = refl
run-seen c s (x ∷ xs) w =
    ap
    (λ (m : Stepped).
    record { call = x.call; short = short s; outcome = m.took.outcome; packet = m.stores.packet; request = m.stores.request }
    ∷ seen m.took.client m.stores (calls_in xs))
    (sym w.0.step)
    ∙ ap
    (λ (l : List Seen).
    record {
      call = x.call;
      short = short s;
      outcome = x.result.outcome;
      packet = x.stores.packet;
      request = x.stores.request;
    }
    ∷ l)
    (run-seen x.result.client x.stores xs w.1)

run-octets : (c : Client) (s : Stores) (xs : List Performed) → Ran c s xs → AllOfferOctets (calls_in xs)
run-octets c s [] w = tt
run-octets c s (x ∷ xs) w = (w.0.octets, run-octets x.result.client x.stores xs w.1)

-- an accepted start is one of which the claims speak
record Starts (st : Settings) (m : Stepped) : Type 0 where
  fresh : m.took.client ≡ started st
  room : short m.stores ≡ false

start-accepted : (st : Settings) (s : Stores) → (start_step st s).took.outcome ≡ outcome.Ready → Starts st (start_step st s)
unfolding start_step
start-accepted st s = go (short s) refl
  where
    go : (t : Bool) → short s ≡ t → (start_step st s).took.outcome ≡ outcome.Ready → Starts st (start_step st s)
    go true h e = let z : ◌≡◌ {A = ℕ} 0 1 = (let w = simp h at e in cc) in absurd (omega arith)
    go false h e = simp h (record { fresh = refl; room = h })

accepted-starts : (st : Settings) (s t : Stores) (r : CallResult) → Accepted st s r t → Starts st (stepped r t)
accepted-starts st s t r a =
    subst (Starts st) (sym a.says) (start-accepted st s (ap (λ (m : Stepped). m.took.outcome) (sym a.says) ∙ a.accepted))

pub contracts_refuse : ContractsRefuse
contracts_refuse st s t r xs a w =
    let f = accepted-starts st s t r a in
    let v = subst (λ (c : Client). Ran c t xs) f.fresh w in
    subst (λ (l : List Seen). map (λ (x : Seen). verdict_of x.outcome) l ≡ due_from at_start l) (run-seen (started st) t xs v)
    (client-refusals st t (calls_in xs) f.room (run-octets (started st) t xs v))

pub contracts_send : ContractsSend
contracts_send st s t r xs a w o =
    let f = accepted-starts st s t r a in
    let v = subst (λ (c : Client). Ran c t xs) f.fresh w in
    subst (λ (l : List Seen). AllSend at_start l) (run-seen (started st) t xs v) (client-sends st t (calls_in xs) f.room o)
