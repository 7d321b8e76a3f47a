-- What the contracts of both ends come to: two accepted starts are fresh ends, and a run of which is known only what the contracts say is the run of
-- the link. Assumes nothing.
use mathlib.Core.Path.{◌≡◌, refl, sym, ap, ◌∙◌}
use mathlib.Core.List.{List, [], ◌∷◌, ◌++◌}
use mathlib.Core.Bool.{Bool, true, false}
use mathlib.Core.Option.{Option, none, some}
use Prim.Native.Nat.{ℕ, ◌≤◌}
use native.Mathlib.Omega.{arith}
use lib.ListN.{take, drop}
use Rattle.std.specs.Prelude.{None}
use Rattle.base.specs.Pick.{pick}
use Rattle.journal.specs.Calls.{Call}
use Rattle.server.specs.declared.CallResult.{CallResult as ServerResult}
use Rattle.server.specs.declared.Outcome.{Outcome as ServerOutcome}
use Rattle.server.specs.declared.Outcome.TheVariants as told
use Rattle.server.specs.declared.Settings.{Settings as ServerSettings}
use Rattle.model.specs.Step.{Stores as ServerStores, Called}
use Rattle.model.specs.ContractClaims.{Accepted}
use Rattle.model.proofs.Contracts.{accepted-started}
use Rattle.client_model.specs.Step.{Stores, Stepped, stepped, client_with}
use Rattle.client_model.specs.Guard.{short, refuse}
use Rattle.client_model.specs.Calls.{start_step, started}
use Rattle.client_model.specs.declared.CallResult.{CallResult}
use Rattle.client_model.specs.declared.Await.TheVariants as await
use Rattle.client_model.specs.declared.Operation.TheVariants.{Nothing}
use Rattle.client_model.specs.declared.Outcome.{Outcome}
use Rattle.client_model.specs.declared.Outcome.TheVariants as said
use Rattle.client_model.specs.declared.Refusal.TheVariants as refusal
use Rattle.client_model.specs.declared.Settings.{Settings}
use Rattle.link.specs.Link.{Link, Move, user, host, sendUp, sendDown, offerUp, offerDown, closeUp, closeDown, client_did, server_did, reply_bytes, server_call, call_after, up_after, close_after, move, moves}
use Rattle.link.specs.Claims.{Fresh}
use Rattle.link.specs.ContractClaims.{Returned, sent_call, end_call, ClientSays, ServerSays, MoveSays, client_led, server_led, request_bytes, led, RanSo, led_all, ClientAccepted, started_link, ContractsLink}

-- ---- a move

-- a call of the server
server-led : (l : Link) (c : Option Call) (m : Called) (down : List ℕ) → ServerSays l.server c m → server_led c l m down ≡ call_after c l down
server-led l none m down e = refl
server-led l (some c) m down e = ap (λ (x : Called). server_did l x (drop x.took.taken l.up) down) e

-- the packet that waits is sent
sent-led : (l : Link) (o : Outcome) (m : Stepped) → ClientSays (sent_call o l) m
    → client_led (sent_call o l) l m (l.up ++ request_bytes o l.stores.request) l.down ≡ up_after o l
sent-led l (said.Send n) m e = ap (λ (x : Stepped). client_did l x (l.up ++ take n l.stores.request) l.down) e
sent-led l said.Ready m e = refl
sent-led l said.WantsBytes m e = refl
sent-led l (said.Read n) m e = refl
sent-led l (said.Part k b) m e = refl
sent-led l (said.Done c n) m e = refl
sent-led l (said.Stopped c n) m e = refl
sent-led l (said.Aborted c n) m e = refl
sent-led l (said.End x) m e = refl
sent-led l (said.Refused r) m e = refl

-- the end of the stream is seen
end-led : (l : Link) (o : ServerOutcome) (down : List ℕ) (m : Stepped) → ClientSays (end_call o down l) m
    → client_led (end_call o down l) l m l.up l.down ≡ close_after o down l
end-led l (told.End x) [] m e = ap (λ (x : Stepped). client_did l x l.up l.down) e
end-led l (told.End x) (b ∷ down) m e = refl
end-led l told.WantsBytes down m e = refl
end-led l (told.Reply n) down m e = refl
end-led l (told.Request r) down m e = refl
end-led l (told.Refused r) down m e = refl

move-led : (l : Link) (m : Move) (x : Returned) → MoveSays l m x → led l m x ≡ move l m
unfolding move
move-led l (user u) x w = ap (λ (y : Stepped). client_did l y l.up l.down) w.client
move-led l sendUp x w = sent-led l l.said x.client w.client
move-led l (offerDown n) x w = ap (λ (y : Stepped). client_did l y l.up (drop y.took.taken l.down)) w.client
move-led l closeDown x w = end-led l l.told l.down x.client w.client
move-led l (host c) x w = server-led l (server_call l (host c)) x.server l.down w.server
move-led l sendDown x w = server-led l (server_call l sendDown) x.server (l.down ++ reply_bytes l.told l.server.stores.reply) w.server
move-led l (offerUp n) x w = server-led l (server_call l (offerUp n)) x.server l.down w.server
move-led l closeUp x w = server-led l (server_call l closeUp) x.server l.down w.server

run-led : (ms : List Move) (l : Link) (xs : List Returned) → RanSo l ms xs → led_all l ms xs ≡ moves l ms
run-led [] l xs w = refl
run-led (m ∷ ms) l [] w = absurd w
run-led (m ∷ ms) l (x ∷ xs) w = run-led ms (led l m x) xs w.1 ∙ ap (λ (k : Link). moves k ms) (move-led l m x w.0)

-- ---- the starts

-- an accepted start leaves a fresh client and stores that are long enough
client-started : (cs : Settings) (s : Stores) → (start_step cs s).took.outcome ≡ said.Ready
    → ((start_step cs s).took.client ≡ started cs) × (short (start_step cs s).stores ≡ false)
unfolding start_step
client-started cs s = go (short s) refl
  where
    go : (b : Bool) → short s ≡ b
        → let m = pick b (refuse refusal.StoreTooShort (client_with cs 255 None Nothing await.Nothing false 0 0) s)
        (stepped (record { client = started cs; taken = 0; outcome = said.Ready }) s) in
        m.took.outcome ≡ said.Ready → (m.took.client ≡ started cs) × (short m.stores ≡ false)
    go true i e = let z : ◌≡◌ {A = ℕ} 0 1 = cc in absurd (omega arith)
    go false i e = (refl, i)

fresh-ends : (st : ServerSettings) (cs : Settings) (realm : List ℕ) (v w : ServerStores) (u : List ℕ) (x : ServerResult) (s t : Stores)
    (r : CallResult) → st.max_packet_length ≤ 65535 → cs.max_packet_length ≤ 65535 → Accepted st realm v x w u → ClientAccepted cs s r t
    → Fresh st cs (started_link x w u r t)
fresh-ends st cs realm v w u x s t r a b f g =
    let c = client-started cs s (ap (λ (m : Stepped). m.took.outcome) (sym g.says) ∙ g.accepted) in
    record {
      server = accepted-started st realm v w u x f;
      client = ap (λ (m : Stepped). m.took.client) g.says ∙ c.0;
      server-limit = a;
      client-limit = b;
      room = ap (λ (m : Stepped). short m.stores) g.says ∙ c.1;
      said = refl;
      told = refl;
      up = refl;
      down = refl;
    }

pub contracts_link : ContractsLink
contracts_link = record { starts = fresh-ends; runs = λ l ms xs w. run-led ms l xs w }
