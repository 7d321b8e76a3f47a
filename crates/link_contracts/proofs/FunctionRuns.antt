-- The claims on runs of the functions: each call is the model's step (`Functions`), so such a run is one that the contracts allow, two accepted
-- starts are fresh ends, and the run leads to the links of which link/proofs/Claimed speaks. Assumes nothing.
use mathlib.Core.Path.{◌≡◌, sym, subst}
use mathlib.Core.List.{List, [], ◌∷◌}
use mathlib.Core.Bool.{true, false}
use mathlib.Core.Option.{Option, none, some}
use Prim.Native.Nat.{ℕ}
use Rattle.std.specs.Prelude.{None}
use Rattle.journal.specs.Calls.{Call}
use Rattle.server.specs.declared.Outcome.{Outcome as ServerOutcome}
use Rattle.server.specs.declared.Outcome.TheVariants as told
use Rattle.model.specs.Step.{Called}
use Rattle.client_model.specs.Guard.{awaiting}
use Rattle.client_model.specs.Step.{Stepped}
use Rattle.client_model.specs.declared.Await.TheVariants as await
use Rattle.client_model.specs.declared.Outcome.{Outcome}
use Rattle.client_model.specs.declared.Outcome.TheVariants as said
use Rattle.link.specs.Link.{Link, UserCall, connect, get, disconnect, put, body, abort, partTaken, Move, user, host, sendUp, sendDown, offerUp, offerDown, closeUp, closeDown, server_call, move, moves}
use Rattle.link.specs.Told.{goes, aborted_in}
use Rattle.link.specs.Claims.{Fresh, named_after, is_open_of, Until, journal_in, PutHolds, GetHolds}
use Rattle.link.specs.PutMore.{PutMore}
use Rattle.link.specs.GetMore.{GetMore}
use Rattle.link.specs.ContractClaims.{Returned, sent_call, end_call, client_call, ClientSays, ServerSays, MoveSays, led, RanSo, led_all}
use Rattle.link.specs.HostWrites.{WrittenMove, writing_at, moves_alone, SameLink}
use Rattle.link.proofs.Contracts.{contracts_link}
use Rattle.link.proofs.Claimed.{all-names, puts, gets, puts-more, gets_more}
use Rattle.link.proofs.HostWrites.{same_move, same-written, same-link}
use Rattle.link_contracts.specs.ClientFunctions.{ClientStart}
use Rattle.link_contracts.specs.ServerFunctions.{ServerStart}
use Rattle.link_contracts.specs.FunctionRuns.{sending_call, ending_call, called_by, ClientDid, ServerDid, MoveMade, RunMade, StartsMade, started_by, WrittenMade, led_written, FunctionsName, FunctionsPut, FunctionsGet, FunctionsPutMore, FunctionsGetMore, FunctionsLink}
use Rattle.link_contracts.proofs.Functions.{client-steps, client-accepted, server-steps, server-accepted}

-- ---- a move

-- a call of the user
user-says : (l : Link) (u : UserCall) (m : Stepped) → ClientDid l (called_by l (user u)) m → ClientSays (client_call l (user u)) m
user-says l (connect hs) m w = client-steps _ w
user-says l (get hs) m w = client-steps _ w
user-says l (disconnect hs) m w = client-steps _ w
user-says l (put hs has) m w = client-steps _ w
user-says l (body d) m w = client-steps _ w
user-says l abort m w = client-steps _ w
user-says l partTaken m w = client-steps _ w

-- the packet that waited was sent
sent-says : (l : Link) (o : Outcome) (m : Stepped) → ClientDid l (sending_call o) m → ClientSays (sent_call o l) m
sent-says l (said.Send n) m w = client-steps _ w
sent-says l said.Ready m w = tt
sent-says l said.WantsBytes m w = tt
sent-says l (said.Read n) m w = tt
sent-says l (said.Part k b) m w = tt
sent-says l (said.Done c n) m w = tt
sent-says l (said.Stopped c n) m w = tt
sent-says l (said.Aborted c n) m w = tt
sent-says l (said.End x) m w = tt
sent-says l (said.Refused r) m w = tt

-- the stream has ended
ended-says : (l : Link) (o : ServerOutcome) (down : List ℕ) (m : Stepped) → ClientDid l (ending_call o down) m → ClientSays (end_call o down l) m
ended-says l (told.End x) [] m w = client-steps _ w
ended-says l (told.End x) (b ∷ down) m w = tt
ended-says l told.WantsBytes down m w = tt
ended-says l (told.Reply n) down m w = tt
ended-says l (told.Request r) down m w = tt
ended-says l (told.Refused r) down m w = tt

client-says : (l : Link) (m : Move) (x : Stepped) → ClientDid l (called_by l m) x → ClientSays (client_call l m) x
client-says l (user u) x w = user-says l u x w
client-says l sendUp x w = sent-says l l.said x w
client-says l (offerDown n) x w = client-steps _ w
client-says l closeDown x w = ended-says l l.told l.down x w
client-says l (host c) x w = tt
client-says l sendDown x w = tt
client-says l (offerUp n) x w = tt
client-says l closeUp x w = tt

server-says : (l : Link) (c : Option Call) (x : Called) → ServerDid l c x → ServerSays l.server c x
server-says l none x w = tt
server-says l (some c) x w = server-steps _ w

move-says : (l : Link) (m : Move) (x : Returned) → MoveMade l m x → MoveSays l m x
move-says l m x w =
    record { client = client-says l m x.client w.client; server = server-says l (server_call l m) x.server w.server }

-- ---- a run

run-says : (ms : List Move) (l : Link) (xs : List Returned) → RunMade l ms xs → RanSo l ms xs
run-says [] l [] w = tt
run-says [] l (x ∷ xs) w = absurd w
run-says (m ∷ ms) l [] w = absurd w
run-says (m ∷ ms) l (x ∷ xs) w = (move-says l m x w.0, run-says ms (led l m x) xs w.1)

run-leads : (l : Link) (ms : List Move) (xs : List Returned) → RunMade l ms xs → led_all l ms xs ≡ moves l ms
run-leads l ms xs w = contracts_link.runs l ms xs (run-says ms l xs w)

-- one move of it
move-leads : (l : Link) (m : Move) (x : Returned) → MoveMade l m x → led l m x ≡ move l m
move-leads l m x w = run-leads l (m ∷ []) (x ∷ []) (w, tt)

-- a run in which the server's host writes
run-written : (ms : List WrittenMove) (l k : Link) (xs : List Returned) → SameLink l k → WrittenMade k ms xs
    → SameLink (moves l (moves_alone ms)) (led_written k ms xs)
run-written [] l k [] h w = h
run-written [] l k (x ∷ xs) h w = absurd w
run-written (m ∷ ms) l k [] h w = absurd w
run-written (m ∷ ms) l k (x ∷ xs) h w =
    let j = writing_at k m.written in
    run-written ms (move l m.move) (led j m.move x) xs
    (subst (SameLink (move l m.move)) (sym (move-leads j m.move x w.1.0))
    (same_move l j m.move (same-written l k m.written h w.0)))
    w.1.1

starts-fresh : (a : ServerStart) (b : ClientStart) → StartsMade a b → Fresh a.settings b.settings (started_by a b)
starts-fresh a b w =
    contracts_link.starts a.settings b.settings a.realm a.stores a.left a.tables a.result b.stores b.left b.result
    w.server-limit w.client-limit (server-accepted a w.server w.server-accepts) (client-accepted b w.client w.client-accepts)

-- ---- the claims

-- what holds of the links of `moves` holds of those to which the functions lead
as_led : (P : Link → Link → Type 0) (l : Link) (before : List Move) (xs : List Returned) (u : UserCall) (y : Returned)
    → RunMade l before xs → MoveMade (led_all l before xs) (user u) y
    → P (moves l before) (move (moves l before) (user u)) → P (led_all l before xs) (led (led_all l before xs) (user u) y)
as_led P l before xs u y w v p =
    let k = led_all l before xs in
    subst (P k) (sym (move-leads k (user u) y v)) (subst (λ (j : Link). P j (move j (user u))) (sym (run-leads l before xs w)) p)

functions_name : FunctionsName
functions_name a b ms xs w r pl =
    let l = started_by a b in
    subst
    (λ (k : Link). awaiting k.client await.Call ≡ true
    → (k.client.connection_id ≡ named_after None l ms) × (is_open_of k.client.connection_id k.server ≡ true))
    (sym (run-leads l ms xs r)) (all-names a.settings b.settings l ms (starts-fresh a b w) pl)

functions_put : FunctionsPut
functions_put a b before ms xs ys y hs has w r v pb pl c go un =
    let l = started_by a b in
    as_led
    (λ (k n : Link). goes k (put hs has) ≡ true → Until n ms
    → PutHolds a.settings b.settings (journal_in a.settings l before) k n hs has ms)
    l before xs (put hs has) y r v.0
    (λ g t. puts a.settings b.settings l before ms hs has (starts-fresh a b w) pb pl c g t) go un

functions_get : FunctionsGet
functions_get a b before ms xs ys y hs w r v pb pl c go un ab =
    let l = started_by a b in
    as_led
    (λ (k n : Link). goes k (get hs) ≡ true → Until n ms → aborted_in n ms ≡ false
    → GetHolds b.settings k n hs ms)
    l before xs (get hs) y r v.0
    (λ g t u. gets a.settings b.settings l before ms hs (starts-fresh a b w) pb pl c g t u) go un ab

functions_put-more : FunctionsPutMore
functions_put-more a b before ms xs ys y hs has w r v pb pl c go un =
    let l = started_by a b in
    as_led
    (λ (k n : Link). goes k (put hs has) ≡ true → Until n ms → PutMore a.settings (journal_in a.settings l before) k n hs has ms)
    l before xs (put hs has) y r v.0
    (λ g t. puts-more a.settings b.settings l before ms hs has (starts-fresh a b w) pb pl c g t) go un

functions_get_more : FunctionsGetMore
functions_get_more a b before ms xs ys y hs w r v pb pl c go un =
    let l = started_by a b in
    as_led
    (λ (k n : Link). goes k (get hs) ≡ true → Until n ms → GetMore (journal_in a.settings l before) k n hs ms)
    l before xs (get hs) y r v.0
    (λ g t. gets_more a.settings b.settings l before ms hs (starts-fresh a b w) pb pl c g t) go un

pub functions_link : FunctionsLink
functions_link =
    record {
      leads = run-leads;
      writes = λ l ms xs w. run-written ms l l xs (same-link l) w;
      names = functions_name;
      puts = functions_put;
      gets = functions_get;
      puts-more = functions_put-more;
      gets_more = functions_get_more;
    }
