-- The claim on a Get, with Single Response Mode or without, from every link in which nothing is open, aborted or not. Assumes nothing.
use mathlib.Core.Path.{◌≡◌, refl, sym, ap, subst, ◌∙◌}
use mathlib.Core.List.{List, [], ◌∷◌, ◌++◌}
use mathlib.Core.Bool.{true, false, ◌||◌}
use mathlib.Core.Option.{some}
use mathlib.Core.Logic.{◌⊎◌}
use Prim.Native.Nat.{ℕ, ◌≤◌}
use native.Mathlib.Omega.{arith}
use native.Mathlib.Nat.{le_refl}
use lib.ListN.{length}
use lib.Seq.{paste, length-paste}
use Rattle.text.specs.Unicode.{Octets}
use Rattle.journal.specs.Record.{bare}
use Rattle.journal.specs.Journal.{Journal, admitted}
use Rattle.connection.specs.Peer.{at_least255}
use Rattle.connection.proofs.Front.{front_length}
use Rattle.client_model.specs.Leading.{leading}
use Rattle.client_model.specs.Step.{stores, capacity_of, Done, Stepped}
use Rattle.client_model.specs.Request.{requests_first}
use Rattle.client_model.specs.declared.Settings.{Settings}
use Rattle.client_model.specs.declared.Kind.TheVariants as kind
use Rattle.client_model.specs.declared.Outcome.{Outcome}
use Rattle.client_model.specs.declared.Outcome.TheVariants as said
use Rattle.client_model.proofs.Requests.{given}
use Rattle.client_model.proofs.Sending.{lead-small}
use Rattle.client_model.proofs.Getting.{Fetch, headers_of, Stands, Leads, get_leads}
use Rattle.link.specs.Link.{Link, link_with, get, Move, user, said_after, client_did, move, moves}
use Rattle.link.specs.Told.{goes, succeeded, aborted_in, asked_in, answer_in, object_in, last_reply_in, parts_in, is_accepted, is_whole, reply_part}
use Rattle.link.specs.Claims.{Plain, Until, EndHolds, GetHolds}
use Rattle.link.specs.ContractClaims.{request_bytes}
use Rattle.link.specs.GetMore.{first_get, GetMore}
use Rattle.link.proofs.Joint.{AtRest}
use Rattle.link.proofs.Opens.{long, not_short, Opens, opens}
use Rattle.link.proofs.GetHeard.{GetHeard, none_heard, get_heard_in, get_heard-whole}
use Rattle.link.proofs.GetJoint.{Origin, is_admitted, none_yet, Finished, GetJoint, turn, Rested}
use Rattle.link.proofs.GetRuns.{get_run}
use Rattle.link.proofs.GetMoments.{get_at, late-run, within}

-- what a Get leaves of a server as it is
abbrev pub origin_of : Link → Origin
origin_of l = record { settings = l.server.engine.settings; peer = l.server.engine.peer; tables = l.server.tables }

module _ (box : ℕ) (l : Link) (i : AtRest box l) (hs : List ℕ) (oct : Octets hs) (go : goes l (get hs) ≡ true) where
  pub opened : Opens kind.Get hs false l
  opened = opens box l i kind.Get hs false go

  -- the Get
  abbrev pub fetch : Fetch
  fetch =
      record {
        settings = l.client.settings;
        remote = l.client.remote_max_packet_length;
        id = l.client.connection_id;
        hs = hs;
        store = l.stores.headers;
        low = i.least;
        top = i.most;
        octets = oct;
        most = opened.within;
        headers = given (capacity_of l.client) hs opened.own opened.fit;
      }

  first-stands : let lead = leading l.client.connection_id l.client.settings.srm_wanted in
      Stands fetch false l.client (stores l.stores.packet (headers_of fetch) l.stores.body
      (paste l.stores.request 3 lead (length lead)))
  first-stands =
      let lead = leading l.client.connection_id l.client.settings.srm_wanted in
      let w = long l.stores i.room in
      let a = front_length hs l.stores.headers (omega (arith, opened.within, w.headers)) in
      let b = length-paste l.stores.request 3 lead (length lead) (omega (
        arith,
        w.request,
        lead-small l.client.connection_id
            l.client.settings.srm_wanted,
      ))
      (le_refl (length lead)) in
      record {
        room =
            not_short (stores l.stores.packet (headers_of fetch) l.stores.body (paste l.stores.request 3 lead (length lead)))
            (record { packet = w.packet; headers = omega (arith, a, w.headers); body = w.body; request = omega (arith, b, w.request) });
        begun = i.begun;
        latest = i.latest;
        settings = refl;
        remote = refl;
        id = refl;
        aborting = i.stays;
      }

  -- the Get has begun
  leads_joint : (d : Done) → Leads fetch false [] d
      → GetJoint fetch (origin_of l) none_heard (link_with d.client d.stores (said_after l.said d.outcome) l.server l.told l.up
      l.down)
  leads_joint d w =
      let r = i.ready in
      let e : said_after l.said d.outcome ≡ d.outcome = ap (said_after l.said) w.waits.said ∙ sym w.waits.said in
      let v = r.serves in
      subst (λ (o : Outcome). GetJoint fetch (origin_of l) none_heard (link_with d.client d.stores o l.server l.told l.up l.down))
      (sym e)
      (turn [] [] tt w.stands w.waits w.begun
      (record {
        stays =
            record {
              serves = record { base = v.base; begun = v.begun; counts = v.counts; tables = v.tables; srm = v.srm; remote = refl };
              settings = refl;
              peer = refl;
              tables = refl;
            };
        awaits = r.awaits;
        told = r.told;
        none-begun = r.none-begun;
        up = r.up;
      })
      (none_yet refl refl i.idle) i.down (record { asked = refl; answer = refl; object = refl; parts = refl }) refl)

  pub get_begins : GetJoint fetch (origin_of l) none_heard (move l (user (get hs)))
  unfolding move
  get_begins =
      let d = requests_first l.client kind.Get hs false l.stores in
      subst (λ (m : Stepped). GetJoint fetch (origin_of l) none_heard (client_did l m l.up l.down)) (sym opened.step)
      (leads_joint d (get_leads fetch false l.client l.stores first-stands refl (long l.stores i.room).request))

-- ---- the claim

-- what holds of it at its end, as `GetHolds` has it if it was not aborted
pub record GetSlice (box : ℕ) (before l : Link) (hs : List ℕ) (ms : List Move) : Type 0 where
  pub asked : (asked_in l ms ≡ (leading before.client.connection_id false ++ hs) ∷ []) ⊎ (asked_in l ms ≡ [])
  -- an admitted Get that is not aborted asks, if its headers are within 65,535 bytes
  pub asks : aborted_in l ms ≡ false → is_admitted (origin_of before) before.client.connection_id ≡ true
      → length (leading before.client.connection_id false ++ hs) ≤ 65535 → asked_in l ms ≡
      (leading before.client.connection_id false ++ hs) ∷ []
  pub success : aborted_in l ms ≡ false → succeeded (moves l ms).said ≡ (is_whole (object_in l ms) (last_reply_in l ms) || is_accepted box (answer_in l ms))
  pub object : aborted_in l ms ≡ false → is_whole (object_in l ms) (last_reply_in l ms) ≡ true → object_in l ms ≡ some (parts_in l ms)
  pub reply : aborted_in l ms ≡ false → is_accepted box (answer_in l ms) ≡ true → parts_in l ms ≡ reply_part (answer_in l ms)
  pub ends : EndHolds l ms
  -- it says Aborted only if the user aborted, Done only if not, and never Stopped
  pub stops : (c n : ℕ) → (moves l ms).said ≡ said.Aborted c n → aborted_in l ms ≡ true
  pub done : (c n : ℕ) → (moves l ms).said ≡ said.Done c n → aborted_in l ms ≡ false
  pub never : (c n : ℕ) → (moves l ms).said ≡ said.Stopped c n → ⊥
  -- nothing is handed on after an Abort
  pub late : (xs : List Move) (m : Move) (zs : List Move) → ms ≡ xs ++ (m ∷ zs) → aborted_in l xs ≡ true → parts_in (moves l xs) (m ∷ zs) ≡ bare
  -- every packet that is sent is within the limit that the server gave
  pub within : (xs : List Move) (m : Move) (zs : List Move) → ms ≡ xs ++ (m ∷ zs)
      → length (request_bytes (moves l xs).said (moves l xs).stores.request) ≤ before.client.remote_max_packet_length

pub get_slice : (box : ℕ) (before : Link) (hs : List ℕ) (ms : List Move) (i : AtRest box before) (oct : Octets hs) (go : goes before (get hs) ≡ true)
    → let l = move before (user (get hs)) in Plain ms → Until l ms → GetSlice box before l hs ms × Rested
    (fetch box before i hs oct go)
    (origin_of before) (moves l ms)
get_slice box before hs ms i oct go pl un =
    let l = move before (user (get hs)) in
    let j = fetch box before i hs oct go in
    let o = origin_of before in
    let r = get_run j o ms none_heard l (get_begins box before i hs oct go) pl un in
    let w = subst (λ (h : GetHeard). Finished j o h (moves l ms).said) (get_heard-whole l ms) r.0 in
    let e = i.ready.serves.remote in (
      record {
        asked = w.asked;
        asks = w.asks;
        success = subst (λ (n : ℕ). aborted_in l ms ≡ false → succeeded (moves l ms).said ≡
            (is_whole (object_in l ms) (last_reply_in l ms) || is_accepted n (answer_in l ms))) e w.success;
        object = w.object;
        reply = subst (λ (n : ℕ). aborted_in l ms ≡ false → is_accepted n (answer_in l ms) ≡ true → parts_in l ms ≡ reply_part (answer_in l ms)) e
            w.reply;
        ends = record { code = w.code; number = w.number };
        stops = w.stops;
        done = w.done;
        never = w.never;
        late = λ xs m zs e a. late-run j o xs m zs none_heard l (get_begins box before i hs oct go) (subst Plain e pl) (subst (Until l) e un) a;
        within =
            λ xs m zs e. within j o (get_heard_in none_heard l xs) (moves l xs)
            (get_at j o xs m zs none_heard l (get_begins box before i hs oct go) (subst Plain e pl) (subst (Until l) e un)).0;
      },
      r.1,
    )

-- the claim itself, with the limit that the client gave in its Connect
pub get_holds : (cs : Settings) (before : Link) (hs : List ℕ) (ms : List Move) → AtRest (at_least255 cs.max_packet_length) before → Octets hs
    → goes before (get hs) ≡ true
    → let l = move before (user (get hs)) in Plain ms → Until l ms → aborted_in l ms ≡ false → GetHolds cs before l hs ms
get_holds cs before hs ms i oct go pl un ab =
    let w = (get_slice (at_least255 cs.max_packet_length) before hs ms i oct go pl un).0 in
    record { asked = w.asked; success = w.success ab; object = w.object ab; reply = w.reply ab; ends = w.ends }

-- what more holds, if the server admits what the journal admits
pub get_more : (cs : Settings) (j : Journal) (before : Link) (hs : List ℕ) (ms : List Move) → AtRest (at_least255 cs.max_packet_length) before
    → Octets hs → goes before (get hs) ≡ true
    → let l = move before (user (get hs)) in Plain ms → Until l ms
    → (admitted j.settings j.standing (first_get before.client) ≡ true → is_admitted (origin_of before) before.client.connection_id ≡ true)
    → GetMore j before l hs ms
get_more cs j before hs ms i oct go pl un adm =
    let w = (get_slice (at_least255 cs.max_packet_length) before hs ms i oct go pl un).0 in
    record {
      asked = w.asked;
      asks = λ b a k. w.asks b (adm a) k;
      ends = w.ends;
      done = w.done;
      stopped = w.never;
      aborted = w.stops;
      late = w.late;
      within = w.within;
    }
