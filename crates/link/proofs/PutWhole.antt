-- The claim on a Put, for every run from a link in which nothing is open: with Single Response Mode or without, aborted or not. The Put begins as
-- the first phase, each move keeps to the phases, and the last one tells what is claimed. Assumes nothing.
use mathlib.Core.Path.{◌≡◌, refl, sym, ap, subst, ◌∙◌}
use mathlib.Core.List.{List, [], ◌∷◌, ◌++◌}
use mathlib.Core.Bool.{Bool, true, false, ◌||◌, not, true≢false, false≢true}
use mathlib.Core.Option.{some}
use mathlib.Core.Logic.{◌⊎◌, inl, inr}
use Prim.Native.Nat.{ℕ, ◌-◌, ◌≤◌}
use native.Mathlib.Omega.{arith}
use lib.ListN.{length}
use lib.Seq.{paste, length-paste}
use native.Mathlib.Nat.{le_refl}
use lib.Dec.{ltb}
use borrow.Author.Tests.{ltb-false, lt-ltb, le-leb, le-ltb}
use Rattle.text.specs.Unicode.{Octets}
use Rattle.packet.specs.Canonical.{canonical}
use Rattle.packet.specs.Header.{Header, read_headers}
use Rattle.packet.specs.Packet.{Request as Packet}
use Rattle.packet.specs.declared.opcode.Opcode.TheVariants as op
use Rattle.incoming.specs.Survey.{survey_of}
use Rattle.journal.specs.Journal.{Journal, list_of}
use Rattle.connection.specs.Peer.{at_least255}
use Rattle.connection.proofs.Front.{front_length}
use Rattle.client_model.specs.Leading.{leading_headers, leading}
use Rattle.client_model.specs.Numbers.{same_await}
use Rattle.client_model.specs.Step.{Stores, stores, capacity_of, Done, Stepped, after}
use Rattle.client_model.specs.Request.{requests_first}
use Rattle.client_model.specs.Guard.{short, sound, any_of, is_reserved, bad_headers, too_long_of, checked}
use Rattle.client_model.specs.Calls.{request_step}
use Rattle.client_model.specs.declared.Settings.{Settings}
use Rattle.server.specs.declared.Settings.{Settings as ServerSettings}
use Rattle.server.specs.declared.End.{End as ServerEnd}
use Rattle.server.specs.declared.End.TheVariants as server_end
use Rattle.server.specs.declared.Outcome.TheVariants as told
use Rattle.client_model.specs.declared.Kind.TheVariants as kind
use Rattle.client_model.specs.declared.Await.{Await}
use Rattle.client_model.specs.declared.Await.TheVariants as await
use Rattle.client_model.specs.declared.Outcome.{Outcome}
use Rattle.client_model.proofs.Requests.{given}
use Rattle.client_model.proofs.Sending.{lead-small}
use Rattle.client_model.proofs.Putting.{Job, headers_of, Keeps, Leads, waits as leadsWaits, asks as leadsAsks, put-leads}
use Rattle.link.specs.Link.{Link, link_with, put, Move, user, said_after, client_did, move, moves}
use Rattle.link.specs.Told.{final_in, is_refused, goes, given_in, aborted_in, records_in, answer_in, is_accepted, last_reply_in}
use Rattle.server.specs.declared.Engine.{Engine}
use Rattle.model.specs.Dispatch.{known_in}
use Rattle.model.proofs.ServerPut.{put_passes}
use Rattle.link.specs.Claims.{Plain, Until, fitting, first_put, is_admitted, PutHolds}
use Rattle.link.specs.PutMore.{PutMore}
use Rattle.link.proofs.Moves.{Heard, nothing_heard, heard_in, heard-whole}
use Rattle.link.proofs.Joint.{AtRest, First, Deal, most_of, record_for, Reason, by_abort, turned_away_lem, too_long, too_many, Gave, sends, reads, Server, none_yet, Joint, going, Ended, headers_too_large, reply_too_large, Finished, Rests, Unchanged}
use Rattle.link.proofs.PutMoments.{put-fine}
use Rattle.link.proofs.PutRuns.{Ran, joint_run, joint_free, joint_then}
use Rattle.link.proofs.FirstPacket.{first_passes}

-- ---- the Put is called

or_left : (a b : Bool) → (a || b) ≡ false → a ≡ false
or_left true b e = e
or_left false b e = refl

or_right : (a b : Bool) → (a || b) ≡ false → b ≡ false
or_right true b e = absurd (true≢false e)
or_right false b e = e

-- the lengths of the stores
record Long (s : Stores) : Type 0 where
  packet : 65535 ≤ length s.packet
  headers : 65535 ≤ length s.headers
  body : 65535 ≤ length s.body
  request : 65535 ≤ length s.request

long : (s : Stores) → short s ≡ false → Long s
unfolding short
long s e =
    let p = ltb (length s.packet) 65535 in
    let h = ltb (length s.headers) 65535 in
    let b = ltb (length s.body) 65535 in
    let q = ltb (length s.request) 65535 in
    let x = or_right p (h || (b || q)) e in
    let y = or_right h (b || q) x in
    record {
      packet = ltb-false (length s.packet) 65535 (or_left p (h || (b || q)) e);
      headers = ltb-false (length s.headers) 65535 (or_left h (b || q) x);
      body = ltb-false (length s.body) 65535 (or_left b q y);
      request = ltb-false (length s.request) 65535 (or_right b q y);
    }

not_short : (s : Stores) → Long s → short s ≡ false
unfolding short
not_short s w = simp (le-ltb _ _ w.packet, le-ltb _ _ w.headers, le-ltb _ _ w.body, le-ltb _ _ w.request)

module _ (box : ℕ) (l : Link) (i : AtRest box l) (hs : List ℕ) (has : Bool) (oct : Octets hs) (go : goes l (put hs has) ≡ true) where
  idle_sound : sound l.client ≡ true
  unfolding sound
  idle_sound = simp (lt-ltb _ _ i.begun, le-leb _ _ i.latest, le-leb _ _ i.least, i.counts)

  -- the guard lets it pass
  first_step : request_step l.client kind.Put hs has l.stores
      ≡ checked (bad_headers hs) (too_long_of (capacity_of l.client) hs) l.client l.stores (requests_first l.client kind.Put hs has l.stores)
  unfolding request_step
  first_step = simp (i.room, idle_sound, ap (λ (a : Await). same_await a await.Call) i.awaits)

  -- so its headers are such as a user may give
  fits_by : (b t : Bool) → bad_headers hs ≡ b → too_long_of (capacity_of l.client) hs ≡ t → (b ≡ false) × (t ≡ false)
  fits_by true t e f = absurd (false≢true (sym (ap (λ (m : Stepped). not (is_refused m.took.outcome)) (first_step
      ∙ ap (λ (x : Bool). checked x (too_long_of (capacity_of l.client) hs) l.client l.stores
      (requests_first l.client kind.Put hs has l.stores)) e)) ∙ go))
  fits_by false true e f = absurd (false≢true (sym (ap (λ (m : Stepped). not (is_refused m.took.outcome)) (first_step
      ∙ ap (λ (x : Bool). checked x (too_long_of (capacity_of l.client) hs) l.client l.stores
      (requests_first l.client kind.Put hs has l.stores)) e
      ∙ ap (λ (x : Bool). checked false x l.client l.stores (requests_first l.client kind.Put hs has l.stores)) f)) ∙ go))
  fits_by false false e f = (refl, refl)

  pub own : bad_headers hs ≡ false
  own = (fits_by (bad_headers hs) (too_long_of (capacity_of l.client) hs) refl refl).0

  pub fit : too_long_of (capacity_of l.client) hs ≡ false
  fit = (fits_by (bad_headers hs) (too_long_of (capacity_of l.client) hs) refl refl).1

  pub within : length hs ≤ 65535
  unfolding bad_headers
  within = ltb-false 65535 (length hs) (or_left (ltb 65535 (length hs)) (not (canonical hs) || any_of is_reserved (list_of (read_headers hs 0))) own)

  -- the Put
  abbrev pub job : Job
  job =
      record {
        settings = l.client.settings;
        remote = l.client.remote_max_packet_length;
        capacity = capacity_of l.client;
        id = l.client.connection_id;
        wants = l.client.settings.srm_wanted;
        hs = hs;
        has = has;
        store = l.stores.headers;
        low = omega (arith, i.least);
        top = omega (arith, i.most);
        octets = oct;
        most = within;
        headers = given (capacity_of l.client) hs own fit;
      }

  put_step : request_step l.client kind.Put hs has l.stores ≡ after 0 (requests_first l.client kind.Put hs has l.stores)
  put_step =
      first_step
      ∙ ap (λ (x : Bool). checked x (too_long_of (capacity_of l.client) hs) l.client l.stores
      (requests_first l.client kind.Put hs has l.stores)) own
      ∙ ap (λ (x : Bool). checked false x l.client l.stores (requests_first l.client kind.Put hs has l.stores)) fit

  first-keeps : let lead = leading l.client.connection_id l.client.settings.srm_wanted in
      Keeps job l.client (stores l.stores.packet (headers_of job) l.stores.body (paste l.stores.request 3 lead (length lead)))
  first-keeps =
      let lead = leading l.client.connection_id l.client.settings.srm_wanted in
      let w = long l.stores i.room in
      let a = front_length hs l.stores.headers (omega (arith, within, w.headers)) in
      let b = length-paste l.stores.request 3 lead (length lead)
      (omega (arith, w.request, lead-small l.client.connection_id l.client.settings.srm_wanted)) (le_refl (length lead)) in
      record {
        room =
            not_short (stores l.stores.packet (headers_of job) l.stores.body (paste l.stores.request 3 lead (length lead)))
            (record { packet = w.packet; headers = omega (arith, a, w.headers); body = w.body; request = omega (arith, b, w.request) });
        begun = i.begun;
        latest = i.latest;
        least = i.least;
        settings = refl;
        remote = refl;
        capacity = refl;
        id = refl;
        wanted = refl;
        headers = refl;
        request = omega (arith, b, w.request);
      }

  -- the first packet as the server sees it, and whether it passes
  abbrev pub first_passes_of : Bool
  first_passes_of =
      let v = survey_of (some (first_put l.client hs).headers) in
      put_passes l.server.engine.operation l.server.engine (first_put l.client hs) v (known_in l.server.engine l.server.tables v)

  list_is : list_of (read_headers hs 0) ≡ job.headers.list
  list_is = ap list_of job.headers.reads

  pub as_said : (e : Engine) (t : List ℕ) (r : Packet) → e.settings ≡ l.server.engine.settings → e.peer ≡ l.server.engine.peer
      → t ≡ l.server.tables
      → r.opcode ≡ op.Put → First job r.headers
      → put_passes l.server.engine.operation e r (survey_of (some r.headers)) (known_in e t (survey_of (some r.headers))) ≡ first_passes_of
  as_said e t r a b c d f =
      first_passes job l.server.engine.operation e l.server.engine t l.server.tables r (first_put l.client hs) a b c d refl
      (ap (λ (x : List Header). leading_headers job.id job.wants ++ fitting (job.capacity - length (leading job.id job.wants)) x)
      list_is) f

  abbrev pub deal : Deal
  deal =
      record {
        job = job;
        server = l.server;
        passes = first_passes_of;
        as_said = as_said;
      }

  server : Server deal l.server
  server =
      let v = i.ready.serves in
      record {
        serves = record { base = v.base; begun = v.begun; counts = v.counts; tables = v.tables; srm = v.srm; remote = refl };
        same = record { settings = refl; peer = refl; tables = refl };
      }

  -- the Put has begun
  leads_joint : (d : Done) → Leads job false [] [] d
      → Joint deal false nothing_heard (link_with d.client d.stores (said_after l.said d.outcome) l.server l.told l.up l.down)
  leads_joint d (leadsWaits k w b) =
      let e : said_after l.said d.outcome ≡ d.outcome = rw w.said in
      subst (λ (o : Outcome). Joint deal false nothing_heard (link_with d.client d.stores o l.server l.told l.up l.down)) (sym e)
      (going sends false [] [] [] (record { keeps = k; waits = w; plain = refl; final = refl }) b tt tt (tt, λ z. refl) server i.ready.awaits
      i.ready.told
      (none_yet refl refl i.idle refl) (i.ready.up, i.ready.none-begun) i.down refl refl)
  leads_joint d (leadsAsks k w b) =
      let e : said_after l.said d.outcome ≡ d.outcome = rw w.said in
      subst (λ (o : Outcome). Joint deal false nothing_heard (link_with d.client d.stores o l.server l.told l.up l.down)) (sym e)
      (going reads false [] [] [] (record { keeps = k; asks = w; plain = refl; final = refl }) b tt tt (tt, λ z. refl) server i.ready.awaits
      i.ready.told
      (none_yet refl refl i.idle refl) (i.ready.up, i.ready.none-begun) i.down refl refl)

  pub put-begins : Joint deal false nothing_heard (move l (user (put hs has)))
  unfolding move
  put-begins =
      let d = requests_first l.client kind.Put hs has l.stores in
      subst (λ (m : Stepped). Joint deal false nothing_heard (client_did l m l.up l.down)) (sym put_step)
      (leads_joint d (put-leads job l.client l.stores first-keeps refl (long l.stores i.room).request))

-- ---- the claim

-- at rest, with a server that sends no longer packets than the client takes, and a Put that goes, passed on to its end
module _ (st : ServerSettings) (cs : Settings) (j : Journal) (before : Link) (hs : List ℕ) (has : Bool) (ms : List Move)
    (i : AtRest (at_least255 cs.max_packet_length) before) (is_set : before.server.engine.settings ≡ st)
    (oct : Octets hs) (go : goes before (put hs has) ≡ true) (pl : Plain ms) (un : Until (move before (user (put hs has))) ms) where
  -- the link once the Put is called, what is put, and whether its first packet passes
  abbrev pub called : Link
  called = move before (user (put hs has))

  abbrev pub it : Deal
  it = deal (at_least255 cs.max_packet_length) before i hs has oct go

  abbrev pub passing : Bool
  passing = first_passes_of (at_least255 cs.max_packet_length) before i hs has oct go

  begun : Joint it false nothing_heard called
  begun = put-begins (at_least255 cs.max_packet_length) before i hs has oct go

  pub put-ran : Ran it (aborted_in called ms) (heard_in nothing_heard called ms) (moves called ms)
  put-ran = joint_run it false ms nothing_heard called begun pl un

  abbrev heard : Heard
  heard = record {
    records = records_in called ms;
    answer = answer_in called ms;
    last = last_reply_in called ms;
    given = given_in called ms;
    final = final_in called ms;
  }

  ended_so : Finished it (aborted_in called ms) heard (moves called ms).said (moves called ms).told
  ended_so = subst (λ (h : Heard). Finished it (aborted_in called ms) h (moves called ms).said (moves called ms).told) (heard-whole called ms)
      put-ran.finished

  most_is : most_of it ≡ st.max_object_size
  most_is = ap (λ (x : ServerSettings). x.max_object_size) is_set

  -- one record or none, each with its reason
  abbrev One : Type 0
  One = ((records_in called ms ≡ record_for it (given_in called ms) ∷ []) × Gave it (aborted_in called ms) (given_in called ms))
      ⊎ ((records_in called ms ≡ []) × Reason it (aborted_in called ms) (given_in called ms))

  one_of : One → (records_in called ms ≡ record_for it (given_in called ms) ∷ []) ⊎ (records_in called ms ≡ [])
  one_of (inl w) = inl w.0
  one_of (inr w) = inr w.0

  gives_one : One → passing ≡ true → length (given_in called ms) ≤ st.max_object_size → aborted_in called ms ≡ false
      → length (leading before.client.connection_id false ++ hs) ≤ 65535 → records_in called ms ≡ record_for it (given_in called ms) ∷ []
  gives_one (inl w) a n b k = w.0
  gives_one (inr w) a n b k = by w.1
    where
      by : Reason it (aborted_in called ms) (given_in called ms) → records_in called ms ≡ record_for it (given_in called ms) ∷ []
      by (by_abort e) = absurd (true≢false (sym e ∙ b))
      by (turned_away_lem e) = absurd (true≢false (sym a ∙ e))
      by (too_long e) = absurd (omega (arith, e, n, most_is))
      by (too_many e) = absurd (omega (arith, e, k))

  aborted-none : One → aborted_in called ms ≡ true → records_in called ms ≡ []
  aborted-none (inl w) e = absurd (true≢false (sym e ∙ w.1.stays))
  aborted-none (inr w) e = w.0

  -- the claim, if the journal admits no first packet that the server turns away
  pub put_holds : (is_admitted j (first_put before.client hs) ≡ true → passing ≡ true) → PutHolds st cs j before called hs has ms
  put_holds adm =
      record {
        one = one_of ended_so.one;
        gives = λ a n b k. gives_one ended_so.one (adm a) n b k;
        success = ended_so.success ∙ ap (λ (x : ℕ). is_accepted x (answer_in called ms)) i.ready.serves.remote;
        sure = ended_so.sure;
        aborted = aborted-none ended_so.one;
        free =
            λ xs ys e o a f. joint_free it false xs ys nothing_heard called begun refl (subst Plain e pl) (subst (Until called) e un) o a
            (ap (λ (h : Heard). h.final) (heard-whole called xs) ∙ f);
        ends = record { code = ended_so.code; number = λ x e. (ended_so.number x e).0 };
      }

  -- the same record only so
  only_so : One → records_in called ms ≡ record_for it (given_in called ms) ∷ [] → Gave it (aborted_in called ms) (given_in called ms)
  only_so (inl w) e = w.1
  only_so (inr w) e = let q = sym w.0 ∙ e in let z : ◌≡◌ {A = ℕ} 0 1 = cc in absurd (omega arith)

  ends_so : (y : ServerEnd) → (moves called ms).told ≡ told.End y → Ended y
      → ((moves called ms).told ≡ told.End server_end.HeadersTooLarge) ⊎ ((moves called ms).told ≡ told.End server_end.ReplyTooLarge)
  ends_so y e headers_too_large = inl e
  ends_so y e reply_too_large = inr e

  -- what more holds, if the journal admits exactly what the server lets pass
  pub put-more : is_admitted j (first_put before.client hs) ≡ passing → PutMore st j before called hs has ms
  put-more adm =
      record {
        only =
            λ e. let w = only_so ended_so.one e in
            (adm ∙ w.passes, omega (arith, w.within, most_is), w.stays, w.kept);
        done = ended_so.done;
        stopped = ended_so.stopped;
        aborted = ended_so.aborted;
        ended = λ x e. let w = ended_so.number x e in ends_so w.1 w.2 w.3;
        within =
            λ xs ys e o n k.
            let t = joint_then it false xs ys nothing_heard called begun (subst Plain e pl) (subst (Until called) e un) o in
            let w = (put-fine it t.ab t.heard (moves called xs) t.joint n k).1 in
            omega (arith, w, i.least);
      }

  -- nothing is open again, or the client has ended; and what a Connect sets is as it was
  pub put-rests : Rests (at_least255 cs.max_packet_length) (moves called ms) × Unchanged it (moves called ms)
  put-rests = (subst (λ (n : ℕ). Rests n (moves called ms)) i.ready.serves.remote put-ran.rests, put-ran.unchanged)
