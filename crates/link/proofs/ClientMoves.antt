-- What comes to the client in a Put: bytes of a response are offered, and the server's end is seen. By what the client awaits the Put goes on, its
-- Abort follows, or all is over. Assumes nothing.
use mathlib.Core.Path.{◌≡◌, refl, sym, ap, subst, subst₂, ◌∙◌}
use mathlib.Core.List.{List, [], ◌∷◌, ◌++◌, append-nil}
use mathlib.Core.Bool.{Bool, true, false, ◌&&◌, ◌||◌, true≢false, false≢true}
use mathlib.Core.Option.{Option, none, some}
use mathlib.Core.Logic.{◌⊎◌, inl, inr}
use Prim.Native.Nat.{ℕ, ◌+◌, ◌<◌}
use native.Mathlib.Omega.{arith}
use lib.ListN.{length, take, drop}
use lib.Seq.{drop-length}
use lib.Dec.{eqb}
use Rattle.base.specs.Pick.{pick}
use Rattle.packet.specs.Codes.{sent_code}
use Rattle.packet.specs.Header.{Header}
use Rattle.packet.specs.ResponsePacket.{ResponsePacket, response_packet}
use Rattle.journal.specs.Record.{Record}
use Rattle.incoming.specs.Frame.{Frames, framed}
use Rattle.incoming.proofs.Queued.{Half, Came, goes as stillGoes, comes, queued}
use Rattle.client_model.specs.Step.{Stores, with_packet, client_with, goes, begun_with, arrived, Done, over, ends, Stepped, after}
use Rattle.client_model.specs.Numbers.{same_await}
use Rattle.client_model.specs.Request.{requests_next, sends_abort}
use Rattle.client_model.specs.Answer.{continued, request_answered, responded, read_as, is_connecting, response_done}
use Rattle.client_model.specs.Guard.{short, sound, awaiting}
use Rattle.client_model.specs.Calls.{offers, bytes_offered_step, stream_ended_step}
use Rattle.client_model.specs.declared.Kind.TheVariants as kind
use Rattle.client_model.specs.declared.Operation.{Operation}
use Rattle.client_model.specs.declared.Operation.TheVariants.{Requesting, Aborting, Nothing as NothingOpen}
use Rattle.client_model.specs.declared.Await.{Await}
use Rattle.client_model.specs.declared.Await.TheVariants as await
use Rattle.client_model.specs.declared.Client.{Client}
use Rattle.client_model.specs.declared.End.TheVariants as end
use Rattle.client_model.specs.declared.Outcome.{Outcome}
use Rattle.client_model.specs.declared.Outcome.TheVariants as said
use Rattle.client_model.proofs.Conveyed.{Holding}
use Rattle.client_model.proofs.Putting.{Job, Keeps, Leads, waits, asks, counts-sound, next-leads, continues, ends-carried}
use Rattle.model.specs.Dispatch.{busy}
use Rattle.server.specs.declared.Await.TheVariants as server_waits
use Rattle.server.specs.declared.End.{End as ServerEnd}
use Rattle.server.specs.declared.Outcome.{Outcome as ServerOutcome}
use Rattle.server.specs.declared.Outcome.TheVariants as told
use Rattle.link.specs.Link.{Link, link_with, offerDown, closeDown, said_after, client_did, offered, close_after, move}
use Rattle.link.specs.Told.{is_accepted}
use Rattle.link.proofs.Moves.{Heard, heard_after, silent}
use Rattle.link.proofs.Joint.{Deal, box_of, record_for, Reason, by_abort, Gave, Mode, sends, reads, aborts, aborted, awaits, Aborted, HoldsIn, Down, Server, Same, Gathers, MeansPut, goes_on, refuses, answers, MeansAbort, Means, Ended, Left, nothing_left, record-left, Client', Joint, going, coming, Finished, Next, goes as goes_on_of, over as is_over}
pub use Rattle.link.proofs.ClientCalls.{passes}
use Rattle.link.proofs.ClientCalls.{keeps_on, keeps_as, answered_as, stops}

-- ---- the client that awaits a response

-- the stores with as long a packet store
pub packet-kept : (s : Stores) (x : List ℕ) → short s ≡ false → length x ≡ length s.packet → short (with_packet s x) ≡ false
unfolding short
packet-kept s x e l = rw l e

-- what it needs to read one
record Listens (j : Job) (c : Client) (s : Stores) (o : Outcome) : Type 0 where
  keeps : Keeps j c s
  awaits : c.awaits ≡ await.Bytes
  said : o ≡ said.WantsBytes
  sounds : sound c ≡ true
  other : is_connecting c.operation ≡ false

-- a response means nothing to a client that awaits none
pub data Listening : Mode → Type 0 where
  to_put : (last initial : Bool) → Listening (awaits last initial)
  to_abort : Listening aborted

pub listening : (mode : Mode) (g : Deal) (xs : List (List Header)) (code : ℕ) (hs : List Header) (s : Rattle.model.specs.Runs.State) (ab : Bool)
    (h : Heard)
    → Means mode g xs code hs s ab h → Listening mode
listening sends g xs code hs s ab h m = absurd m
listening reads g xs code hs s ab h m = absurd m
listening aborts g xs code hs s ab h m = absurd m
listening (awaits last initial) g xs code hs s ab h m = to_put last initial
listening aborted g xs code hs s ab h m = to_abort

module _ (g : Deal) (srm : Bool) (sent : List (List ℕ)) (ab : Bool) (h : Heard) (l : Link) where
  listens : (mode : Mode) → Listening mode → Client' g mode srm sent ab h l → Listens g.job l.client l.stores l.said
  listens mode (to_put true initial) w =
      let a = w.answered in
      record {
        keeps = w.keeps;
        awaits = w.awaits;
        said = w.said;
        sounds = keeps_as g.job l.client l.stores (Requesting kind.Put a.outgoing a.chunk srm initial true) w.keeps a.operation
            (counts-sound a.outgoing a.chunk a.counts);
        other = ap is_connecting a.operation;
      }
  listens mode (to_put false initial) w =
      let a = w.answered in
      let r = a.rest in
      record {
        keeps = w.keeps;
        awaits = w.awaits;
        said = w.said;
        sounds = keeps_as g.job l.client l.stores (Requesting kind.Put r.outgoing r.chunk false initial false) w.keeps
            a.operation (counts-sound r.outgoing r.chunk r.counts);
        other = ap is_connecting a.operation;
      }
  listens mode to_abort w =
      record {
        keeps = w.keeps;
        awaits = w.awaits;
        said = w.said;
        sounds = keeps_as g.job l.client l.stores Aborting w.keeps w.operation refl;
        other = ap is_connecting w.operation;
      }

  pub listens_bytes : (mode : Mode) → Listening mode → Client' g mode srm sent ab h l
      → (l.client.awaits ≡ await.Bytes) × (l.said ≡ said.WantsBytes)
  listens_bytes mode n w = let v = listens mode n w in (v.awaits, v.said)

-- ---- a response comes

module _ (g : Deal) (ab : Bool) (h : Heard) (l : Link) (mode : Mode) (srm : Bool) (sent : List (List ℕ)) (xs : List (List Header)) (y : List ℕ)
    (code : ℕ)
    (dn : Down y code) (v : Server g l.server) (wa : l.server.engine.awaits ≡ server_waits.Bytes) (wb : l.server.engine.begun ≡ 0)
    (wt : l.told ≡ told.WantsBytes) (up : l.up ≡ []) (hl : h.last ≡ some (sent_code code)) where
  -- the client once the response has come, in the packet store `x`
  abbrev came_client : Client
  came_client = arrived l.client (length y)

  abbrev came_stores : List ℕ → Stores
  came_stores x = with_packet l.stores x

  abbrev response : ResponsePacket
  response = record { code = code; final = dn.final; bytes = y; headers = dn.headers }

  came-keeps : (x : List ℕ) → length x ≡ length l.stores.packet → Keeps g.job l.client l.stores
      → Keeps g.job came_client (came_stores x)
  unfolding client_with
  came-keeps x e k =
      keeps_on g.job l.client came_client l.stores (came_stores x) k (packet-kept l.stores x k.room e) (omega arith) dn.whole.most
      refl refl refl refl k.request

  -- what follows the response
  abbrev came_link : Done → Link
  came_link d = link_with d.client d.stores (said_after l.said d.outcome) l.server l.told l.up []

  code-told : eqb code 0x10 ≡ false → (c : ℕ) → some code ≡ some c → (h.last ≡ some (sent_code c)) × (eqb c 0x10 ≡ false)
  code-told f c e =
      let q : code ≡ c = cc in
      subst (λ (n : ℕ). (h.last ≡ some (sent_code n)) × (eqb n 0x10 ≡ false)) q (hl, f)

  -- the Put is over, and nothing is open
  came-rests : (x : List ℕ) → Keeps g.job came_client (came_stores x) → busy l.server.engine.operation ≡ false → (o : Outcome)
      → Finished g ab h o l.told → Next g ab h (link_with (goes came_client NothingOpen await.Call false) (came_stores x) o l.server l.told
      l.up [])
  unfolding client_with
  came-rests x k i o fin =
      is_over fin
      (inr (record {
        room = k.room;
        begun = omega arith;
        latest = k.latest;
        least = k.least;
        most = omega (arith, k.capacity, k.least, g.job.top);
        counts = refl;
        awaits = refl;
        stays = refl;
        ready = record { serves = v.serves; awaits = wa; told = wt; none-begun = wb; up = up };
        idle = i;
        down = refl;
      }))
      (record { settings = k.settings; remote = k.remote; id = k.id; server = v.same })

  -- a response to the last packet
  answer-end : (initial : Bool) (x : List ℕ) → length x ≡ length l.stores.packet → (w : Client' g (awaits true initial) srm sent ab h l)
      → Holding sent xs
      → MeansPut g true initial xs code dn.headers l.server ab h
      → Next g ab h (came_link (over came_client (said.Done code came_client.length) (came_stores x)))
  answer-end initial x le w hold (goes_on f c t gr ga hr ha) = absurd (true≢false f)
  answer-end initial x le w hold (refuses r b hr ha why) =
      came-rests x (came-keeps x le w.keeps) b (said.Done code came_client.length)
      (record {
        is_over_lem = refl;
        one = inr (hr, why);
        success = r.fails ∙ sym (ap (is_accepted (box_of g)) ha);
        sure = λ e. absurd (true≢false (sym e ∙ r.fails));
        code = code-told r.final;
        number = λ x e. let z : ◌≡◌ {A = ℕ} 0 1 = cc in absurd (omega arith);
        done = λ c n e. w.final;
        stopped = λ c n e. let z : ◌≡◌ {A = ℕ} 0 1 = cc in absurd (omega arith);
        aborted = λ c n e. let z : ◌≡◌ {A = ℕ} 0 1 = cc in absurd (omega arith);
      })
  answer-end initial x le w hold (answers f b hr ok n gave) =
      let q = hr ∙ ap (λ (r : Record). r ∷ []) (ends-carried g.job srm initial sent h.given l.client xs w.answered hold) in
      came-rests x (came-keeps x le w.keeps) b (said.Done code came_client.length)
      (record {
        is_over_lem = refl;
        one = inl (q, subst (λ (t : Bool). Gave g t h.given) (sym (w.stays refl)) gave);
        success = ok;
        sure = λ e. q;
        code = code-told n;
        number = λ x e. let z : ◌≡◌ {A = ℕ} 0 1 = cc in absurd (omega arith);
        done = λ c n e. w.final;
        stopped = λ c n e. let z : ◌≡◌ {A = ℕ} 0 1 = cc in absurd (omega arith);
        aborted = λ c n e. let z : ◌≡◌ {A = ℕ} 0 1 = cc in absurd (omega arith);
      })

  -- the Put goes on
  came-going : (granted : Bool) (d : Done) → Gathers g granted l.server xs → h.records ≡ [] → h.answer ≡ none → (m : Mode)
      → Client' g m granted sent ab h (came_link d) → HoldsIn m sent (xs ++ []) → Rattle.link.proofs.Joint.Order m granted []
      → d.client.begun ≡ 0
      → Joint g ab h (came_link d)
  came-going granted d ga hr ha m w hold order b =
      going m granted sent xs [] w b hold tt order v wa wt ga (up, wb) refl hr ha

  came-leads : (granted : Bool) → Gathers g granted l.server xs → h.records ≡ [] → h.answer ≡ none → h.final ≡ false → ab ≡ false
      → Holding sent xs → (d : Done)
      → Leads g.job granted sent h.given d → Joint g ab h (came_link d)
  came-leads granted ga hr ha hf na hold d (waits k w b) =
      let e : said_after l.said d.outcome ≡ d.outcome = rw w.said in
      came-going granted d ga hr ha sends
      (subst (λ (o : Outcome). Rattle.link.proofs.Joint.Sends g.job granted sent ab h.given h.final d.client d.stores o) (sym e)
      (record { keeps = k; waits = w; plain = na; final = hf }))
      (subst (Holding sent) (sym (append-nil xs)) hold) (tt, λ i. refl) b
  came-leads granted ga hr ha hf na hold d (asks k w b) =
      let e : said_after l.said d.outcome ≡ d.outcome = rw w.said in
      came-going granted d ga hr ha reads
      (subst (λ (o : Outcome). Rattle.link.proofs.Joint.Reads g.job granted sent ab h.given h.final d.client d.stores o) (sym e)
      (record { keeps = k; asks = w; plain = na; final = hf }))
      (subst (Holding sent) (sym (append-nil xs)) hold) (tt, λ i. refl) b

  -- a Continue to a Put that was aborted: the Abort follows
  came-aborts : (granted : Bool) (x : List ℕ) → Keeps g.job came_client (came_stores x) → Gathers g granted l.server xs → h.records ≡ []
      → h.answer ≡ none
      → h.final ≡ false → ab ≡ true → Joint g ab h (came_link (sends_abort came_client (came_stores x)))
  unfolding sends_abort client_with
  came-aborts granted x k ga hr ha hf na =
      came-going granted (sends_abort came_client (came_stores x)) ga hr ha aborts
      (subst (λ (f : Bool). Rattle.link.proofs.Joint.Aborts g.job granted sent ab h.given f
      (sends_abort came_client (came_stores x)).client
      (sends_abort came_client (came_stores x)).stores (sends_abort came_client (came_stores x)).outcome) (sym hf)
      (stops g.job granted sent ab h.given came_client (came_stores x) k na))
      tt (tt, λ i. refl) refl

  -- a response to a packet that others follow
  answer-more : (initial : Bool) (x : List ℕ) → length x ≡ length l.stores.packet → (w : Client' g (awaits false initial) srm sent ab h l)
      → Holding sent xs
      → MeansPut g false initial xs code dn.headers l.server ab h
      → Next g ab h (came_link (request_answered kind.Put came_client w.answered.rest.outgoing false initial false response (came_stores x)))
  unfolding client_with
  answer-more initial x le w hold mean = by mean
    where
      k : Keeps g.job came_client (came_stores x)
      k = came-keeps x le w.keeps

      more : Done
      more = continued kind.Put came_client w.answered.rest.outgoing false initial response (came_stores x)

      stop : Done
      stop = over came_client (said.Stopped code came_client.length) (came_stores x)

      on : (t : Bool) → ab ≡ t → (granted : Bool) → (g.job.wants && (initial && Rattle.journal.specs.Journal.is_enable
          (Rattle.packet.specs.Header.first 0x97 dn.headers))) ≡ granted
          → Gathers g granted l.server xs → h.records ≡ [] → h.answer ≡ none → Joint g ab h (came_link more)
      on true e granted q ga hr ha =
          subst (λ (t : Bool). Joint g ab h (came_link (pick t (sends_abort came_client (came_stores x))
          (requests_next came_client kind.Put (false || Rattle.client_model.specs.Answer.grants came_client initial response) false
          w.answered.rest.outgoing (came_stores x))))) (sym (w.flag ∙ e))
          (came-aborts granted x k ga hr ha w.final e)
      on false e granted q ga hr ha =
          subst (λ (d : Done). Joint g ab h (came_link d)) (sym
          (continues g.job came_client (came_stores x) w.answered.rest.outgoing initial granted response k (w.flag ∙ e) q))
          (came-leads granted ga hr ha w.final e hold (requests_next came_client kind.Put granted false w.answered.rest.outgoing (came_stores x))
          (next-leads g.job granted sent h.given came_client (came_stores x) k w.answered.rest))

      by : MeansPut g false initial xs code dn.headers l.server ab h
          → Next g ab h (came_link (request_answered kind.Put came_client w.answered.rest.outgoing false initial false response (came_stores x)))
      by (goes_on f c granted q ga hr ha) =
          subst (λ (t : Bool). Next g ab h (came_link (pick t more stop))) (sym (ap (λ (n : ℕ). eqb n 0x10) c))
          (goes_on_of (on ab refl granted q ga hr ha))
      by (refuses r i hr ha why) =
          subst (λ (t : Bool). Next g ab h (came_link (pick t more stop))) (sym r.final)
          (came-rests x k i (said.Stopped code came_client.length)
          (record {
            is_over_lem = refl;
            one = inr (hr, why);
            success = sym (ap (is_accepted (box_of g)) ha);
            sure = λ e. absurd (false≢true e);
            code = code-told r.final;
            number = λ x e. let z : ◌≡◌ {A = ℕ} 0 1 = cc in absurd (omega arith);
            done = λ c n e. let z : ◌≡◌ {A = ℕ} 0 1 = cc in absurd (omega arith);
            stopped = λ c n e. w.final;
            aborted = λ c n e. let z : ◌≡◌ {A = ℕ} 0 1 = cc in absurd (omega arith);
          }))
      by (answers f i hr ok n gave) = absurd (false≢true f)

  -- the response to an Abort
  answer_abort : (x : List ℕ) → length x ≡ length l.stores.packet → (w : Client' g aborted srm sent ab h l) → MeansAbort code l.server h
      → Next g ab h (came_link (over came_client (said.Aborted code came_client.length) (came_stores x)))
  answer_abort x le w mean =
      came-rests x (came-keeps x le w.keeps) mean.idle (said.Aborted code came_client.length)
      (record {
        is_over_lem = refl;
        one = inr (mean.records, by_abort w.gone);
        success = sym (ap (is_accepted (box_of g)) mean.answer);
        sure = λ e. absurd (false≢true e);
        code = code-told mean.final;
        number = λ x e. let z : ◌≡◌ {A = ℕ} 0 1 = cc in absurd (omega arith);
        done = λ c n e. let z : ◌≡◌ {A = ℕ} 0 1 = cc in absurd (omega arith);
        stopped = λ c n e. let z : ◌≡◌ {A = ℕ} 0 1 = cc in absurd (omega arith);
        aborted = λ c n e. (w.final, w.gone);
      })

  answer_by_lem : (m : Mode) → Listening m → Client' g m srm sent ab h l → HoldsIn m sent xs → Means m g xs code dn.headers l.server ab h
      → (x : List ℕ)
      → length x ≡ length l.stores.packet → Next g ab h (came_link (responded l.client.operation came_client response (came_stores x)))
  answer_by_lem m (to_put true initial) w hold mean x le =
      subst (λ (o : Operation). Next g ab h (came_link (responded o came_client response (came_stores x)))) (sym w.answered.operation)
      (answer-end initial x le w hold mean)
  answer_by_lem m (to_put false initial) w hold mean x le =
      subst (λ (o : Operation). Next g ab h (came_link (responded o came_client response (came_stores x)))) (sym w.answered.operation)
      (answer-more initial x le w hold mean)
  answer_by_lem m to_abort w hold mean x le =
      subst (λ (o : Operation). Next g ab h (came_link (responded o came_client response (came_stores x)))) (sym w.operation)
      (answer_abort x le w mean)

  -- the response as the client reads it
  response-done : (x : List ℕ) → is_connecting l.client.operation ≡ false → take (length y) x ≡ y
      → response_done l.client (length y) (came_stores x) ≡ responded l.client.operation came_client response (came_stores x)
  unfolding response_done client_with
  response-done x i e =
      ap (λ (t : Bool). read_as (response_packet t (take (length y) x)) came_client (came_stores x)) i
      ∙ ap (λ (q : List ℕ). read_as (response_packet false q) came_client (came_stores x)) e
      ∙ ap (λ (o : Option ResponsePacket). read_as o came_client (came_stores x)) dn.reads

  -- bytes of it are offered
  bytes-step : (i : List ℕ) → Listens g.job l.client l.stores l.said
      → bytes_offered_step l.client i l.stores ≡ offers l.client (framed l.stores.packet l.client.begun 0 i) l.stores
  unfolding bytes_offered_step
  bytes-step i n =
      passes l.client l.stores (awaiting l.client await.Bytes)
      (offers l.client (framed l.stores.packet l.client.begun 0 i) l.stores) n.keeps.room
      n.sounds (ap (λ (x : Await). same_await x await.Bytes) n.awaits)

  -- the client with some bytes more
  still_listens : (m : Mode) (n : ℕ) (x : List ℕ) → Listening m → Client' g m srm sent ab h l → length x ≡ length l.stores.packet → n < 65535
      → Client' g m srm sent ab h (link_with (begun_with l.client n) (came_stores x) said.WantsBytes l.server l.told l.up [])
  unfolding client_with
  still_listens m n x (to_put last initial) w le lt =
      let k = w.keeps in
      record {
        keeps =
            keeps_on g.job l.client (begun_with l.client n) l.stores (came_stores x) k (packet-kept l.stores x k.room le) lt
            k.latest refl refl refl refl k.request;
        answered = answered_as last g.job srm initial sent h.given l.client (begun_with l.client n) refl w.answered;
        awaits = w.awaits;
        said = refl;
        flag = w.flag;
        stays = w.stays;
        final = w.final;
      }
  still_listens m n x to_abort w le lt =
      let k = w.keeps in
      record {
        keeps =
            keeps_on g.job l.client (begun_with l.client n) l.stores (came_stores x) k (packet-kept l.stores x k.room le) lt
            k.latest refl refl refl refl k.request;
        operation = w.operation;
        awaits = w.awaits;
        said = refl;
        stays = w.stays;
        gone = w.gone;
        final = w.final;
      }

  module _ (w : Client' g mode srm sent ab h l) (hold : HoldsIn mode sent xs) (mean : Means mode g xs code dn.headers l.server ab h) where
    here : Listening mode
    here = listening mode g xs code dn.headers l.server ab h mean

    came : (n : ℕ) (f : Frames) → Half y l.stores.packet l.down l.client.begun
        → Came y l.stores.packet l.down l.client.begun 0 n f
        → Next g ab h (client_did l (offers l.client f l.stores) l.up (drop (offers l.client f l.stores).took.taken l.down))
    unfolding client_with
    came n f half (stillGoes x lt e r le) =
        let z : 0 + n ≡ n = omega arith in
        subst (λ (q : Frames). Next g ab h (client_did l (offers l.client q l.stores) l.up
        (drop (offers l.client q l.stores).took.taken l.down))) (sym e)
        (subst (λ (m : ℕ). Next g ab h (link_with (begun_with l.client (l.client.begun + n)) (came_stores x) said.WantsBytes l.server l.told
        l.up (drop m l.down))) (sym z)
        (goes_on_of (coming mode srm sent xs y code (still_listens mode (l.client.begun + n) x here w le
        (omega (arith, r.count, r.more, r.whole.most))) hold dn mean v wa wb wt up r hl)))
    came n f half (comes x ge e r le) =
        let u : 0 + length l.down ≡ length l.down = omega arith in
        let z : drop (0 + length l.down) l.down ≡ [] = ap (λ (m : ℕ). drop m l.down) u ∙ drop-length l.down in
        subst (λ (q : Frames). Next g ab h (client_did l (offers l.client q l.stores) l.up
        (drop (offers l.client q l.stores).took.taken l.down))) (sym e)
        (subst₂ (λ (d : Done) (q : List ℕ). Next g ab h (link_with d.client d.stores (said_after l.said d.outcome) l.server l.told
        l.up q))
        (sym (response-done x (listens g srm sent ab h l mode here w).other r)) (sym z) (answer_by_lem mode here w hold mean x le))

    pub offer-down : Half y l.stores.packet l.down l.client.begun → (n : ℕ)
        → Next g ab (heard_after h l (offerDown n)) (move l (offerDown n))
    unfolding move
    offer-down half n =
        let i = take n l.down in
        let e : take n (l.down ++ []) ≡ i = ap (take n) (append-nil l.down) in
        subst (λ (x : Heard). Next g ab x (offered l i)) (sym (silent h))
        (subst (λ (m : Stepped). Next g ab h (client_did l m l.up (drop m.took.taken l.down)))
        (sym (bytes-step i (listens g srm sent ab h l mode here w)))
        (came n (framed l.stores.packet l.client.begun 0 i) half
        (subst (λ (q : List ℕ). Came y l.stores.packet l.down l.client.begun 0 n (framed l.stores.packet l.client.begun 0 q)) e
        (queued l.down y l.stores.packet [] l.client.begun 0 n half))))

-- ---- the server has ended

module _ (g : Deal) (ab : Bool) (h : Heard) (l : Link) (srm : Bool) (sent : List (List ℕ)) (xs : List (List Header)) (x : ServerEnd)
    (b : l.client.begun ≡ 0)
    (same : Same g l.server) (t : l.told ≡ told.End x) (is : Ended x) (dn : l.down ≡ []) (fails : is_accepted (box_of g) h.answer ≡ false) where
  -- the record that the host got is the whole
  left_one : (mode : Mode) → Client' g mode srm sent ab h l → HoldsIn mode sent xs → Left g mode xs ab h
      → ((h.records ≡ record_for g h.given ∷ []) × Gave g ab h.given) ⊎ ((h.records ≡ []) × Reason g ab h.given)
  left_one mode w hold (nothing_left e why) = inr (e, why)
  left_one sends w hold (record-left f e gave) = absurd f
  left_one reads w hold (record-left f e gave) = absurd f
  left_one aborts w hold (record-left f e gave) = absurd f
  left_one aborted w hold (record-left f e gave) = absurd f
  left_one (awaits true initial) w hold (record-left f e gave) =
      inl (
        e ∙ ap (λ (r : Record). r ∷ []) (ends-carried g.job srm initial sent h.given l.client xs w.answered hold),
        subst (λ (t : Bool). Gave g t h.given) (sym (w.stays refl)) gave,
      )
  left_one (awaits false initial) w hold (record-left f e gave) = absurd (false≢true f)

  pub see_end : (mode : Mode) → Listening mode → Client' g mode srm sent ab h l → HoldsIn mode sent xs → Left g mode xs ab h
      → Next g ab (heard_after h l closeDown) (move l closeDown)
  unfolding move stream_ended_step client_with
  see_end mode n w hold left =
      let c = l.client in
      let s = l.stores in
      let v = listens g srm sent ab h l mode n w in
      let k = v.keeps in
      let a : (awaiting c await.Bytes || awaiting c await.Call) ≡ true = ap (λ (w : Await). same_await w await.Bytes || same_await w await.Call)
      v.awaits in
      let m = after 0 (ends c (pick (eqb c.begun 0) end.Disconnected end.Truncated) s) in
      let e : stream_ended_step c s ≡ m = passes c s (awaiting c await.Bytes || awaiting c await.Call) m k.room v.sounds a in
      let f : m ≡ after 0 (ends c end.Disconnected s) = ap (λ (n : ℕ). after 0 (ends c (pick (eqb n 0) end.Disconnected end.Truncated) s)) b in
      let i : close_after l.told l.down l ≡ client_did l (after 0 (ends c end.Disconnected s)) l.up l.down =
      ap (λ (o : ServerOutcome). close_after o l.down l) t ∙ ap (λ (q : List ℕ). close_after (told.End x) q l) dn
      ∙ ap (λ (w : Stepped). client_did l w l.up l.down) (e ∙ f) in
      subst₂ (λ (x : Heard) (y : Link). Next g ab x y) (sym (silent h)) (sym i)
      (is_over (record {
        is_over_lem = refl;
        one = left_one mode w hold left;
        success = sym fails;
        sure = λ e. absurd (false≢true e);
        code = λ c e. let z : ◌≡◌ {A = ℕ} 0 1 = cc in absurd (omega arith);
        number = λ y e. let q : end.Disconnected ≡ y = cc in (sym q, x, t, is);
        done = λ c n e. let z : ◌≡◌ {A = ℕ} 0 1 = cc in absurd (omega arith);
        stopped = λ c n e. let z : ◌≡◌ {A = ℕ} 0 1 = cc in absurd (omega arith);
        aborted = λ c n e. let z : ◌≡◌ {A = ℕ} 0 1 = cc in absurd (omega arith);
      }) (inl refl) (record { settings = k.settings; remote = k.remote; id = k.id; server = same }))
