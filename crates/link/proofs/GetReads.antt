-- The server while the packets of a Get's request follow one another under Single Response Mode (SRM): some bytes of the first come, or all of it,
-- and the server gathers it. What becomes of the link is left to the caller. Assumes nothing.
use mathlib.Core.Path.{◌≡◌, refl, sym, ap, subst, subst₂, ◌∙◌}
use mathlib.Core.List.{List, [], ◌∷◌, ◌++◌}
use mathlib.Core.Bool.{Bool, true, false, ◌||◌, true≢false}
use mathlib.Core.Option.{Option, none, some}
use Prim.Native.Nat.{ℕ, ◌+◌}
use native.Mathlib.Omega.{arith}
use lib.ListN.{length, take, drop}
use Rattle.packet.specs.Header.{Header}
use Rattle.packet.specs.Packet.{Request as Packet, request_of}
use Rattle.packet.specs.declared.opcode.Opcode.TheVariants as op
use Rattle.journal.specs.Record.{bare, joined}
use Rattle.journal.specs.Calls.{bytes_offered_of}
use Rattle.incoming.specs.Frame.{Frames, framed}
use Rattle.incoming.specs.Gather.{Gathering}
use Rattle.incoming.specs.Survey.{survey_of}
use Rattle.incoming.specs.declared.gather.Keep.TheVariants as keep
use Rattle.incoming.proofs.Queued.{Came, goes as stillGoes, comes, queued}
use Rattle.server.specs.declared.Operation.{Operation}
use Rattle.server.specs.declared.Await.{Await}
use Rattle.server.specs.declared.CallKind.TheVariants as kind
use Rattle.server.specs.declared.Engine.{Engine}
use Rattle.server.specs.declared.Outcome.TheVariants as told
use Rattle.model.specs.Step.{Stores, with_gathered, engine_with, Done, limit_of, Called}
use Rattle.model.specs.Operation.{get_packet, gathers}
use Rattle.model.specs.Dispatch.{known_in, inside, read_as, packet_target, arrived, packet_done}
use Rattle.model.specs.Guard.{fits}
use Rattle.model.specs.Calls.{with_packet, offers, bytes_offered_step}
use Rattle.model.specs.Runs.{State, step_of, keeps}
use Rattle.model.proofs.Fit.{Room, Base}
use Rattle.model.proofs.ServerGet.{GetDid, server_get, next_get, get_read}
use Rattle.client_model.proofs.Getting.{Fetch, Up, kept_all, kept_more}
use Rattle.link.specs.Link.{Link, link_with, offerUp, server_did, move}
use Rattle.link.specs.Told.{asked_by}
use Rattle.link.proofs.Moves.{or_else}
use Rattle.link.proofs.ServerMoves.{passes-tables, did_link}
use Rattle.link.proofs.GetHeard.{GetHeard, get_heard, or_joined, get_heard_after, silent}
use Rattle.link.proofs.GetJoint.{Origin, box_of, Gathers, none_yet, gathered, GetJoint}
use lib.Seq.{drop-append_seam, drop-append-le}
use Rattle.link.proofs.Joint.{Begun}
use Rattle.link.proofs.GetJoint.{Reader}
use Rattle.link.proofs.GetServerMoves.{heard_did, Acts, acts, gathered_room}

module _ (j : Fetch) (o : Origin) (h : GetHeard) (l : Link) (xs : List (List Header)) (rd : Reader o l.server l.told)
    (ga : Gathers true l.server xs) (q behind : List ℕ) (x : List Header) (last : Bool) (u : Up q op.Get last x)
    (bg : Begun q l.server.stores.packet l.up behind l.server.engine.begun)
    (still : (v : State) (rest : List ℕ) → Reader o v told.WantsBytes → Gathers true v xs → Begun q v.stores.packet rest behind v.engine.begun
    → GetJoint j o h (link_with l.client l.stores l.said v told.WantsBytes rest l.down))
    (did : (G : Engine) (s : Stores) (z : Gathering) → Acts o l.server.tables G → Base G (with_gathered s z) → (d : Done)
    → GetDid G s (record { opcode = op.Get; final = last; bytes = q; headers = x }) (survey_of (some x)) true false (kept_all (xs ++ (x ∷ []))) z d
    → GetJoint j o (heard_did h d) (did_link l d behind)) where
  abbrev E : Engine
  E = l.server.engine

  abbrev packet : Packet
  packet = record { opcode = op.Get; final = last; bytes = q; headers = x }

  abbrev G : Engine
  G = arrived E (length q) (packet_target (some packet) E l.server.tables)

  abbrev took_stores : List ℕ → Stores
  took_stores s = with_packet l.server.stores s

  abbrev Did : Done → Type 0
  Did d = GetJoint j o (heard_did h d) (did_link l d behind)

  took-acts : Acts o l.server.tables G
  unfolding engine_with
  took-acts =
      let a = acts o l.server rd.stays in
      record { settings = a.settings; peer = a.peer; tables = a.tables; long = a.long; srm = a.srm; remote = a.remote }

  packet-done : (s : List ℕ) → take (length q) s ≡ q → packet_done E (length q) (took_stores s) l.server.tables
      ≡ inside E.operation G packet (survey_of (some x)) (known_in G l.server.tables (survey_of (some x))) (took_stores s)
  unfolding packet_done engine_with
  packet-done s i =
      let t = l.server.tables in
      ap (λ (y : List ℕ). read_as (request_of y) (arrived E (length q) (packet_target (request_of y) E t)) y (took_stores s) t) i
      ∙ ap (λ (n : Option Packet). read_as n (arrived E (length q) (packet_target n E t)) q (took_stores s) t) u.reads
      ∙ get_read G q (took_stores s) t packet refl

  whole-did : (s : List ℕ) → take (length q) s ≡ q → length s ≡ length l.server.stores.packet → Gathers true l.server xs
      → Did (packet_done E (length q) (took_stores s) l.server.tables)
  unfolding engine_with
  whole-did s i le (none_yet e off n) = absurd (true≢false off)
  whole-did s i le (gathered g p w a) =
      let z = gathers G keep.Get x g (took_stores s) in
      let b = rd.stays.serves.base in
      let r : Room (limit_of G) (took_stores s) =
      record { packet = rw le b.room.packet; headers = b.room.headers; reply = b.room.reply; body = b.room.body } in
      subst Did
      (sym (packet-done s i ∙ ap (λ (n : Operation). inside n G packet (survey_of (some x)) (known_in G l.server.tables (survey_of (some x)))
      (took_stores s)) p
      ∙ next_get G (took_stores s) packet (survey_of (some x)) (known_in G l.server.tables (survey_of (some x))) g true false false refl))
      (did G (took_stores s) z took-acts
      (record { room = gathered_room G (took_stores s) x g (kept_all xs) r w; peer = b.peer; last = u.whole.most })
      (get_packet G packet (survey_of (some x)) true false g (took_stores s))
      (subst (λ (k : List ℕ). GetDid G (took_stores s) packet (survey_of (some x)) true false k z
      (get_packet G packet (survey_of (some x)) true false g (took_stores s))) (kept_more xs x)
      (server_get G (took_stores s) packet (survey_of (some x)) true false g (kept_all xs) w a)))

  server-step : (i : List ℕ) → step_of l.server (bytes_offered_of i)
      ≡ keeps l.server (offers E (framed l.server.stores.packet E.begun 0 i) l.server.stores l.server.tables)
  unfolding bytes_offered_step
  server-step i =
      ap (keeps l.server) (passes-tables (box_of o) l.server rd.stays.serves kind.FromPeer
      (offers E (framed l.server.stores.packet E.begun 0 i) l.server.stores l.server.tables)
      (ap (λ (w : Await). fits kind.FromPeer w) rd.awaits))

  abbrev heard_call : Called → GetHeard
  heard_call m =
      get_heard (h.asked ++ (asked_by m.took.outcome m.stores ++ [])) (or_else h.answer none) (or_joined h.object bare none) h.last
      (joined h.parts bare) (h.aborted || false)

  came : (n : ℕ) (f : Frames) → Came q l.server.stores.packet bg.rest E.begun 0 n f
      → let m = keeps l.server (offers E f l.server.stores l.server.tables) in
      GetJoint j o (heard_call m) (server_did l m (drop m.took.taken l.up) l.down)
  unfolding engine_with
  came n f (stillGoes s lt e w le) =
      let i : 0 + n ≡ n = omega arith in
      let z : drop (0 + n) l.up ≡ drop n bg.rest ++ behind =
      ap (λ (m : ℕ). drop m l.up) i ∙ ap (drop n) bg.is ∙ drop-append-le n bg.rest behind (omega (arith, lt)) in
      let b = rd.stays.serves.base in
      let y : State = record {
        engine = engine_with E.settings E.peer E.operation E.awaits (E.begun + n) E.length E.target;
        stores = took_stores s;
        tables = l.server.tables;
      } in
      subst (λ (x : Frames). let m = keeps l.server (offers E x l.server.stores l.server.tables) in
      GetJoint j o (heard_call m) (server_did l m (drop m.took.taken l.up) l.down)) (sym e)
      (subst₂ (λ (x : GetHeard) (m : List ℕ). GetJoint j o x (link_with l.client l.stores l.said y told.WantsBytes m l.down))
      (sym (silent h)) (sym z)
      (still y (drop n bg.rest ++ behind)
      (record {
        stays =
            record {
              serves =
                  record {
                    base =
                        record {
                          room = record {
                            packet = rw le b.room.packet;
                            headers = b.room.headers;
                            reply = b.room.reply;
                            body = b.room.body;
                          };
                          peer = b.peer;
                          last = b.last;
                        };
                    begun = omega (arith, w.count, w.more, w.whole.most);
                    counts = rd.stays.serves.counts;
                    tables = rd.stays.serves.tables;
                    srm = rd.stays.serves.srm;
                    remote = rd.stays.serves.remote;
                  };
              settings = rd.stays.settings;
              peer = rd.stays.peer;
              tables = rd.stays.tables;
            };
        awaits = rd.awaits;
        told = refl;
      })
      (gathers_as y ga) (record { rest = drop n bg.rest; half = w; is = refl })))
    where
      gathers_as : (v : State) → Gathers true l.server xs → Gathers true (record {
        engine = engine_with E.settings E.peer E.operation E.awaits (E.begun + n) E.length E.target;
        stores = took_stores s;
        tables = l.server.tables;
      }) xs
      gathers_as v (none_yet e off i) = none_yet e off i
      gathers_as v (gathered g e w a) = gathered g e w a
  came n f (comes s ge e w le) =
      let i : 0 + length bg.rest ≡ length bg.rest = omega arith in
      let z : drop (0 + length bg.rest) l.up ≡ behind =
      ap (λ (m : ℕ). drop m l.up) i ∙ ap (drop (length bg.rest)) bg.is ∙ drop-append_seam bg.rest behind in
      subst (λ (x : Frames). let m = keeps l.server (offers E x l.server.stores l.server.tables) in
      GetJoint j o (heard_call m) (server_did l m (drop m.took.taken l.up) l.down)) (sym e)
      (subst (λ (up : List ℕ). GetJoint j o (heard_did h (packet_done E (length q) (took_stores s) l.server.tables))
      (did_link l (packet_done E (length q) (took_stores s) l.server.tables) up)) (sym z)
      (whole-did s w le ga))

  pub stream_up : (n : ℕ) → GetJoint j o (get_heard_after h l (offerUp n)) (move l (offerUp n))
  unfolding move
  stream_up n =
      let i = take n l.up in
      subst (λ (m : Called). GetJoint j o (heard_call m) (server_did l m (drop m.took.taken l.up) l.down)) (sym (server-step i))
      (came n (framed l.server.stores.packet E.begun 0 i)
      (subst (λ (y : List ℕ). Came q l.server.stores.packet bg.rest E.begun 0 n
      (framed l.server.stores.packet E.begun 0 (take n y))) (sym bg.is)
      (queued bg.rest q l.server.stores.packet behind E.begun 0 n bg.half)))
