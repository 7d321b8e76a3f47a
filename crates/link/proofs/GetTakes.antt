-- The client while the packets of an object follow one another under Single Response Mode (SRM): a packet that has come whole is handed on as a
-- part, or dropped once the user has aborted; a part is taken; the user aborts. Assumes nothing.
use mathlib.Core.Path.{◌≡◌, refl, sym, ap, subst, subst₂, ◌∙◌}
use mathlib.Core.List.{List, [], ◌∷◌, ◌++◌}
use mathlib.Core.Bool.{Bool, true, false, ◌&&◌, ◌||◌, true≢false, false≢true}
use mathlib.Core.Option.{Option}
use Prim.Native.Nat.{ℕ, ◌+◌}
use native.Mathlib.Omega.{arith}
use lib.ListN.{length, take, drop}
use lib.Seq.{drop-append_seam, drop-append-le}
use Rattle.base.specs.Pick.{pick}
use Rattle.packet.specs.Header.{Header}
use Rattle.packet.specs.ResponsePacket.{ResponsePacket, response_packet}
use Rattle.journal.specs.Record.{Record, bare, joined, carried_by}
use Rattle.incoming.specs.Frame.{Frames, framed}
use Rattle.incoming.proofs.Queued.{Came, goes as stillGoes, comes, queued}
use Rattle.client_model.specs.Step.{Stores, stores, with_packet, client_with, begun_with, arrived, goes, Done, wants, Stepped}
use Rattle.client_model.specs.Numbers.{same_await}
use Rattle.client_model.specs.Answer.{gathers, part_body, parts, received, responded, is_connecting, read_as, response_done}
use Rattle.client_model.specs.Guard.{sound_operation, awaiting}
use Rattle.client_model.specs.Calls.{offers, bytes_offered_step}
use Rattle.client_model.specs.declared.Settings.{Settings}
use Rattle.client_model.specs.declared.Operation.{Operation}
use Rattle.client_model.specs.declared.Operation.TheVariants.{Receiving}
use Rattle.client_model.specs.declared.Await.{Await}
use Rattle.client_model.specs.declared.Await.TheVariants as await
use Rattle.client_model.specs.declared.Client.{Client}
use Rattle.client_model.specs.declared.Outcome.{Outcome}
use Rattle.client_model.specs.declared.Outcome.TheVariants as said
use Rattle.client_model.proofs.Getting.{Fetch, Stands, stands-sound, part-gathers, wants as asks_srm}
use Rattle.link.specs.Link.{Link, link_with, user, abort, partTaken, said_after, client_did, move}
use Rattle.link.specs.Told.{part_said}
use Rattle.link.proofs.Joint.{Begun}
use Rattle.link.proofs.ClientMoves.{passes, packet-kept}
use Rattle.link.proofs.ServerMoves.{carried-more}
use Rattle.link.proofs.Queues.{join_all}
use Rattle.link.proofs.GetHeard.{GetHeard, heard_calls, get_heard_after, silent}
use Rattle.link.proofs.GetObject.{Down, down-short, Thing}
use Rattle.link.proofs.GetJoint.{Origin, box_of, Story, Stage, requesting, receiving, aborting, held, Answered, Due, is_waiting, on_after, Turning, Taker, awaiting-next, hands, GetJoint}
use Rattle.link.proofs.GetClientMoves.{due-sound, answered_as, taken_step, abort_move, abort_heard}
use Rattle.link.proofs.GetResponses.{with_part, heard-part, part-said, gathered_kept, held-waiting}

-- SRM is on
turning_on : (j : Fetch) (lead : Bool) (zs : List (List Header)) → Turning j (receiving true) lead zs
turning_on j lead [] = refl
turning_on j lead (z ∷ zs) = refl

module _ (j : Fetch) (o : Origin) (h : GetHeard) (l : Link) (st : Stage) (flag : Bool) (sent : List (List ℕ))
    (due : Due st flag j sent h l.client l.stores l.said) (wt : is_waiting st ≡ true) (t : Thing (box_of o)) (d : List ℕ)
    (zs : List (List Header)) (story : Story j (box_of o) t d zs h) (y : List ℕ) (ys : List (List ℕ)) (x : List Header) (y' : Down y 0x10 x)
    (bg : Begun y l.stores.packet l.down (join_all ys) l.client.begun) (oa : on_after j st x ≡ true)
    (still : (p : List ℕ) (b : ℕ) (rest : List ℕ) → Due st flag j sent h (begun_with l.client b) (with_packet l.stores p) said.WantsBytes
    → Begun y p rest (join_all ys) b
    → GetJoint j o h (link_with (begun_with l.client b) (with_packet l.stores p) said.WantsBytes l.server l.told l.up rest))
    (next : (k : GetHeard) (c : Client) (s : Stores) (u : Outcome) → Taker j k t.lead (zs ++ (x ∷ [])) c s u
    → Story j (box_of o) t d (zs ++ (x ∷ [])) k → k.last ≡ h.last → c.begun ≡ 0
    → GetJoint j o k (link_with c s u l.server l.told l.up (join_all ys))) where
  abbrev came_client : Client
  came_client = arrived l.client (length y)

  abbrev came_stores : List ℕ → Stores
  came_stores p = with_packet l.stores p

  abbrev response : ResponsePacket
  response = record { code = 0x10; final = y'.final; bytes = y; headers = x }

  -- what follows, and what is heard of it
  abbrev Follows : Done → Type 0
  Follows r =
      GetJoint j o (heard_calls h [] h.last (part_said r.outcome r.stores) false)
      (link_with r.client r.stores (said_after l.said r.outcome) l.server l.told l.up (join_all ys))
      × (flag ≡ true → part_said r.outcome r.stores ≡ bare)

  came-stands : (p : List ℕ) → length p ≡ length l.stores.packet → Stands j (held st flag) came_client (came_stores p)
  unfolding client_with
  came-stands p le =
      let k = due.stands in
      record {
        room = packet-kept l.stores p k.room le;
        begun = omega arith;
        latest = y'.whole.most;
        settings = k.settings;
        remote = k.remote;
        id = k.id;
        aborting = k.aborting;
      }

  -- by whether the user has aborted
  came_by_lem : (p : List ℕ) → length p ≡ length l.stores.packet → (f : Bool) → flag ≡ f
      → Follows (pick f (wants came_client (Receiving true false 0) true (came_stores p))
      (parts came_client true false 0x10 (gathers response (came_stores p)) (came_stores p)))
  unfolding client_with
  came_by_lem p le true q =
      let k = came-stands p le in (
        subst (λ (z : GetHeard). GetJoint j o z (link_with (goes came_client (Receiving true false 0) await.Bytes true) (came_stores p) said.WantsBytes
            l.server l.told l.up (join_all ys))) (sym (silent h))
            (next h (goes came_client (Receiving true false 0) await.Bytes true) (came_stores p) said.WantsBytes
            (awaiting-next (receiving true) true []
            (record {
              stands = record {
                room = k.room;
                begun = omega arith;
                latest = k.latest;
                settings = k.settings;
                remote = k.remote;
                id = k.id;
                aborting = refl;
              };
              answered = (0, refl);
              awaits = refl;
              said = refl;
              aborted = due.aborted ∙ q;
              only = tt;
            }) refl (turning_on j t.lead (zs ++ (x ∷ []))))
            (record {
              asked = story.asked;
              answer = story.answer;
              object = story.object;
              parts = λ a. absurd (true≢false (sym (due.aborted ∙ q) ∙ a));
            }) refl refl),
        λ z. refl,
      )
  came_by_lem p le false q =
      let k = came-stands p le in
      let g = gathers response (came_stores p) in
      let w = part-gathers response (came_stores p) k.room (down-short y 0x10 x y') in
      let ab = due.aborted ∙ q in
      let e : heard_calls h [] h.last (part_said (said.Part g.got.kept (part_body g.got)) (stores p g.headers g.body l.stores.request)) false
      ≡ with_part h (carried_by x) =
      ap (λ (c : Record). heard_calls h [] h.last c false) (part-said g (carried_by x) p l.stores.request w.0 w.1) ∙ heard-part h (carried_by x) in (
        subst (λ (z : GetHeard). GetJoint j o z (link_with (goes came_client (Receiving true false 0x10) await.Taken false)
            (stores p g.headers g.body l.stores.request) (said.Part g.got.kept (part_body g.got)) l.server l.told l.up (join_all ys)))
            (sym e)
            (next (with_part h (carried_by x)) (goes came_client (Receiving true false 0x10) await.Taken false)
            (stores p g.headers g.body l.stores.request) (said.Part g.got.kept (part_body g.got))
            (hands 0x10 g.got.kept (part_body g.got)
            (record {
              room = gathered_kept (came_stores p) g.headers g.body k.room w.0.room w.0.body-room;
              begun = omega arith;
              latest = k.latest;
              settings = k.settings;
              remote = k.remote;
              id = k.id;
              aborting = refl;
            }) refl refl refl refl ab)
            (record {
              asked = story.asked;
              answer = story.answer;
              object = story.object;
              parts = λ a. ap (λ (c : Record). joined c (carried_by x)) (story.parts ab) ∙ carried-more zs x;
            }) refl refl),
        λ z. absurd (true≢false (sym z ∙ q)),
      )

  -- the response as the client reads it
  answered_by_lem : (p : List ℕ) (z : Stage) → st ≡ z → Answered z j sent l.client l.stores
      → responded l.client.operation came_client response (came_stores p) ≡ received came_client true response (came_stores p)
  unfolding client_with
  answered_by_lem p (requesting on initial true) e a =
      ap (λ (u : Operation). responded u came_client response (came_stores p)) a.operation
      ∙ ap (λ (b : Bool). received came_client b response (came_stores p))
      (ap (λ (u : Settings). on || (u.srm_wanted && (initial && Rattle.journal.specs.Journal.is_enable (Rattle.packet.specs.Header.first 0x97 x))))
      due.stands.settings ∙ ap (λ (z : Stage). on_after j z x) (sym e) ∙ oa)
  answered_by_lem p (requesting on initial false) e a = absurd (false≢true (sym (ap is_waiting e) ∙ wt))
  answered_by_lem p (receiving on) e a =
      ap (λ (u : Operation). responded u came_client response (came_stores p)) a.1
      ∙ ap (λ (b : Bool). received came_client b response (came_stores p)) (sym (same_on on (asks_srm j)) ∙ ap (λ (z : Stage). on_after j z x) (sym e) ∙ oa)
    where
      same_on : (t u : Bool) → (t || (u && false)) ≡ t
      same_on true u = refl
      same_on false true = refl
      same_on false false = refl
  answered_by_lem p aborting e a = absurd (false≢true (sym (ap is_waiting e) ∙ wt))

  response-done : (p : List ℕ) → take (length y) p ≡ y → response_done l.client (length y) (came_stores p)
      ≡ pick flag (wants came_client (Receiving true false 0) true (came_stores p))
      (parts came_client true false 0x10 (gathers response (came_stores p)) (came_stores p))
  unfolding response_done client_with received
  response-done p e =
      let v = due-sound st j sent l.client l.stores due.answered in
      ap (λ (t : Bool). read_as (response_packet t (take (length y) p)) came_client (came_stores p)) (ap is_connecting v.1 ∙ v.3)
      ∙ ap (λ (q : List ℕ). read_as (response_packet false q) came_client (came_stores p)) e
      ∙ ap (λ (u : Option ResponsePacket). read_as u came_client (came_stores p)) y'.reads
      ∙ answered_by_lem p st refl due.answered
      ∙ ap (λ (b : Bool). pick b (wants came_client (Receiving true false 0) true (came_stores p))
      (parts came_client true false 0x10 (gathers response (came_stores p)) (came_stores p))) (due.stands.aborting ∙ held-waiting st flag wt)

  bytes-step : (i : List ℕ) → bytes_offered_step l.client i l.stores
      ≡ offers l.client (framed l.stores.packet l.client.begun 0 i) l.stores
  unfolding bytes_offered_step
  bytes-step i =
      let v = due-sound st j sent l.client l.stores due.answered in
      passes l.client l.stores (awaiting l.client await.Bytes)
      (offers l.client (framed l.stores.packet l.client.begun 0 i) l.stores) due.stands.room
      (stands-sound j (held st flag) l.client l.stores due.stands (ap sound_operation v.1 ∙ v.2))
      (ap (λ (x : Await). same_await x await.Bytes) due.awaits)

  abbrev Offered : Stepped → Type 0
  Offered m =
      GetJoint j o (heard_calls h [] h.last (part_said m.took.outcome m.stores) false)
      (client_did l m l.up (drop m.took.taken l.down))
      × (flag ≡ true → part_said m.took.outcome m.stores ≡ bare)

  came : (n : ℕ) (f : Frames) → Came y l.stores.packet bg.rest l.client.begun 0 n f → Offered (offers l.client f l.stores)
  unfolding client_with
  came n f (stillGoes p lt e w le) =
      let k = due.stands in
      let i : 0 + n ≡ n = omega arith in
      let z : drop (0 + n) l.down ≡ drop n bg.rest ++ join_all ys =
      ap (λ (m : ℕ). drop m l.down) i ∙ ap (drop n) bg.is ∙ drop-append-le n bg.rest (join_all ys) (omega (arith, lt)) in
      subst (λ (g : Frames). Offered (offers l.client g l.stores)) (sym e) (
        subst₂ (λ (u : GetHeard) (q : List ℕ). GetJoint j o u (link_with (begun_with l.client (l.client.begun + n)) (came_stores p) said.WantsBytes
            l.server l.told l.up q)) (sym (silent h)) (sym z)
            (still p (l.client.begun + n) (drop n bg.rest ++ join_all ys)
            (record {
              stands =
                  record {
                    room = packet-kept l.stores p k.room le;
                    begun = omega (arith, w.count, w.more, w.whole.most);
                    latest = k.latest;
                    settings = k.settings;
                    remote = k.remote;
                    id = k.id;
                    aborting = k.aborting;
                  };
              answered = answered_as st j sent l.client (begun_with l.client (l.client.begun + n)) l.stores (came_stores p) refl refl
                  due.answered;
              awaits = due.awaits;
              said = refl;
              aborted = due.aborted;
              only = due.only;
            })
            (record { rest = drop n bg.rest; half = w; is = refl })),
        λ q. refl,
      )
  came n f (comes p ge e w le) =
      let i : 0 + length bg.rest ≡ length bg.rest = omega arith in
      let z : drop (0 + length bg.rest) l.down ≡ join_all ys =
      ap (λ (m : ℕ). drop m l.down) i ∙ ap (drop (length bg.rest)) bg.is ∙ drop-append_seam bg.rest (join_all ys) in
      subst (λ (g : Frames). Offered (offers l.client g l.stores)) (sym e)
      (subst₂ (λ (r : Done) (q : List ℕ). GetJoint j o (heard_calls h [] h.last (part_said r.outcome r.stores) false)
      (link_with r.client r.stores (said_after l.said r.outcome) l.server l.told l.up q)
      × (flag ≡ true → part_said r.outcome r.stores ≡ bare))
      (sym (response-done p w)) (sym z) (came_by_lem p le flag refl))

  pub take-down : (n : ℕ) → Offered (bytes_offered_step l.client (take n l.down) l.stores)
  take-down n =
      let i = take n l.down in
      subst Offered (sym (bytes-step i))
      (came n (framed l.stores.packet l.client.begun 0 i)
      (subst (λ (q : List ℕ). Came y l.stores.packet bg.rest l.client.begun 0 n (framed l.stores.packet l.client.begun 0 (take n q)))
      (sym bg.is)
      (queued bg.rest y l.stores.packet (join_all ys) l.client.begun 0 n bg.half)))

-- ---- a part is taken, or the user aborts instead

module _ (j : Fetch) (o : Origin) (h : GetHeard) (l : Link) (lead : Bool) (zs : List (List Header)) (code : ℕ)
    (k : Stands j false l.client l.stores) (p : l.client.operation ≡ Receiving true false code) (a : l.client.awaits ≡ await.Taken) where
  abbrev next_client : Bool → Client
  next_client b = goes l.client l.client.operation await.Bytes b

  awaits-next : (g : GetHeard) (b : Bool) → g.aborted ≡ b → Taker j g lead zs (next_client b) l.stores said.WantsBytes
  unfolding client_with
  awaits-next g b e =
      awaiting-next (receiving true) b []
      (record {
        stands = record {
          room = k.room;
          begun = omega arith;
          latest = k.latest;
          settings = k.settings;
          remote = k.remote;
          id = k.id;
          aborting = refl;
        };
        answered = (code, p);
        awaits = refl;
        said = refl;
        aborted = e;
        only = tt;
      }) refl (turning_on j lead zs)

  pub take_next : h.aborted ≡ false
      → (Taker j h lead zs (next_client false) l.stores said.WantsBytes
      → GetJoint j o h (link_with (next_client false) l.stores said.WantsBytes l.server l.told l.up l.down))
      → GetJoint j o (get_heard_after h l (user partTaken)) (move l (user partTaken))
  unfolding move
  take_next ab g =
      subst₂ (λ (x : GetHeard) (m : Stepped). GetJoint j o x (client_did l m l.up l.down)) (sym (silent h))
      (sym (taken_step j l (Receiving true false code) k p refl a)) (g (awaits-next h false ab))

  pub abort_next : (Taker j (abort_heard h) lead zs (next_client true) l.stores said.WantsBytes
      → GetJoint j o (abort_heard h) (link_with (next_client true) l.stores said.WantsBytes l.server l.told l.up l.down))
      → GetJoint j o (get_heard_after h l (user abort)) (move l (user abort))
  abort_next g =
      abort_move j false l (Receiving true false code) await.Taken k p refl a refl (wants l.client l.client.operation true l.stores) o h
      (ap (λ (y : Operation). Rattle.client_model.specs.Calls.abort_taken y l.client l.stores) p) refl (g (awaits-next (abort_heard h) true refl))
