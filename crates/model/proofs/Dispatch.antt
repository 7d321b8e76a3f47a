-- A packet between operations: what the engine makes of it is what the journal does. Assumes nothing.
use mathlib.Core.Path.{◌≡◌, refl, sym, ap, ap₂, ◌∙◌, subst}
use mathlib.Core.List.{List, [], ◌∷◌}
use mathlib.Core.Bool.{Bool, true, false, ◌&&◌, ◌||◌, not, and-false, and-true, true≢false}
use mathlib.Core.Option.{Option, none, some}
use Prim.Native.Nat.{ℕ, ◌≤◌}
use native.Mathlib.Omega.{arith}
use lib.ListN.{length, take}
use lib.Count.{ones}
use lib.Dec.{leb}
use Rattle.std.specs.Prelude.{Some, None}
use Rattle.base.specs.Pick.{pick}
use Rattle.packet.specs.FirstByte.{same_opcode}
use Rattle.packet.specs.Codes.{sent_code}
use Rattle.packet.specs.Header.{Header, first, all_bytes}
use Rattle.packet.specs.Packet.{Request as Packet, request_of, connect_limit, packet_bytes, backup, no_create_of}
use Rattle.packet.specs.Auth.{Response}
use Rattle.packet.specs.declared.opcode.Opcode.{Opcode}
use Rattle.packet.specs.declared.opcode.Opcode.TheVariants as op
use Rattle.journal.specs.Record.{bare, carried_by}
use Rattle.journal.specs.Ids.{member}
use Rattle.journal.specs.Checks.{stop, most_wrong, too_many_of}
use Rattle.journal.specs.Journal.{Settings as JournalSettings, Standing, nothing, draining, Journal, Entry, unchanged, after, stands, unauthorized, not_open, admitted, asks_srm, is_stopped, with_check, connect_read, put_read, gather_read, turned_away, dropped, first_read, response_in, headers_of as headersIn}
use Rattle.incoming.specs.Survey.{id_of, present, survey_of}
use Rattle.incoming.specs.Gather.{gathering as gatheringOf}
use Rattle.incoming.specs.declared.survey.Survey.{Survey}
use Rattle.connection.specs.Reply.{fields_of}
use Rattle.connection.specs.Peer.{ids_of, limited, checked_peer, Challenge}
use Rattle.connection.specs.declared.peer.Peer.{Peer}
use Rattle.model.specs.Step.{Stores, Done, wants, asks, replies_code, limit_of}
use Rattle.model.specs.Operation.{put_packet, headers_packet, nothing_gathered}
use Rattle.model.specs.Request.{last_packet, last_headers, client_response, user_place}
use Rattle.model.specs.Connect.{verifies, stops, replies_fields, connect_packet}
use Rattle.model.specs.Dispatch.{Rejection, admits, rejects, rejection, known_in, drains, rejected, confirms, dispatches, admitted_as, dispatch}
use Rattle.model.specs.Runs.{handed_by}
use Rattle.server.specs.declared.Operation.TheVariants.{Nothing, Draining}
use Rattle.server.specs.declared.Await.{Await}
use Rattle.server.specs.declared.Await.TheVariants as await
use Rattle.server.specs.declared.Engine.{Engine}
use Rattle.server.specs.declared.HostRequest.{HostRequest}
use Rattle.server.specs.declared.HostRequest.TheVariants as request
use Rattle.server.specs.declared.Outcome.TheVariants as outcome
use Rattle.connection.proofs.Standings.{standing_of, limited-standing, stopped-standing, Windowed, limited_window, checked_window, too_many}
use Rattle.incoming.proofs.Gathers.{KeptAgrees, put-begins, carried-headers, kept-headers, kept-begins}
use Rattle.model.proofs.Fit.{Base}
use Rattle.model.proofs.Coupling.{Plain, Fixed, AskedBy, CoupledAt, Told, told-done, told-wants, told-replies, told-code}
use Rattle.model.proofs.Gathers.{held_after, still_after, put-packet, get_packet_lem, headers-packet}

-- ---- admission

-- the id that is named is not open
survey-open : (ids : List ℕ) (x : Option (List ℕ)) → not_open ids x ≡ (present x && not (member (id_of x) ids))
survey-open ids none = refl
survey-open ids (some v) = refl

-- an id that is named and not open is one that is named and not known
known-open : (a b : Bool) → (a && not (a && b)) ≡ (a && not b)
known-open true b = refl
known-open false b = refl

module _ (ts : List ℕ) (e : Engine) (s : Stores) (j : Journal) (f : Fixed ts e.settings e.peer j) (r : Packet) where
  abbrev v : Survey
  v = survey_of (some r.headers)

  abbrev no_password : Bool
  no_password = unauthorized j.settings j.standing r.opcode

  abbrev closed_id : Bool
  closed_id = not_open j.standing.ids (first 0xCB r.headers)

  abbrev known : Bool
  known = known_in e ts v

  pub rejection_is : rejection e r.opcode v known ≡ pick no_password (rejects 0x41) (pick closed_id (rejects 0x53) admits)
  unfolding rejection unauthorized survey_of
  rejection_is =
      ap (λ (t : Bool). pick (e.settings.authentication && (not e.peer.authenticated && not (same_opcode r.opcode op.Disconnect)))
      (rejects 0x41)
      (pick t (rejects 0x53) admits)) (known-open v.has_id (member v.id (ids_of e.peer ts)))
      ∙ rw (f.settings, f.standing) (rw (survey-open (ids_of e.peer ts) (first 0xCB r.headers)) refl)

  pub admitted_is : admitted j.settings j.standing r ≡ (not no_password && not closed_id)
  unfolding admitted
  admitted_is = refl

  -- turned away or not, as the journal has it
  decides : (y z : Entry) → Told ts (dispatches r.opcode e r v s) y → ((code : ℕ) → Told ts (rejected e r code s) z)
      → Told ts (admitted_as (rejection e r.opcode v known) e r v s) (pick (admitted j.settings j.standing r) y z)
  decides y z a b = rw (rejection_is, admitted_is) (go no_password closed_id)
    where
      go : (t u : Bool) → Told ts (admitted_as (pick t (rejects 0x41) (pick u (rejects 0x53) admits)) e r v s) (pick (not t && not u) y z)
      go true u = b 0x41
      go false true = b 0x53
      go false false = a

  drops : (code : ℕ) → Told ts (replies_code e e.peer Nothing code s) (dropped j r)
  drops code = told-code ts e e.peer s (after j (some r) nothing) code (held_after ts e s j f r Nothing nothing s refl)

  -- turned away: drained, or dropped
  pub srm_is : j.standing.srm ≡ e.peer.srm_enabled
  srm_is = ap (λ (x : Standing). x.srm) f.standing

  turned_away_lem : (code : ℕ) → drains r.opcode ≡ true → Told ts (rejected e r code s) (turned_away j r)
  turned_away_lem code d =
      subst (λ (t : Bool). Told ts (pick t (wants e e.peer (Draining code) s) (replies_code e e.peer Nothing code s)) (turned_away j r))
      (ap₂ (λ (m t : Bool). m && (t && not r.final)) srm_is (sym d)) (go (j.standing.srm && not r.final))
    where
      go : (t : Bool)
          → Told ts (pick t (wants e e.peer (Draining code) s) (replies_code e e.peer Nothing code s))
          (unchanged (after j (some r) (pick t draining nothing)))
      go true = told-wants ts e e.peer s (after j (some r) draining) (Draining code) (held_after ts e s j f r (Draining code) draining s refl)
      go false = drops code

  turned_down : (code : ℕ) → drains r.opcode ≡ false → Told ts (rejected e r code s) (dropped j r)
  turned_down code d = rw (d, and-false e.peer.srm_enabled) (drops code)

  -- admitted or not, the journal keeps nothing of it
  either_way : (x : Rejection) (y : Entry) → Told ts (dispatches r.opcode e r v s) y → ((code : ℕ) → Told ts (rejected e r code s) y)
      → Told ts (admitted_as x e r v s) y
  either_way admits y a b = a
  either_way (rejects code) y a b = b code

  -- ---- Connect

  module _ (last : request_of (take e.length s.packet) ≡ some r) where
    -- a peer that stands as the engine's
    abbrev SameStanding : Peer → Type 0
    SameStanding p = (standing_of p ts f.past ≡ standing_of e.peer ts f.past) × (p.window ≡ e.peer.window)

    -- the host is asked about this packet
    asks-told : (o : Opcode) (p : Peer) (a : Await) (q : HostRequest) → r.opcode ≡ o → SameStanding p
        → (AskedBy ts e.settings p o e.length s (after j (some r) nothing)
        → CoupledAt ts a Nothing e.settings p 0 e.length s (after j (some r) nothing))
        → handed_by q s ≡ [] → Told ts (asks e p Nothing a q s) (dropped j r)
    asks-told o p a q i k w g =
        told-done ts e p Nothing a (outcome.Request q) s (after j (some r) nothing) []
        (w (record {
          held = record {
            fixed = record {
              settings = f.settings;
              past = f.past;
              standing = f.standing ∙ sym k.0;
              window = k.1 ∙ f.window;
              ended = f.ended;
            };
            begun = refl;
            opened = refl;
          };
          request = r;
          last = refl;
          opcode = i;
          headers = sym (ap headersIn last);
        }))
        g
        refl

    -- the peer with the limit that this packet names
    abbrev named : Peer
    named = limited e.peer (connect_limit (last_packet e s))

    named-same : SameStanding named
    named-same = (limited-standing e.peer ts f.past (connect_limit (last_packet e s)), limited_window e.peer (connect_limit (last_packet e s)))

    named_window : Windowed named f.past
    named_window = named-same.1 ∙ f.window

    headers_are : r.headers ≡ last_headers e s
    unfolding last_headers last_packet
    headers_are = sym (ap headersIn last)

    -- stopped by the engine or not, as by the journal
    stopped_is : is_stopped j.settings j.standing r ≡ (e.settings.authentication && stops named (last_headers e s))
    unfolding is_stopped
    stopped_is =
        ap₂ (λ (x : JournalSettings) (y : Standing). is_stopped x y r) f.settings f.standing
        ∙ ap₂ (λ (t : Bool) (y : List Header). e.settings.authentication && (t && present (first 0x4E y)))
        (sym (too_many named f.past named_window)) headers_are

    checks_are : j.standing.checks ≡ f.past
    checks_are = ap (λ (x : Standing). x.checks) f.standing

    -- a Connect whose response can be read and that is not stopped comes to a check with not too many wrong ones before it
    comes_to_check : (x : Response) → client_response e s ≡ some x → stops named (last_headers e s) ≡ false → too_many_of j.standing.checks ≡ false
    unfolding client_response
    comes_to_check x c n = ap too_many_of checks_are ∙ sym (too_many named f.past named_window) ∙ go (first 0x4E (last_headers e s)) c n
      where
        go : (v : Option (List ℕ)) → response_in v ≡ some x → (leb most_wrong (ones named.window) && present v) ≡ false
            → leb most_wrong (ones named.window) ≡ false
        go none c n = absurd (let z : ◌≡◌ {A = ℕ} 0 1 = cc in omega arith)
        go (some v) c n = sym (and-true (leb most_wrong (ones named.window))) ∙ n

    verifies-told : r.opcode ≡ op.Connect → stops named (last_headers e s) ≡ false → (c : Challenge) (x : Option Response) → client_response e s ≡ x
        → Told ts (verifies e named c x s) (dropped j r)
    verifies-told i n None x k = asks-told op.Connect named await.Nonce request.Nonce i named-same (λ x. x) refl
    verifies-told i n (Some d) none k = asks-told op.Connect named await.Nonce request.Nonce i named-same (λ x. x) refl
    verifies-told i n (Some d) (some x) k =
        asks-told op.Connect named await.Password (request.Password (user_place e s)) i named-same (λ y. (y, comes_to_check x k n)) refl

    stop-told : Told ts (replies_fields e (checked_peer named false) 0x53 s) (dropped (stands j (with_check j.standing stop)) r)
    stop-told =
        told-replies ts e (checked_peer named false) s (after (stands j (with_check j.standing stop)) (some r) nothing) Nothing
        (packet_bytes (sent_code 0x53) (fields_of e.settings.max_packet_length) []) refl
        (record {
          fixed = record {
            settings = f.settings;
            past = stop ∷ f.past;
            standing = ap (λ (x : Standing). with_check x stop) (f.standing ∙ sym named-same.0) ∙ sym (stopped-standing named ts f.past);
            window = checked_window named f.past stop named_window;
            ended = f.ended;
          };
          begun = refl;
          opened = refl;
        })

    connect_told : r.opcode ≡ op.Connect → Told ts (connect_packet e s) (connect_read j r)
    unfolding connect_packet
    connect_told i =
        subst (λ (t : Bool). Told ts (connect_packet e s) (dropped (stands j (pick t (with_check j.standing stop) j.standing)) r))
        (sym stopped_is)
        (go e.settings.authentication (stops named (last_headers e s)) refl)
      where
        go : (t u : Bool) → stops named (last_headers e s) ≡ u
            → Told ts
            (pick t (pick u (replies_fields e (checked_peer named false) 0x53 s) (verifies e named named.challenge (client_response e s) s))
            (asks e named Nothing await.Connect (request.Connect e.length) s))
            (dropped (stands j (pick (t && u) (with_check j.standing stop) j.standing)) r)
        go true true n = stop-told
        go true false n = verifies-told i n named.challenge (client_response e s) refl
        go false u n = asks-told op.Connect named await.Connect (request.Connect e.length) i named-same (λ x. x) refl

    -- ---- nothing is open

    module _ (h : Base e s) (small : length (all_bytes r.headers) ≤ 65535) where
      pub none_kept : KeptAgrees (limit_of e) (gatheringOf nothing_gathered s.headers s.body) []
      none_kept = kept-begins (limit_of e) s.headers s.body h.room.headers h.room.body

      plain-told : (o : Opcode) → r.opcode ≡ o → Plain o → Told ts (headers_packet e r o nothing_gathered s) (gather_read j r o (all_bytes r.headers))
      plain-told o i p = headers-packet ts e s j f r o nothing_gathered [] none_kept small p i

      -- SRM from the second packet on
      srm-next : (m a : Bool) → pick m true (not m && a) ≡ (m || a)
      srm-next true a = refl
      srm-next false a = refl

      pub confirms_is : confirms e v ≡ (not j.standing.srm && asks_srm j.settings r.headers)
      unfolding survey_of asks_srm
      confirms_is = rw (f.settings, f.standing) refl

      abbrev first_put : Done
      first_put = put_packet e r v e.peer.srm_enabled (confirms e v) nothing_gathered s

      first-put : r.opcode ≡ op.Put
          → Told ts first_put (put_read j r j.standing.srm (j.standing.srm || asks_srm j.settings r.headers) (carried_by r.headers))
      first-put i =
          subst (λ (t : Bool). Told ts first_put (put_read j r j.standing.srm t (carried_by r.headers)))
          (ap (pick j.standing.srm true) confirms_is ∙ srm-next j.standing.srm (asks_srm j.settings r.headers))
          (subst (λ (t : Bool). Told ts first_put (put_read j r t (pick t true (confirms e v)) (carried_by r.headers)))
          (sym (ap (λ (x : Standing). x.srm) f.standing))
          (put-packet ts e s j f r v e.peer.srm_enabled (confirms e v) nothing_gathered bare
          (put-begins (limit_of e) s.headers s.body h.room.headers h.room.body)
          (omega (arith, carried-headers r.headers)) i))

      not_connect : (o : Opcode) (y : Entry) → r.opcode ≡ o → same_opcode o op.Connect ≡ false
          → Told ts (admitted_as (rejection e r.opcode v known) e r v s) y → Told ts (dispatch e r v known s) y
      unfolding dispatch
      not_connect o y i n w =
          subst (λ (t : Bool). Told ts (pick t (connect_packet e s) (admitted_as (rejection e r.opcode v known) e r v s)) y)
          (sym (ap (λ (x : Opcode). same_opcode x op.Connect) i ∙ n)) w

      by_opcode : (o : Opcode) (y : Entry) → r.opcode ≡ o → Told ts (dispatches o e r v s) y → Told ts (dispatches r.opcode e r v s) y
      by_opcode o y i w = subst (λ (x : Opcode). Told ts (dispatches x e r v s) y) (sym i) w

      plain-first : (o : Opcode) (y : Entry) → r.opcode ≡ o → same_opcode o op.Connect ≡ false → drains o ≡ false → Told ts (dispatches o e r v s) y
          → Told ts (dispatch e r v known s) (pick (admitted j.settings j.standing r) y (dropped j r))
      plain-first o y i n d w = not_connect o _ i n (decides y (dropped j r) (by_opcode o y i w) (λ code. turned_down code (ap drains i ∙ d)))

      drained-first : (o : Opcode) (y : Entry) → r.opcode ≡ o → same_opcode o op.Connect ≡ false → drains o ≡ true → Told ts (dispatches o e r v s) y
          → Told ts (dispatch e r v known s) (pick (admitted j.settings j.standing r) y (turned_away j r))
      drained-first o y i n d w = not_connect o _ i n (decides y (turned_away j r) (by_opcode o y i w) (λ code. turned_away_lem code (ap drains i ∙ d)))

      dropped-first : (o : Opcode) → r.opcode ≡ o → same_opcode o op.Connect ≡ false → drains o ≡ false → Told ts (dispatches o e r v s) (dropped j r)
          → Told ts (dispatch e r v known s) (dropped j r)
      dropped-first o i n d w =
          not_connect o _ i n
          (either_way (rejection e r.opcode v known) (dropped j r) (by_opcode o (dropped j r) i w) (λ code. turned_down code (ap drains i ∙ d)))

      pub dispatch-told : (o : Opcode) → r.opcode ≡ o → same_opcode o op.Abort ≡ false → Told ts (dispatch e r v known s) (first_read o j r)
      unfolding dispatch first_read same_opcode
      dispatch-told op.Connect i n =
          subst (λ (t : Bool). Told ts (pick t (connect_packet e s) (admitted_as (rejection e r.opcode v known) e r v s)) (connect_read j r))
          (sym (ap (λ (x : Opcode). same_opcode x op.Connect) i)) (connect_told i)
      dispatch-told op.Abort i n = absurd (true≢false n)
      dispatch-told op.Disconnect i n =
          dropped-first op.Disconnect i refl refl
          (asks-told op.Disconnect e.peer await.Disconnect (request.Disconnect e.length) i (refl, refl) (λ x. x) refl)
      dispatch-told op.SetPath i n =
          dropped-first op.SetPath i refl refl
          (asks-told op.SetPath e.peer await.Reply (request.SetPath e.length (backup r.bytes) (no_create_of r.bytes)) i (refl, refl)
          (λ x. (x.held, still_after ts e s j f r op.SetPath nothing i (λ a b y z. refl, refl))) refl)
      dispatch-told op.Put i n = drained-first op.Put _ i refl refl (first-put i)
      dispatch-told op.Get i n =
          drained-first op.Get _ i refl refl
          (get_packet_lem ts e s j f r v e.peer.srm_enabled (confirms e v) nothing_gathered [] none_kept (omega (arith, kept-headers r.headers)))
      dispatch-told op.Action i n = plain-first op.Action _ i refl refl (plain-told op.Action i (λ a b y z. refl, refl))
      dispatch-told op.Session i n = plain-first op.Session _ i refl refl (plain-told op.Session i (λ a b y z. refl, refl))
      dispatch-told (op.UserDefined x) i n = plain-first (op.UserDefined x) _ i refl refl (plain-told (op.UserDefined x) i (λ a b y z. refl, refl))
