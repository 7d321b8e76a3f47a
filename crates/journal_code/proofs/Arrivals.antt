-- A packet, with the state and the journal before it: by what is open, and by its opcode, the state becomes what the journal does. Assumes
-- nothing.
use mathlib.Core.Path.{◌≡◌, refl, sym, ap, ap₂, ◌∙◌, subst}
use mathlib.Core.List.{List, [], ◌∷◌, ◌++◌}
use mathlib.Core.Bool.{Bool, true, false, ◌&&◌, ◌||◌, not, false≢true}
use mathlib.Core.Option.{Option, none, some}
use Prim.Native.Nat.{ℕ, zero, suc, ◌+◌, ◌-◌, ◌≤◌}
use native.Mathlib.Omega.{arith}
use lib.ListN.{length, get_or, take, drop}
use lib.Seq.{get_or-drop}
use lib.Dec.{leb, ltb}
use borrow.Author.Tests.{ltb-true, ltb-false, lt-leb, le-leb}
use Rattle.base.specs.Pick.{pick}
use Rattle.base.specs.Bytes.{be32}
use Rattle.base.specs.Place.{Place, Some, None}
use Rattle.packet.specs.FirstByte.{first_byte, same_opcode}
use Rattle.packet.specs.Header.{Header, read_headers, first, present, first_place}
use Rattle.packet.specs.Packet.{Request, prefix_of, request_with, request_by, request_of}
use Rattle.packet.specs.Tags.{bytes_at}
use Rattle.packet.specs.declared.opcode.Opcode.{Opcode}
use Rattle.packet.specs.declared.opcode.Opcode.TheVariants as op
use Rattle.packet.specs.declared.opcode.FirstByte.{FirstByte}
use Rattle.std.specs.Prelude.{Option as Maybe}
use Rattle.packet.proofs.HeaderBytes.{Octets}
use Rattle.packet.proofs.HeaderLaws.{first-agrees}
use Rattle.journal.specs.Record.{Record, joined, size_of, bare, carried_by, kept_by_get}
use Rattle.journal.specs.Ids.{member}
use Rattle.journal.specs.Checks.{stop, too_many_of}
use Rattle.journal.specs.Journal.{Settings as JournalSettings, Standing, Opened, nothing, trailing, putting, getting, sending, gathering, draining, Journal, Entry, unchanged, after, stands, ends_with, stopped, unauthorized, admitted, not_open, asks_srm, put_read, turned_away, dropped, is_stopped, with_check, connect_read, first_read, trails, request_read, packet_read, busy, headers_of}
use Rattle.journal.specs.Naming.{Naming, target_of, under_id, packet_names}
use Rattle.incoming.specs.Survey.{survey_of, id_of}
use Rattle.incoming.specs.Frame.{frame_end}
use Rattle.incoming.specs.Gather.{Gathering, gathering as gatheringOf, gather_all}
use Rattle.incoming.specs.declared.gather.Keep.TheVariants as keep
use Rattle.incoming.specs.declared.gather.Gathered.{Gathered}
use Rattle.incoming.proofs.Gathers.{PutAgrees, put-begins, put-agrees, put_full}
use Rattle.table.specs.Targets.{unnamed, target_bytes}
use Rattle.table.proofs.Naming.{unnamed-bytes}
use Rattle.connection.specs.Peer.{peer_with, ids_of, id_in, checked_peer}
use Rattle.connection.specs.declared.peer.Peer.{Peer}
use Rattle.connection.proofs.Carrying.{Carried}
use Rattle.connection.proofs.Openings.{Given}
use Rattle.connection.proofs.Standings.{PeerFits, checked-fits, checked_window, stopped-standing, too_many}
use Rattle.journal_code.specs.declared.state.State.{State}
use Rattle.journal_code.specs.declared.state.Open.{Open}
use Rattle.journal_code.specs.declared.state.Open.TheVariants.{Nothing, Trailing, Putting, Getting, Sending, Gathering as GatheringOpen, Draining}
use Rattle.journal_code.specs.declared.state.Last.TheVariants as last
use Rattle.journal_code.specs.declared.heading.Heading.{Heading}
use Rattle.journal_code.specs.declared.route.Route.{Route}
use Rattle.journal_code.specs.declared.route.Route.TheVariants as way
use Rattle.journal_code.specs.State.{state_with, ended_with, is_busy, nothing_gathered}
use Rattle.journal_code.specs.Heading.{link_by, heading_of, last_by}
use Rattle.journal_code.specs.Route.{admitted_in, turned_open, admitted_route, turned_by, first_route, trails_in, trailing_route, inside_route, heading_route}
use Rattle.journal_code.specs.Receive.{stopped_in, peer_after, marked_by, target_after, after_packet, put_open, put_state, unreadable_state, Step, put_step, act_step, request_step}
use Rattle.journal_code.specs.Run.{Stores, Held, held}
use Rattle.journal_code.specs.Claims.{put_kept, kept_in}
use Rattle.journal_code.proofs.Picks.{on_true, on_false}
use Rattle.journal_code.proofs.Coupling.{Fixed, Begins, last_of, last_in, OpenedAs, Does, busy-same, Live, live, over, Next, Came, goes, full}
use Rattle.journal_code.proofs.Steps.{next_as}

-- ---- the bytes of a header's value

octets-take : (n : ℕ) (l : List ℕ) → Octets l → Octets (take n l)
octets-take zero l o k = omega arith
octets-take (suc n) [] o k = omega arith
octets-take (suc n) (x ∷ l) o zero = o 0
octets-take (suc n) (x ∷ l) o (suc k) = octets-take n l (λ i. o (suc i)) k

octets_at : (p : List ℕ) (f : Place) → Octets p → Given (bytes_at p f)
octets_at p None o = tt
octets_at p (Some q) o = octets-take (q.end - q.start) (drop q.start p) (λ k. rw (get_or-drop q.start p k 0) (o (q.start + k)))

-- the headers of a packet of bytes have values of bytes
request-given : (p : List ℕ) (id : ℕ) → Octets p → Given (first id (headers_of (request_of p)))
unfolding request_of first
request-given p id o = go (first_byte (get_or p 0 0))
  where
    with_headers_lem : (c : Opcode) (f : Bool) (hs : Option (List Header)) → read_headers p (prefix_of c) ≡ hs
        → Given (first id (headers_of (request_with c f p hs)))
    with_headers_lem c f none i = tt
    with_headers_lem c f (some hs) i = subst Given (first-agrees id p (prefix_of c) hs i) (octets_at p (first_place id p (prefix_of c)) o)

    by : (b : Bool) (c : Opcode) (f : Bool) → Given (first id (headers_of (pick b none (request_with c f p (read_headers p (prefix_of c))))))
    by true c f = tt
    by false c f = with_headers_lem c f (read_headers p (prefix_of c)) refl

    go : (b : Maybe FirstByte) → Given (first id (headers_of (request_by b p)))
    go None = tt
    go (Some b) = by (ltb (length p) (prefix_of b.opcode)) b.opcode b.is_final

-- ---- between two packets, without the bytes of one that has begun

pub record Ready (s : State) (x : Stores) (j : Journal) (n : Naming) : Type 0 where
  pub going : s.ended ≡ false
  pub number : s.number ≡ 0
  pub alive : j.ended ≡ false
  pub fixed : Fixed s.settings s.peer x.tables j.settings j.standing n.openings
  pub does : Does s.settings.limit s.opened s.gathered s.last x.headers x.body j.opened j.last
  pub target : target_bytes s.target ≡ n.under
  pub room : 65535 ≤ length x.packet

-- no byte of a packet has come
pub none-begun : (p : List ℕ) → 65535 ≤ length p → Begins 0 p []
unfolding frame_end
none-begun p h = record { is = refl; frame = refl; few = omega arith; octets = λ k. omega arith; room = h }

-- a Put packet decides nothing for the host's reply
put_last : (o : Opcode) (h : Heading) → same_opcode o op.Put ≡ true → last_by o h ≡ last.Other
unfolding same_opcode
put_last op.Connect h e = absurd (false≢true e)
put_last op.Disconnect h e = absurd (false≢true e)
put_last op.Put h e = refl
put_last op.Get h e = refl
put_last op.SetPath h e = refl
put_last op.Action h e = refl
put_last op.Session h e = refl
put_last op.Abort h e = refl
put_last (op.UserDefined v) h e = refl

not_connect : (o : Opcode) → same_opcode o op.Put ≡ true → same_opcode o op.Connect ≡ false
unfolding same_opcode
not_connect op.Connect e = absurd (false≢true e)
not_connect op.Disconnect e = refl
not_connect op.Put e = refl
not_connect op.Get e = refl
not_connect op.SetPath e = refl
not_connect op.Action e = refl
not_connect op.Session e = refl
not_connect op.Abort e = refl
not_connect (op.UserDefined v) e = refl

module _ (s : State) (x : Stores) (j : Journal) (n : Naming) (w : Ready s x j n) (r : Request) (given : Given (first 0x46 r.headers)) where
  abbrev ids : List ℕ
  ids = ids_of s.peer x.tables

  abbrev hd : Heading
  hd = heading_of r ids x.tables

  abbrev lim : ℕ
  lim = s.settings.limit

  ids_are : j.standing.ids ≡ ids
  ids_are = ap (λ (y : Standing). y.ids) w.fixed.standing

  busy_is : busy j.opened ≡ is_busy s.opened
  busy_is = busy-same lim s.opened s.gathered s.last x.headers x.body j.opened w.does.opened

  -- ---- the Target that the packet goes under

  under_id_lem : target_bytes hd.under ≡ under_id n.openings j.standing.ids (first 0xCB r.headers)
  unfolding survey_of link_by
  under_id_lem = rw ids_are (go (first 0xCB r.headers))
    where
      carried : Carried x.tables ids n.openings
      carried = subst (λ (l : List ℕ). Carried x.tables l n.openings) ids_are w.fixed.carried

      by : (id : ℕ) (b : Bool) → member id ids ≡ b
          → target_bytes (link_by true id ids x.tables).under ≡ pick (member id ids) (target_of id n.openings) none
      by id true m = rw m (carried id m)
      by id false m = rw m unnamed-bytes

      go : (v : Option (List ℕ)) → target_bytes (link_by (present v) (id_of v) ids x.tables).under ≡ under_id n.openings ids v
      go none = unnamed-bytes
      go (some v) = by (be32 v 0) (member (be32 v 0) ids) refl

  under-after : target_bytes (target_after s hd) ≡ (packet_names (some r) j n).under
  unfolding target_after
  under-after = rw busy_is (go (marked_by r.opcode) (is_busy s.opened))
    where
      go : (a b : Bool)
          → target_bytes (pick a unnamed (pick b s.target hd.under))
          ≡ pick a none (pick b n.under (under_id n.openings j.standing.ids (first 0xCB r.headers)))
      go true b = unnamed-bytes
      go false true = w.target
      go false false = under_id_lem

  -- ---- what the packet leaves for the host's reply

  named_is : hd.named ≡ id_in (first 0xCB r.headers)
  unfolding survey_of link_by
  named_is = go (first 0xCB r.headers)
    where
      by : (id : ℕ) (b : Bool) → member id ids ≡ b → (link_by true id ids x.tables).named ≡ (link_by true id [] []).named
      by id true m = rw m refl
      by id false m = rw m refl

      go : (v : Option (List ℕ)) → (link_by (present v) (id_of v) ids x.tables).named ≡ id_in v
      go none = refl
      go (some v) = by (be32 v 0) (member (be32 v 0) ids) refl

  last_is : last_by r.opcode hd ≡ last_in (some r)
  unfolding survey_of
  last_is = go r.opcode
    where
      go : (o : Opcode) → last_by o hd ≡ last_of o r.headers
      go op.Connect = refl
      go op.Disconnect = ap last.Disconnect named_is
      go op.Put = refl
      go op.Get = refl
      go op.SetPath = refl
      go op.Action = refl
      go op.Session = refl
      go op.Abort = refl
      go (op.UserDefined v) = refl

  -- ---- the peer after the packet

  same-peer : same_opcode r.opcode op.Connect ≡ false → s.peer ≡ peer_after s hd
  unfolding peer_after
  same-peer e = on_false (same_opcode r.opcode op.Connect) _ _ e

  busy-peer : is_busy s.opened ≡ true → s.peer ≡ peer_after s hd
  unfolding peer_after
  busy-peer e = go (same_opcode r.opcode op.Connect)
    where
      go : (b : Bool) → s.peer ≡ pick b (pick (is_busy s.opened) s.peer (pick (stopped_in s hd) (checked_peer s.peer false) s.peer))
          s.peer
      go true = on_true (is_busy s.opened) _ _ e
      go false = refl

  fixed_same : s.peer ≡ peer_after s hd → Fixed s.settings (peer_after s hd) x.tables j.settings j.standing n.openings
  fixed_same e = subst (λ (p : Peer). Fixed s.settings p x.tables j.settings j.standing n.openings) e w.fixed

  -- ---- a packet that leaves `o` open and `g` gathered

  module _ (o : Open) (y : Opened) (g : Gathered) (h b : List ℕ) (e : OpenedAs lim o g (last_by r.opcode hd) h b y)
      (kept : g.kept ≤ 65535) (within : g.body ≤ lim) (hr : 65535 ≤ length h) (br : lim ≤ length b)
      (sd : Standing) (f : Fixed s.settings (peer_after s hd) x.tables j.settings sd n.openings) where
    moved-live : (handed : Bool)
        → Live (after_packet s hd o g handed) (record { packet = x.packet; headers = h; body = b; tables = x.tables })
        (after (stands j sd) (some r) y)
        (packet_names (some r) j n)
    unfolding state_with
    moved-live handed =
        record {
          going = w.going;
          number = w.number;
          alive = w.alive;
          fixed = f;
          begins = none-begun x.packet w.room;
          does = record { opened = e; last = last_is; given = given; kept = kept; within = within; headers = hr; body = br };
          target = under-after;
        }

    moved-next : Next (held (after_packet s hd o g false) (record { packet = x.packet; headers = h; body = b; tables = x.tables }))
        (unchanged (after (stands j sd) (some r) y)) (packet_names (some r) j n)
    unfolding state_with
    moved-next = record { given = refl; after = live (moved-live false) }

  -- nothing is gathered by it
  becomes : (o : Open) (y : Opened) → OpenedAs lim o s.gathered (last_by r.opcode hd) x.headers x.body y
      → (sd : Standing) → Fixed s.settings (peer_after s hd) x.tables j.settings sd n.openings
      → Next (held (after_packet s hd o s.gathered false) x) (unchanged (after (stands j sd) (some r) y)) (packet_names (some r) j n)
  becomes o y e sd f =
      moved-next o y s.gathered x.headers x.body e w.does.kept w.does.within w.does.headers w.does.body sd f

  -- another operation: both end
  stops : Next (held (ended_with s 0) x) (stopped j) (packet_names (some r) j n)
  unfolding state_with
  stops = record { given = refl; after = over refl (λ z. omega (arith, z)) refl }

  -- ---- what the journal asks of the standing and the settings

  abbrev Names : Naming
  Names = packet_names (some r) j n

  limit_is : j.settings.limit ≡ lim
  limit_is = ap (λ (y : JournalSettings). y.limit) w.fixed.settings

  srm_is : j.standing.srm ≡ s.peer.srm_enabled
  srm_is = ap (λ (y : Standing). y.srm) w.fixed.standing

  unknown_is : not_open j.standing.ids (first 0xCB r.headers) ≡ hd.unknown
  unfolding survey_of link_by
  unknown_is = rw ids_are (go (first 0xCB r.headers))
    where
      by : (id : ℕ) (b : Bool) → member id ids ≡ b → not (member id ids) ≡ (link_by true id ids x.tables).unknown
      by id true m = rw m refl
      by id false m = rw m refl

      go : (v : Option (List ℕ)) → not_open ids v ≡ (link_by (present v) (id_of v) ids x.tables).unknown
      go none = refl
      go (some v) = by (be32 v 0) (member (be32 v 0) ids) refl

  admitted_is : admitted j.settings j.standing r ≡ admitted_in s hd
  unfolding admitted unauthorized admitted_in
  admitted_is =
      rw (
        unknown_is,
        ap (λ (y : JournalSettings). y.authentication) w.fixed.settings,
        ap (λ (y : Standing). y.authenticated) w.fixed.standing,
      ) refl

  srm-next : (j.standing.srm || asks_srm j.settings r.headers) ≡ (s.peer.srm_enabled || (s.settings.srm && hd.enable))
  unfolding asks_srm survey_of
  srm-next = rw (srm_is, ap (λ (y : JournalSettings). y.srm) w.fixed.settings) refl

  stopped_is : is_stopped j.settings j.standing r ≡ stopped_in s hd
  unfolding is_stopped
  stopped_is =
      rw (
        ap (λ (y : JournalSettings). y.authentication) w.fixed.settings,
        ap (λ (y : Standing). too_many_of y.checks) w.fixed.standing ∙ sym (too_many s.peer w.fixed.past w.fixed.window),
      ) refl

  -- ---- a packet of a Put

  abbrev Put : Record → Type 0
  Put c = length (c.headers ++ (carried_by r.headers).headers) ≤ 65535

  abbrev held_of : Step → Held
  held_of y = held y.state (record { packet = x.packet; headers = y.headers; body = y.body; tables = x.tables })

  module _ (F : Type 0) (begun : Gathered) (srm next : Bool) (c : Record) (a : PutAgrees lim (gatheringOf begun x.headers x.body) c)
      (fitting : F → Put c) (put : same_opcode r.opcode op.Put ≡ true) where
    abbrev all : Record
    all = joined c (carried_by r.headers)

    abbrev got : Gathering
    got = gather_all keep.Put lim r.headers (gatheringOf begun x.headers x.body)

    abbrev stores : Stores
    stores = record { packet = x.packet; headers = got.headers; body = got.body; tables = x.tables }

    same : Fixed s.settings (peer_after s hd) x.tables j.settings j.standing n.openings
    same = fixed_same (same-peer (not_connect r.opcode put))

    within_is : (u : Bool) → got.got.over ≡ u → PutAgrees lim got all → leb (size_of all) j.settings.limit ≡ not u
    within_is true e g = rw limit_is (lt-leb (size_of all) lim (ltb-true lim (size_of all) (sym g.over ∙ e)))
    within_is false e g = rw limit_is (le-leb (size_of all) lim (ltb-false lim (size_of all) (sym g.over ∙ e)))

    module _ (g : PutAgrees lim got all) where
      live-after : (o : Open) (y : Opened) → OpenedAs lim o got.got (last_by r.opcode hd) got.headers got.body y → (handed : Bool)
          → Live (after_packet s hd o got.got handed) stores (after j (some r) y) Names
      live-after o y e handed =
          moved-live o y got.got got.headers got.body e g.kept-room g.body-within g.room g.body-room j.standing same handed

      final-next : (u : Bool) → got.got.over ≡ u
          → Next (held (after_packet s hd Nothing got.got (not u)) stores)
          (record { next = after j (some r) nothing; given = pick (not u) (all ∷ []) []; number = none }) Names
      unfolding state_with
      final-next true e = record { given = refl; after = live (live-after Nothing nothing refl false) }
      final-next false e =
          record {
            given = ap₂ (λ (y : Record) (t : Option (List ℕ)). record { given = y; target = t } ∷ [])
                (ap₂ (λ (h : List ℕ) (b : Option (List ℕ)). record { headers = h; body = b }) (sym g.headers) (sym (g.body e).1)) under-after;
            after = live (live-after Nothing nothing refl true);
          }

      open_after : (u m v : Bool) → (u ≡ false → Unit {0})
          → OpenedAs lim (pick (not u || m) (Putting next) (pick v Trailing Nothing)) got.got (last_by r.opcode hd) got.headers got.body
          (pick (not u || m) (putting all next) (pick v trailing nothing))
      open_after true true v h = record { carries = all; is = refl; agrees = g }
      open_after true false true h = (refl, put_last r.opcode hd put)
      open_after true false false h = refl
      open_after false m v h = record { carries = all; is = refl; agrees = g }

      more-next : (u : Bool) → got.got.over ≡ u
          → Next (held (after_packet s hd (put_open s u srm next) got.got false) stores)
          (unchanged (after j (some r) (pick (not u || srm) (putting all next) (pick s.settings.refuses trailing nothing)))) Names
      unfolding state_with
      more-next u e = record { given = refl; after = live (live-after _ _ (open_after u srm s.settings.refuses (λ i. tt)) false) }

      fits_next : (t u : Bool) → r.final ≡ t → got.got.over ≡ u → Next (held_of (put_step s hd srm next got)) (put_read j r srm next all) Names
      unfolding put_state put_read
      fits_next true u f e =
          next_as
          (ap (λ (y : State). held y stores)
          (ap (λ (z : Bool). after_packet s hd Nothing got.got (not z)) (sym e) ∙ on_true r.final _ _ f
          ∙ on_false got.got.full _ _ g.full))
          (ap (λ (z : Bool). record { next = after j (some r) nothing; given = pick z (all ∷ []) []; number = none }) (sym (within_is u e g))
          ∙ on_true r.final _ _ f)
          refl (final-next u e)
      fits_next false u f e =
          next_as
          (ap (λ (y : State). held y stores)
          (ap (λ (z : Bool). after_packet s hd (put_open s z srm next) got.got false) (sym e) ∙ on_false r.final _ _ f
          ∙ on_false got.got.full _ _ g.full))
          (ap₂ (λ (z : Bool) (v : Bool). unchanged (after j (some r) (pick (z || srm) (putting all next) (pick v trailing nothing))))
          (sym (within_is u e g))
          (sym (ap (λ (y : JournalSettings). y.refuses) w.fixed.settings))
          ∙ on_false r.final _ _ f)
          refl (more-next u e)

    pub put-came : Came F (held_of (put_step s hd srm next got)) (put_read j r srm next all) Names
    unfolding put_state state_with
    put-came = go (ltb 65535 (length (c.headers ++ (carried_by r.headers).headers))) refl
      where
        go : (t : Bool) → ltb 65535 (length (c.headers ++ (carried_by r.headers).headers)) ≡ t
            → Came F (held_of (put_step s hd srm next got)) (put_read j r srm next all) Names
        go true i =
            let l = ltb-true 65535 (length (c.headers ++ (carried_by r.headers).headers)) i in
            subst (λ (y : State). Came F (held y stores) (put_read j r srm next all) Names)
            (on_true got.got.full (ended_with s 6) _ (put_full lim r.headers (gatheringOf begun x.headers x.body) c a l))
            (full refl refl (λ z. let q = fitting z in omega arith))
        go false i =
            goes (fits_next (put-agrees lim r.headers (gatheringOf begun x.headers x.body) c a
            (ltb-false 65535 (length (c.headers ++ (carried_by r.headers).headers)) i))
            r.final got.got.over refl refl)

  -- ---- with nothing open

  abbrev Fits : Type 0
  Fits = length (put_kept j.opened r) ≤ 65535

  plainly : (o : Opcode) → r.opcode ≡ o → same_opcode o op.Connect ≡ false
      → Fixed s.settings (peer_after s hd) x.tables j.settings j.standing n.openings
  plainly o e i = fixed_same (same-peer (ap (λ (y : Opcode). same_opcode y op.Connect) e ∙ i))

  -- nothing is open after it
  closes : (o : Opcode) → r.opcode ≡ o → same_opcode o op.Connect ≡ false
      → Next (held (after_packet s hd Nothing s.gathered false) x) (dropped j r) Names
  closes o e i = becomes Nothing nothing refl j.standing (plainly o e i)

  turned : (o : Opcode) → r.opcode ≡ o → same_opcode o op.Connect ≡ false
      → Next (held (after_packet s hd (turned_open s hd) s.gathered false) x) (turned_away j r) Names
  unfolding turned_open
  turned o e i =
      next_as refl (ap (λ (b : Bool). unchanged (after j (some r) (pick (b && not r.final) draining nothing))) (sym srm_is)) refl
      (go (s.peer.srm_enabled && not r.final))
    where
      go : (b : Bool)
          → Next (held (after_packet s hd (pick b Draining Nothing) s.gathered false) x)
          (unchanged (after j (some r) (pick b draining nothing))) Names
      go true = becomes Draining draining refl j.standing (plainly o e i)
      go false = becomes Nothing nothing refl j.standing (plainly o e i)

  gathers : (o : Opcode) (k : List ℕ) → Fixed s.settings (peer_after s hd) x.tables j.settings j.standing n.openings → (b : Bool)
      → Next (held (after_packet s hd (pick b Nothing (GatheringOpen o)) s.gathered false) x)
      (unchanged (after j (some r) (pick b nothing (gathering o k)))) Names
  gathers o k f true = becomes Nothing nothing refl j.standing f
  gathers o k f false = becomes (GatheringOpen o) (gathering o k) (record { keeps = k; is = refl }) j.standing f

  -- a Connect joins the checks if it is stopped
  connects : is_busy s.opened ≡ false → r.opcode ≡ op.Connect
      → Next (held (after_packet s hd Nothing s.gathered false) x) (connect_read j r) Names
  unfolding peer_after same_opcode peer_with
  connects i e = becomes Nothing nothing refl _ (subst (λ (b : Bool). Fixed s.settings (peer_after s hd) x.tables j.settings
      (pick b (with_check j.standing stop) j.standing) n.openings) (sym stopped_is) (go (stopped_in s hd) refl))
    where
      peer : (b : Bool) → stopped_in s hd ≡ b → pick b (checked_peer s.peer false) s.peer ≡ peer_after s hd
      peer b q =
          ap (λ (y : Bool). pick y (checked_peer s.peer false) s.peer) (sym q) ∙ on_false (is_busy s.opened) _ _ i
          ∙ on_true (same_opcode r.opcode op.Connect) _ _ (ap (λ (y : Opcode). same_opcode y op.Connect) e)

      go : (b : Bool) → stopped_in s hd ≡ b
          → Fixed s.settings (peer_after s hd) x.tables j.settings (pick b (with_check j.standing stop) j.standing) n.openings
      go false q = fixed_same (peer false q)
      go true q =
          subst (λ (p : Peer). Fixed s.settings p x.tables j.settings (with_check j.standing stop) n.openings) (peer true q)
          (record {
            demands = w.fixed.demands;
            settings = w.fixed.settings;
            past = stop ∷ w.fixed.past;
            standing = ap (λ (y : Standing). with_check y stop) w.fixed.standing ∙ sym (stopped-standing s.peer x.tables w.fixed.past);
            window = checked_window s.peer w.fixed.past stop w.fixed.window;
            fits = checked (checked-fits s.peer false w.fixed.fits);
            carried = w.fixed.carried;
            room = w.fixed.room;
          })
        where
          checked : PeerFits s.peer.nonces (checked_peer s.peer false)
              → PeerFits (checked_peer s.peer false).nonces (checked_peer s.peer false)
          checked f = f

  abbrev Goes : Route → Entry → Type 0
  Goes v e = Came Fits (held_of (act_step v s hd r.headers x.headers x.body)) e Names

  -- what the journal keeps of a Put's headers, with nothing open
  module _ (idle : put_kept j.opened r ≡ (carried_by r.headers).headers) (calm : is_busy s.opened ≡ false) where
    first-put : r.opcode ≡ op.Put
        → Goes (way.Put true s.peer.srm_enabled (s.peer.srm_enabled || (s.settings.srm && hd.enable)))
        (put_read j r j.standing.srm (j.standing.srm || asks_srm j.settings r.headers) (carried_by r.headers))
    unfolding same_opcode
    first-put e =
        let on = s.peer.srm_enabled in
        let next = on || (s.settings.srm && hd.enable) in
        subst (λ (b : Bool). Goes (way.Put true on next)
        (put_read j r b (j.standing.srm || asks_srm j.settings r.headers) (carried_by r.headers))) (sym srm_is)
        (subst (λ (b : Bool). Goes (way.Put true on next) (put_read j r on b (carried_by r.headers))) (sym srm-next)
        (put-came Fits nothing_gathered on next bare
        (put-begins lim x.headers x.body w.does.headers w.does.body)
        (λ f. subst (λ (l : List ℕ). length l ≤ 65535) idle f) (ap (λ (y : Opcode). same_opcode y op.Put) e)))

    first_goes : (o : Opcode) → r.opcode ≡ o → (b : Bool) → admitted j.settings j.standing r ≡ b
        → Goes (pick b (admitted_route o s hd) (way.Become (turned_by o s hd))) (first_read o j r)
    unfolding first_read same_opcode
    first_goes op.Connect e true i = goes (connects calm e)
    first_goes op.Connect e false i = goes (connects calm e)
    first_goes op.Disconnect e true i = goes (closes op.Disconnect e refl)
    first_goes op.Disconnect e false i = goes (closes op.Disconnect e refl)
    first_goes op.SetPath e true i = goes (closes op.SetPath e refl)
    first_goes op.SetPath e false i = goes (closes op.SetPath e refl)
    first_goes op.Abort e true i = goes (closes op.Abort e refl)
    first_goes op.Abort e false i = goes (closes op.Abort e refl)
    first_goes op.Put e true i = rw i (first-put e)
    first_goes op.Put e false i = rw i (goes (turned op.Put e refl))
    first_goes op.Get e true i =
        rw i (goes (becomes Getting (getting (kept_by_get r.headers)) (record { keeps = kept_by_get r.headers; is = refl }) j.standing
        (plainly op.Get e refl)))
    first_goes op.Get e false i = rw i (goes (turned op.Get e refl))
    first_goes op.Action e true i = rw i (goes (gathers op.Action _ (plainly op.Action e refl) r.final))
    first_goes op.Action e false i = rw i (goes (closes op.Action e refl))
    first_goes op.Session e true i = rw i (goes (gathers op.Session _ (plainly op.Session e refl) r.final))
    first_goes op.Session e false i = rw i (goes (closes op.Session e refl))
    first_goes (op.UserDefined v) e true i = rw i (goes (gathers (op.UserDefined v) _ (plainly (op.UserDefined v) e refl) r.final))
    first_goes (op.UserDefined v) e false i = rw i (goes (closes (op.UserDefined v) e refl))

    first-came : Goes (first_route s hd) (first_read r.opcode j r)
    unfolding first_route
    first-came = rw (sym admitted_is) (first_goes r.opcode refl (admitted j.settings j.standing r) refl)

  -- ---- by what is open

  interrupted : (o : Opcode) (v : Route) (e : Entry) → is_busy s.opened ≡ true
      → (same_opcode r.opcode o ≡ true → Goes v e)
      → Goes (pick (same_opcode r.opcode o) v way.Stop) (pick (same_opcode r.opcode o) e (stopped j))
  interrupted o v e i f = go (same_opcode r.opcode o) refl
    where
      go : (b : Bool) → same_opcode r.opcode o ≡ b → Goes (pick b v way.Stop) (pick b e (stopped j))
      go true q = f q
      go false q = goes stops

  stays : is_busy s.opened ≡ true → Fixed s.settings (peer_after s hd) x.tables j.settings j.standing n.openings
  stays i = fixed_same (busy-peer i)

  inside : (o : Open) → s.opened ≡ o → (y : Opened) → j.opened ≡ y → OpenedAs lim o s.gathered s.last x.headers x.body y
      → Goes (inside_route o s hd) (request_read y j r)
  unfolding trails trailing_route
  inside Nothing e y i z =
      subst (λ (k : Opened). Goes (first_route s hd) (request_read k j r)) (sym z)
      (first-came (ap (λ (k : Opened). put_kept k r) (i ∙ z)) (ap (λ (k : Open). is_busy k) e))
  inside Trailing e y i z = subst (λ (k : Opened). Goes (trailing_route s hd) (request_read k j r)) (sym z.0) (go (trails_in hd) refl)
    where
      after-put : (b : Bool) → trails_in hd ≡ true
          → Next (held (after_packet s hd (pick b Nothing Trailing) s.gathered false) x)
          (unchanged (after j (some r) (pick b nothing trailing))) Names
      after-put b q = by b
        where
          and_first : (a c : Bool) → (a && c) ≡ true → a ≡ true
          and_first true c k = refl
          and_first false c k = absurd (false≢true k)

          put : same_opcode r.opcode op.Put ≡ true
          put = and_first (same_opcode r.opcode op.Put) (not hd.has_name) q

          f : Fixed s.settings (peer_after s hd) x.tables j.settings j.standing n.openings
          f = fixed_same (same-peer (not_connect r.opcode put))

          by : (b : Bool)
              → Next (held (after_packet s hd (pick b Nothing Trailing) s.gathered false) x)
              (unchanged (after j (some r) (pick b nothing trailing))) Names
          by true = becomes Nothing nothing refl j.standing f
          by false = becomes Trailing trailing (refl, put_last r.opcode hd put) j.standing f

      go : (b : Bool) → trails_in hd ≡ b
          → Goes (pick b (way.Become (pick hd.is_final Nothing Trailing)) (first_route s hd))
          (pick b (unchanged (after j (some r) (pick r.final nothing trailing))) (first_read r.opcode j r))
      go true q = goes (after-put r.final q)
      go false q = (first-came (ap (λ (k : Opened). put_kept k r) (i ∙ z.0)) (ap (λ (k : Open). is_busy k) e))
  inside (Putting m) e y i z =
      subst (λ (k : Opened). Goes (inside_route (Putting m) s hd) (request_read k j r)) (sym z.is)
      (interrupted op.Put _ _ (ap (λ (k : Open). is_busy k) e)
      (λ q. put-came Fits s.gathered m m z.carries z.agrees
      (λ f. subst (λ (k : Opened). length (put_kept k r) ≤ 65535) (i ∙ z.is) f) q))
  inside Getting e y i z =
      subst (λ (k : Opened). Goes (inside_route Getting s hd) (request_read k j r)) (sym z.is)
      (interrupted op.Get _ _ (ap (λ (k : Open). is_busy k) e)
      (λ q. goes (becomes Getting (getting (z.keeps ++ kept_by_get r.headers))
      (record { keeps = z.keeps ++ kept_by_get r.headers; is = refl }) j.standing
      (stays (ap (λ (k : Open). is_busy k) e)))))
  inside Sending e y i z =
      subst (λ (k : Opened). Goes (inside_route Sending s hd) (request_read k j r)) (sym z)
      (interrupted op.Get _ _ (ap (λ (k : Open). is_busy k) e)
      (λ q. goes (becomes Sending sending refl j.standing (stays (ap (λ (k : Open). is_busy k) e)))))
  inside (GatheringOpen o) e y i z =
      subst (λ (k : Opened). Goes (inside_route (GatheringOpen o) s hd) (request_read k j r)) (sym z.is)
      (interrupted o _ _ (ap (λ (k : Open). is_busy k) e) (λ q. goes (gathers o _ (stays (ap (λ (k : Open). is_busy k) e)) r.final)))
  inside Draining e y i z =
      subst (λ (k : Opened). Goes (inside_route Draining s hd) (request_read k j r)) (sym z) (goes (drains r.final))
    where
      drains : (b : Bool)
          → Next (held (after_packet s hd (pick b Nothing Draining) s.gathered false) x)
          (unchanged (after j (some r) (pick b nothing draining))) Names
      drains true = becomes Nothing nothing refl j.standing (stays (ap (λ (k : Open). is_busy k) e))
      drains false = becomes Draining draining refl j.standing (stays (ap (λ (k : Open). is_busy k) e))

  abort_plain : (o : Opcode) → same_opcode o op.Abort ≡ true → same_opcode o op.Connect ≡ false
  unfolding same_opcode
  abort_plain op.Connect e = absurd (false≢true e)
  abort_plain op.Disconnect e = refl
  abort_plain op.Put e = refl
  abort_plain op.Get e = refl
  abort_plain op.SetPath e = refl
  abort_plain op.Action e = refl
  abort_plain op.Session e = refl
  abort_plain op.Abort e = refl
  abort_plain (op.UserDefined v) e = refl

  pub request-came : Goes (heading_route s hd) (packet_read (some r) j)
  unfolding heading_route
  request-came = go (same_opcode r.opcode op.Abort) refl
    where
      go : (b : Bool) → same_opcode r.opcode op.Abort ≡ b
          → Goes (pick b (way.Become Nothing) (inside_route s.opened s hd)) (pick b (dropped j r) (request_read j.opened j r))
      go true q = goes (becomes Nothing nothing refl j.standing (fixed_same (same-peer (abort_plain r.opcode q))))
      go false q = inside s.opened refl j.opened refl w.does.opened

-- ---- a packet, readable or not

pub packet-came : (s : State) (x : Stores) (j : Journal) (n : Naming) → Ready s x j n → (q : List ℕ) → Octets q → (r : Option Request)
    → request_of q ≡ r
    → Came (length (kept_in j.opened r) ≤ 65535)
    (held (request_step r s x.tables x.headers x.body).state
    (record {
      packet = x.packet;
      headers = (request_step r s x.tables x.headers x.body).headers;
      body = (request_step r s x.tables
          x.headers x.body).body;
      tables = x.tables;
    }))
    (packet_read r j) (packet_names r j n)
unfolding state_with first
packet-came s x j n w q o (some r) e =
    request-came s x j n w r (subst (λ (y : Option Request). Given (first 0x46 (headers_of y))) e (request-given q 0x46 o))
packet-came s x j n w q o none e = goes (go (is_busy s.opened) refl)
  where
    lim : ℕ
    lim = s.settings.limit

    busy_is : busy j.opened ≡ is_busy s.opened
    busy_is = busy-same lim s.opened s.gathered s.last x.headers x.body j.opened w.does.opened

    opened : (k : Open) → OpenedAs lim k s.gathered s.last x.headers x.body j.opened
        → OpenedAs lim k s.gathered last.Other x.headers x.body j.opened
    opened Nothing z = z
    opened Trailing z = (z.0, refl)
    opened (Putting m) z = z
    opened Getting z = z
    opened Sending z = z
    opened (GatheringOpen c) z = z
    opened Draining z = z

    go : (b : Bool) → is_busy s.opened ≡ b
        → Next (held (unreadable_state s) x) (pick (busy j.opened) (ends_with 4 j) (unchanged (after j none j.opened))) n
    go true i =
        next_as (ap (λ (y : State). held y x) (on_true (is_busy s.opened) _ _ i)) (on_true (busy j.opened) _ _ (busy_is ∙ i)) refl
        (record { given = refl; after = over refl (λ z. omega (arith, z)) refl })
    go false i =
        next_as (ap (λ (y : State). held y x) (on_false (is_busy s.opened) _ _ i)) (on_false (busy j.opened) _ _ (busy_is ∙ i)) refl
        (record {
          given = refl;
          after = live (record {
            going = w.going;
            number = w.number;
            alive = w.alive;
            fixed = w.fixed;
            begins = none-begun x.packet w.room;
            does = record {
              opened = opened s.opened w.does.opened;
              last = refl;
              given = tt;
              kept = w.does.kept;
              within = w.does.within;
              headers = w.does.headers;
              body = w.does.body;
            };
            target = w.target;
          });
        })
