-- The claims on a log: by induction over its entries, along the coupling of state, stores and journal. Assumes nothing.
use mathlib.Core.Path.{◌≡◌, refl, sym, ap, ap₂, ◌∙◌, subst}
use mathlib.Core.List.{List, [], ◌∷◌, ◌++◌}
use mathlib.Core.Bool.{Bool, true, false, ◌&&◌}
use mathlib.Core.Option.{some}
use Prim.Native.Nat.{ℕ, ◌≤◌}
use native.Mathlib.Omega.{arith}
use lib.ListN.{length, get_or}
use lib.Dec.{eqb}
use borrow.Author.Tests.{eqb-true}
use Rattle.packet.specs.Packet.{request_of}
use Rattle.packet.proofs.HeaderBytes.{Octets}
use Rattle.journal.specs.Record.{Record}
use Rattle.journal.specs.Journal.{Journal, Entry, fresh, unchanged, Read, more, whole, short, read_up, journal_packet, packet_read, bytes_read}
use Rattle.journal.specs.Checks.{window_of}
use Rattle.packet.specs.Header.{first}
use Rattle.journal.specs.Naming.{Naming, unnamed, packet_names, bytes_name}
use Rattle.incoming.specs.Frame.{Frames, framed}
use Rattle.incoming.specs.declared.frame.Frame.{Frame}
use Rattle.incoming.proofs.Frames.{Agrees, frames_agree}
use Rattle.table.proofs.Naming.{unnamed-bytes}
use Rattle.connection.specs.Peer.{peer_with}
use Rattle.connection.proofs.Carrying.{carried_none}
use Rattle.connection.proofs.Standings.{fresh-fits, own_fits}
use Rattle.filing.specs.Kinds.{entries_in, is_set, settings_in}
use Rattle.filing.specs.Entries.{LogEntry, received, sent, answered, object, checked, nonce, closed, ended, entry_step, names_step, Handed, handed_under, log_handed}
use Rattle.journal_code.specs.declared.state.Settings.{Settings}
use Rattle.journal_code.specs.declared.state.State.{State}
use Rattle.journal_code.specs.State.{state_with, quiet, ended_with, fresh_state, fits_in}
use Rattle.journal_code.specs.Receive.{Came as Arrived, packet_step, came, came_by, frame_step, received_step}
use Rattle.journal_code.specs.Answer.{Tabled, tabled, sent_state, object_state, checked_state, nonce_state, answered_step, closed_step, ended_state}
use Rattle.journal_code.specs.Run.{settings_of, Stores, Held, held, held_came, held_tabled, entry_done, handed_in, handed_from, state_after}
use Rattle.journal_code.specs.Claims.{Lent, AllOctets, kept_in, kept_by, KeptFits, AllKept, HandsAll, SixTold, settings_read, FramesAudited}
use Rattle.journal_code.proofs.Picks.{on_true, on_false}
use Rattle.journal_code.proofs.Coupling.{Live, Coupled, live, over, Next, Came, goes, full, has_room}
use Rattle.journal_code.proofs.Steps.{sent-next, object-next, checked-next, nonce-next, ended-next}
use Rattle.journal_code.proofs.Arrivals.{none-begun, packet-came}
use Rattle.journal_code.proofs.Replies.{answered-next, closed-next}

-- ---- bytes from the peer

came_as : {F : Type 0} {h k : Held} {e f : Entry} {n m : Naming} → h ≡ k → e ≡ f → n ≡ m → Came F h e n → Came F k f m
came_as {F} {h} {k} {e} {f} {n} {m} p q r w =
    subst (λ (y : Held). Came F y f m) p (subst (λ (y : Entry). Came F h y m) q (subst (λ (y : Naming). Came F h e y) r w))

module _ (s : State) (x : Stores) (j : Journal) (n : Naming) (w : Live s x j n) (i : List ℕ) (oi : Octets i) where
  abbrev frames : Frames
  frames = framed x.packet s.begun 0 i

  abbrev by_frame : Frame → Held
  by_frame f = held_came (frame_step f frames s x.tables x.headers x.body) x.tables

  agrees : Agrees x.packet frames (read_up j.begun i)
  agrees =
      subst (λ (q : List ℕ). Agrees x.packet frames (read_up q i)) (sym w.begins.is)
      (frames_agree x.packet i s.begun 0 w.begins.few w.begins.room w.begins.octets oi w.begins.frame)

  read-came : (r : Read) → Agrees x.packet frames r
      → Came (length (kept_by j.opened r) ≤ 65535) (by_frame frames.result.frame) (bytes_read j r) (bytes_name r j n)
  unfolding state_with journal_packet packet_step
  read-came (more q) a =
      came_as (ap by_frame (sym a.0)) refl refl
      (goes (record {
        given = refl;
        after = live (record {
          going = w.going;
          number = w.number;
          alive = w.alive;
          fixed = w.fixed;
          begins = record {
            is = a.1.bytes;
            frame = a.3;
            few = a.2;
            octets = subst Octets a.1.bytes a.1.octets;
            room = omega (arith, a.1.same_length, w.begins.room);
          };
          does = w.does;
          target = w.target;
        });
      }))
  read-came short a = came_as (ap by_frame (sym a.0)) refl refl (goes (record { given = refl; after = over refl (λ z. omega (arith, z)) refl }))
  read-came (whole q) a =
      came_as (ap by_frame (sym a.0)) refl refl
      (subst (λ (z : List ℕ). Came (length (kept_in j.opened (request_of q)) ≤ 65535)
      (held_came (came_by (packet_step s z x.tables x.headers x.body) frames.packet) x.tables) (packet_read (request_of q) j)
      (packet_names (request_of q) j n))
      a.1.bytes
      (packet-came s (record { packet = frames.packet; headers = x.headers; body = x.body; tables = x.tables }) j n
      (record {
        going = w.going;
        number = w.number;
        alive = w.alive;
        fixed = w.fixed;
        does = w.does;
        target = w.target;
        room = omega (arith, a.1.same_length, w.begins.room);
      })
      q a.1.octets (request_of q) refl))

  received-came : Came (KeptFits j (received i)) (entry_done s x (received i)) (entry_step j (received i)) (names_step j n (received i))
  unfolding received_step entry_step names_step
  received-came =
      came_as
      (ap (λ (y : Arrived). held_came y x.tables)
      (on_true (fits_in s (length x.packet) (length x.headers) (length x.body) (length x.tables)) _ _ (has_room s x j n w)
      ∙ on_false s.ended _ _ w.going))
      (on_false j.ended _ _ w.alive)
      (on_false j.ended _ _ w.alive)
      (read-came (read_up j.begun i) agrees)

-- ---- any entry

abbrev Octetic : LogEntry → Type 0
Octetic (received p) = Octets p
Octetic (sent b) = Unit {0}
Octetic (answered code hs) = Unit {0}
Octetic object = Unit {0}
Octetic (checked right) = Unit {0}
Octetic (nonce n) = Unit {0}
Octetic (closed l) = Unit {0}
Octetic ended = Unit {0}

octets_split : (e : LogEntry) (es : List LogEntry) → AllOctets (e ∷ es) → Octetic e × AllOctets es
octets_split (received p) es o = o
octets_split (sent b) es o = (tt, o)
octets_split (answered code hs) es o = (tt, o)
octets_split object es o = (tt, o)
octets_split (checked right) es o = (tt, o)
octets_split (nonce n) es o = (tt, o)
octets_split (closed l) es o = (tt, o)
octets_split ended es o = (tt, o)

live-came : (s : State) (x : Stores) (j : Journal) (n : Naming) → Live s x j n → (e : LogEntry) → Octetic e
    → Came (KeptFits j e) (entry_done s x e) (entry_step j e) (names_step j n e)
live-came s x j n w (received p) o = received-came s x j n w p o
live-came s x j n w (sent b) o = goes (sent-next s x j n w b)
live-came s x j n w (answered code hs) o = goes (answered-next s x j n w code hs)
live-came s x j n w object o = goes (object-next s x j n w)
live-came s x j n w (checked right) o = goes (checked-next s x j n w right)
live-came s x j n w (nonce z) o = goes (nonce-next s x j n w z)
live-came s x j n w (closed l) o = goes (closed-next s x j n w l)
live-came s x j n w ended o = goes (ended-next s x j n w)

-- ---- after the end

-- the state has ended, and stays so: nothing is handed over
record Still (s : State) (h : Held) : Type 0 where
  ended : h.state.ended ≡ true
  silent : handed_in h ≡ []
  number : (s.number ≡ 0 → ⊥) → h.state.number ≡ s.number
  fine : (s.number ≡ 6 → ⊥) → h.state.number ≡ 6 → ⊥

still-quiet : (s : State) (x : Stores) → s.ended ≡ true → Still s (held (quiet s) x)
unfolding state_with
still-quiet s x e = record { ended = e; silent = refl; number = λ z. refl; fine = λ f. f }

still_as : (s : State) (h k : Held) → h ≡ k → Still s h → Still s k
still_as s h k p w = subst (λ (y : Held). Still s y) p w

still-done : (s : State) (x : Stores) → s.ended ≡ true → (e : LogEntry) → Still s (entry_done s x e)
unfolding received_step answered_step closed_step sent_state object_state checked_state nonce_state ended_state state_with
still-done s x e (received p) =
    still_as s _ _ (ap (λ (y : Arrived). held_came y x.tables) (on_true s.ended (came (quiet s) x.packet x.headers x.body) _ e))
    (still-quiet s x e)
still-done s x e (sent b) = go (eqb s.number 0) refl
  where
    go : (t : Bool) → eqb s.number 0 ≡ t → Still s (held (sent_state s b) x)
    go true q =
        still_as s _ _ (ap (λ (y : State). held y x) (on_true (eqb s.number 0) (ended_with s 5) (quiet s) q ∙ on_true s.ended _ _ e))
        (record { ended = refl; silent = refl; number = λ z. absurd (z (eqb-true s.number 0 q)); fine = λ f z. omega (arith, z) })
    go false q =
        still_as s _ _ (ap (λ (y : State). held y x) (on_false (eqb s.number 0) (ended_with s 5) (quiet s) q ∙ on_true s.ended _ _ e))
        (still-quiet s x e)
still-done s x e (answered code hs) =
    still_as s _ _ (ap (λ (y : Tabled). held_tabled y x) (on_true s.ended (tabled (quiet s) x.tables) _ e)) (still-quiet s x e)
still-done s x e object = still_as s _ _ (ap (λ (y : State). held y x) (on_true s.ended (quiet s) _ e)) (still-quiet s x e)
still-done s x e (checked right) = still_as s _ _ (ap (λ (y : State). held y x) (on_true s.ended (quiet s) _ e)) (still-quiet s x e)
still-done s x e (nonce z) = still_as s _ _ (ap (λ (y : State). held y x) (on_true s.ended (quiet s) _ e)) (still-quiet s x e)
still-done s x e (closed l) =
    still_as s _ _ (ap (λ (y : Tabled). held_tabled y x) (on_true s.ended (tabled (quiet s) x.tables) _ e)) (still-quiet s x e)
still-done s x e ended = still_as s _ _ (ap (λ (y : State). held y x) (on_true s.ended (quiet s) _ e)) (still-quiet s x e)

-- so does the journal
record Ended (e : Entry) : Type 0 where
  given : e.given ≡ []
  next : e.next.ended ≡ true

journal-still : (j : Journal) → j.ended ≡ true → (e : LogEntry) → Ended (entry_step j e)
unfolding entry_step
journal-still j i (received p) = subst Ended (on_true j.ended (unchanged j) _ i) (record { given = refl; next = i })
journal-still j i (sent b) = subst Ended (on_true j.ended (record { next = j; given = []; number = some 5 }) _ i)
    (record { given = refl; next = i })
journal-still j i (answered code hs) = subst Ended (on_true j.ended (unchanged j) _ i) (record { given = refl; next = i })
journal-still j i object = subst Ended (on_true j.ended (unchanged j) _ i) (record { given = refl; next = i })
journal-still j i (checked right) = subst Ended (on_true j.ended (unchanged j) _ i) (record { given = refl; next = i })
journal-still j i (nonce z) = subst Ended (on_true j.ended (unchanged j) _ i) (record { given = refl; next = i })
journal-still j i (closed l) = subst Ended (on_true j.ended (unchanged j) _ i) (record { given = refl; next = i })
journal-still j i ended = subst Ended (on_true j.ended (unchanged j) _ i) (record { given = refl; next = i })

over-next : (s : State) (x : Stores) (j : Journal) (n : Naming) → s.ended ≡ true → (s.number ≡ 6 → ⊥) → j.ended ≡ true → (e : LogEntry)
    → Next (entry_done s x e) (entry_step j e) (names_step j n e)
over-next s x j n a f b e =
    let u = still-done s x a e in
    let v = journal-still j b e in
    record {
      given = u.silent ∙ sym (ap (λ (l : List Record). handed_under (names_step j n e).under l) v.given);
      after = over u.ended (u.fine f) v.next;
    }

-- ---- a whole log

-- 6 stays
six_stays : (s : State) (x : Stores) → s.ended ≡ true → s.number ≡ 6 → (es : List LogEntry) → (state_after s x es).number ≡ 6
six_stays s x e q [] = q
six_stays s x e q (y ∷ es) =
    let u = still-done s x e y in
    six_stays (entry_done s x y).state (entry_done s x y).stores u.ended
    (u.number (λ z. let k : ◌≡◌ {A = ℕ} 0 6 = sym z ∙ q in omega arith) ∙ q) es

-- what a log comes to
data Told (s : State) (x : Stores) (j : Journal) (n : Naming) (es : List LogEntry) : Type 0 where
  same : handed_from s x es ≡ log_handed j n es → (AllKept j es → (state_after s x es).number ≡ 6 → ⊥) → Told s x j n es
  six : (state_after s x es).number ≡ 6 → (AllKept j es → ⊥) → Told s x j n es

-- one entry more in front
told_on : (s : State) (x : Stores) (j : Journal) (n : Naming) (e : LogEntry) (es : List LogEntry)
    → Next (entry_done s x e) (entry_step j e) (names_step j n e)
    → Told (entry_done s x e).state (entry_done s x e).stores (entry_step j e).next (names_step j n e) es → Told s x j n (e ∷ es)
told_on s x j n e es w (same q f) = same (ap₂ (λ (a b : List Handed). a ++ b) w.given q) (λ k. f k.1)
told_on s x j n e es w (six q f) = six q (λ k. f k.1)

tells : (es : List LogEntry) (s : State) (x : Stores) (j : Journal) (n : Naming) → Coupled s x j n → AllOctets es → Told s x j n es
tells [] s x j n (live w) o = same refl (λ k z. let q : ◌≡◌ {A = ℕ} 0 6 = sym w.number ∙ z in omega arith)
tells [] s x j n (over a f b) o = same refl (λ k. f)
tells (e ∷ es) s x j n (over a f b) o =
    let w = over-next s x j n a f b e in
    told_on s x j n e es w (tells es _ _ _ _ w.after (octets_split e es o).1)
tells (e ∷ es) s x j n (live w) o =
    go (λ u. tells es (entry_done s x e).state (entry_done s x e).stores (entry_step j e).next (names_step j n e) u (octets_split e es o).1)
    (live-came s x j n w e (octets_split e es o).0)
  where
    go : (Coupled (entry_done s x e).state (entry_done s x e).stores (entry_step j e).next (names_step j n e)
        → Told (entry_done s x e).state (entry_done s x e).stores (entry_step j e).next (names_step j n e) es)
        → Came (KeptFits j e) (entry_done s x e) (entry_step j e) (names_step j n e) → Told s x j n (e ∷ es)
    go on (goes u) = told_on s x j n e es u (on u.after)
    go on (full a b f) = six (six_stays (entry_done s x e).state (entry_done s x e).stores a b es) (λ k. f k.0)

fresh-live : (st : Settings) (demands : Bool) (x : Stores) → Lent st.limit x → Live (fresh_state st) x (fresh (settings_of st demands)) unnamed
unfolding state_with peer_with window_of first
fresh-live st demands x r =
    record {
      going = refl;
      number = refl;
      alive = refl;
      fixed = record {
        demands = demands;
        settings = refl;
        past = [];
        standing = refl;
        window = refl;
        fits = own_fits fresh-fits;
        carried = carried_none x.tables [];
        room = r.tables;
      };
      begins = none-begun x.packet r.packet;
      does = record {
        opened = refl;
        last = refl;
        given = tt;
        kept = omega arith;
        within = omega arith;
        headers = r.headers;
        body = r.body;
      };
      target = unnamed-bytes;
    }

-- ---- the claims

pub hands_all : HandsAll
hands_all st demands x es r o f = go (tells es (fresh_state st) x (fresh (settings_of st demands)) unnamed (live (fresh-live st demands x r)) o)
  where
    go : Told (fresh_state st) x (fresh (settings_of st demands)) unnamed es
        → handed_from (fresh_state st) x es ≡ log_handed (fresh (settings_of st demands)) unnamed es
    go (same q g) = q
    go (six q g) = absurd (f q)

pub six_told : SixTold
six_told st demands x es r o k = go (tells es (fresh_state st) x (fresh (settings_of st demands)) unnamed (live (fresh-live st demands x r)) o)
  where
    go : Told (fresh_state st) x (fresh (settings_of st demands)) unnamed es → (state_after (fresh_state st) x es).number ≡ 6 → ⊥
    go (same q g) = g k
    go (six q g) = absurd (g k)

pub frames-audited : FramesAudited
unfolding settings_in
frames-audited c cs x r o f =
    let flags = get_or c.payload 10 0 in
    hands_all (settings_read c.payload) (is_set 16 flags && is_set 4 flags) x (entries_in cs) r o f
