-- Each entry that is no packet and no answer, with the state and the journal before it: what it leaves is what the journal enters. Assumes
-- nothing.
use mathlib.Core.Path.{◌≡◌, refl, sym, ap, ◌∙◌, subst}
use mathlib.Core.List.{List, ◌∷◌}
use mathlib.Core.Bool.{Bool, true, false}
use Prim.Native.Nat.{ℕ}
use native.Mathlib.Omega.{arith}
use lib.Dec.{eqb}
use Rattle.packet.specs.Codes.{sent_code}
use Rattle.packet.specs.ResponseCodes as response
use Rattle.journal.specs.Checks.{right, wrong}
use Rattle.journal.specs.Journal.{Standing, Opened, nothing, trailing, putting, getting, sending, gathering, draining, Journal, Entry, unchanged, opens, stands, ends_with, taken_at, object_sent, password_checked, challenged}
use Rattle.journal.specs.Naming.{Naming}
use Rattle.connection.specs.Peer.{peer_with, checked_peer, authenticated_peer}
use Rattle.connection.specs.declared.peer.Peer.{Peer}
use Rattle.connection.proofs.Standings.{checked-fits, verified-fits, checked_window, verified_window, wrong-standing, verified-standing}
use Rattle.filing.specs.Entries.{sent, object, checked, nonce, ended, entry_step, names_step}
use Rattle.journal_code.specs.declared.state.State.{State}
use Rattle.journal_code.specs.declared.state.Open.{Open}
use Rattle.journal_code.specs.declared.state.Open.TheVariants.{Nothing, Trailing, Putting, Getting, Sending, Gathering, Draining}
use Rattle.journal_code.specs.State.{state_with, quiet, ended_with, standing_by, opens_now}
use Rattle.journal_code.specs.Answer.{sent_object, sent_in, sent_state, object_in, object_state, checked_peers, checked_state, nonce_state, ended_state}
use Rattle.journal_code.specs.Run.{Stores, Held, held}
use Rattle.journal_code.proofs.Picks.{on_true, on_false}
use Rattle.journal_code.proofs.Coupling.{Fixed, OpenedAs, Live, live, over, Next}

-- the same under other names
pub next_as : {h k : Held} {e f : Entry} {n m : Naming} → h ≡ k → e ≡ f → n ≡ m → Next h e n → Next k f m
next_as {h} {k} {e} {f} {n} {m} p q r w =
    subst (λ (y : Held). Next y f m) p (subst (λ (y : Entry). Next h y m) q (subst (λ (y : Naming). Next h e y) r w))

-- the standing without a password
abbrev unauthenticated : Standing → Standing
unauthenticated s =
    record { authenticated = false; challenge = s.challenge; ids = s.ids; next = s.next; srm = s.srm; checks = s.checks }

module _ (s : State) (x : Stores) (j : Journal) (n : Naming) where
  -- both have ended
  pub end-next : (k m : ℕ) (l : Naming) → (k ≡ 6 → ⊥) → Next (held (ended_with s k) x) (ends_with m j) l
  unfolding state_with
  end-next k m l f = record { given = refl; after = over refl f refl }

  module _ (w : Live s x j n) where
    pub quiet_next : Next (held (quiet s) x) (unchanged j) n
    unfolding state_with
    quiet_next =
        record {
          given = refl;
          after = live (record {
            going = w.going;
            number = w.number;
            alive = w.alive;
            fixed = w.fixed;
            begins = w.begins;
            does = w.does;
            target = w.target;
          });
        }

    pub open_next : (o : Open) (y : Opened) → OpenedAs s.settings.limit o s.gathered s.last x.headers x.body y
        → Next (held (opens_now s o) x) (unchanged (opens j y)) n
    unfolding state_with
    open_next o y e =
        record {
          given = refl;
          after = live (record {
            going = w.going;
            number = w.number;
            alive = w.alive;
            fixed = w.fixed;
            begins = w.begins;
            does = record {
              opened = e;
              last = w.does.last;
              given = w.does.given;
              kept = w.does.kept;
              within = w.does.within;
              headers = w.does.headers;
              body = w.does.body;
            };
            target = w.target;
          });
        }

    -- the peer changes, and with it perhaps the table store and the Targets of the ids
    pub peer-next : (p : Peer) (t : List ℕ) (sd : Standing) (m : Naming) → Fixed s.settings p t j.settings sd m.openings
        → m.under ≡ n.under
        → Next (held (standing_by s p) (record { packet = x.packet; headers = x.headers; body = x.body; tables = t })) (unchanged (stands j sd)) m
    unfolding state_with
    peer-next p t sd m f u =
        record {
          given = refl;
          after = live (record {
            going = w.going;
            number = w.number;
            alive = w.alive;
            fixed = f;
            begins = w.begins;
            does = w.does;
            target = w.target ∙ sym u;
          });
        }

    -- ---- a reply was sent

    pub sent-next : (b : ℕ) → Next (held (sent_state s b) x) (entry_step j (sent b)) (names_step j n (sent b))
    unfolding sent_state sent_object entry_step names_step
    sent-next b = go s.opened refl w.does.opened
      where
        state : (o : Open) → s.opened ≡ o → sent_in o s b ≡ sent_state s b
        state o e = ap (λ (y : Open). sent_in y s b) (sym e) ∙ on_false s.ended _ _ w.going

        entry : (y : Opened) → j.opened ≡ y → unchanged (taken_at y j b) ≡ entry_step j (sent b)
        entry y e = ap (λ (z : Opened). unchanged (taken_at z j b)) (sym e) ∙ on_false j.ended _ _ w.alive

        still : (o : Open) (y : Opened) → s.opened ≡ o → j.opened ≡ y → sent_in o s b ≡ quiet s → taken_at y j b ≡ j
            → Next (held (sent_state s b) x) (entry_step j (sent b)) n
        still o y eo ey q r =
            next_as (ap (λ (z : State). held z x) (sym q ∙ state o eo)) (ap (λ (z : Journal). unchanged z) (sym r) ∙ entry y ey) refl quiet_next

        sends : (t : Bool) → eqb b (sent_code response.continue) ≡ t → s.opened ≡ Sending → j.opened ≡ sending
            → Next (held (sent_state s b) x) (entry_step j (sent b)) n
        sends true q e i =
            still Sending sending e i (sym (on_true (eqb b (sent_code response.continue)) _ _ q))
            (sym (on_true (eqb b (sent_code response.continue)) _ _ q))
        sends false q e i =
            next_as
            (ap (λ (z : State). held z x) (on_false (eqb b (sent_code response.continue)) _ _ q ∙ state Sending e))
            (ap (λ (z : Journal). unchanged z) (on_false (eqb b (sent_code response.continue)) j (opens j nothing) q) ∙ entry sending i)
            refl
            (open_next Nothing nothing refl)

        go : (o : Open) → s.opened ≡ o → OpenedAs s.settings.limit o s.gathered s.last x.headers x.body j.opened
            → Next (held (sent_state s b) x) (entry_step j (sent b)) n
        go Nothing e i = still Nothing nothing e i refl refl
        go Trailing e i = still Trailing trailing e i.0 refl refl
        go (Putting m) e i = still (Putting m) (putting i.carries m) e i.is refl refl
        go Getting e i = still Getting (getting i.keeps) e i.is refl refl
        go Sending e i = sends (eqb b (sent_code response.continue)) refl e i
        go (Gathering c) e i = still (Gathering c) (gathering c i.keeps) e i.is refl refl
        go Draining e i = still Draining draining e i refl refl

    -- ---- an object

    pub object-next : Next (held (object_state s) x) (entry_step j object) (names_step j n object)
    unfolding object_state entry_step names_step
    object-next = go s.opened refl w.does.opened
      where
        state : (o : Open) → s.opened ≡ o → object_in o s ≡ object_state s
        state o e = ap (λ (y : Open). object_in y s) (sym e) ∙ on_false s.ended _ _ w.going

        entry : (y : Opened) → j.opened ≡ y → unchanged (object_sent y j) ≡ entry_step j object
        entry y e = ap (λ (z : Opened). unchanged (object_sent z j)) (sym e) ∙ on_false j.ended _ _ w.alive

        still : (o : Open) (y : Opened) → s.opened ≡ o → j.opened ≡ y → object_in o s ≡ quiet s → object_sent y j ≡ j
            → Next (held (object_state s) x) (entry_step j object) n
        still o y eo ey q r =
            next_as (ap (λ (z : State). held z x) (sym q ∙ state o eo)) (ap (λ (z : Journal). unchanged z) (sym r) ∙ entry y ey) refl quiet_next

        go : (o : Open) → s.opened ≡ o → OpenedAs s.settings.limit o s.gathered s.last x.headers x.body j.opened
            → Next (held (object_state s) x) (entry_step j object) n
        go Nothing e i = still Nothing nothing e i refl refl
        go Trailing e i = still Trailing trailing e i.0 refl refl
        go (Putting m) e i = still (Putting m) (putting i.carries m) e i.is refl refl
        go Getting e i =
            next_as (ap (λ (z : State). held z x) (state Getting e)) (entry (getting i.keeps) i.is) refl (open_next Sending sending refl)
        go Sending e i = still Sending sending e i refl refl
        go (Gathering c) e i = still (Gathering c) (gathering c i.keeps) e i.is refl refl
        go Draining e i = still Draining draining e i refl refl

    -- ---- a password was checked

    checked_fixed : (b : Bool) → Fixed s.settings (checked_peers s.peer b) x.tables j.settings (password_checked j.standing b)
        n.openings
    unfolding peer_with
    checked_fixed true =
        let f = w.fixed in
        record {
          demands = f.demands;
          settings = f.settings;
          past = right ∷ f.past;
          standing = ap (λ (y : Standing). password_checked y true) f.standing ∙ sym (verified-standing s.peer x.tables f.past);
          window = verified_window s.peer f.past f.window;
          fits = verified-fits (checked_peer s.peer false) (checked-fits s.peer false f.fits);
          carried = f.carried;
          room = f.room;
        }
    checked_fixed false =
        let f = w.fixed in
        record {
          demands = f.demands;
          settings = f.settings;
          past = wrong ∷ f.past;
          standing = ap (λ (y : Standing). password_checked y false) f.standing ∙ sym (wrong-standing s.peer x.tables f.past);
          window = checked_window s.peer f.past wrong f.window;
          fits = checked-fits s.peer true f.fits;
          carried = f.carried;
          room = f.room;
        }

    pub checked-next : (b : Bool) → Next (held (checked_state s b) x) (entry_step j (checked b)) (names_step j n (checked b))
    unfolding checked_state entry_step names_step
    checked-next b =
        next_as (ap (λ (z : State). held z x) (on_false s.ended _ _ w.going)) (on_false j.ended _ _ w.alive) refl
        (peer-next (checked_peers s.peer b) x.tables (password_checked j.standing b) n (checked_fixed b) refl)

    -- ---- a challenge was made

    pub nonce-next : (o : List ℕ) → Next (held (nonce_state s) x) (entry_step j (nonce o)) (names_step j n (nonce o))
    unfolding nonce_state entry_step names_step peer_with
    nonce-next o =
        let f = w.fixed in
        next_as (ap (λ (z : State). held z x) (on_false s.ended _ _ w.going)) (on_false j.ended _ _ w.alive) refl
        (peer-next (authenticated_peer s.peer false s.peer.challenge) x.tables (challenged j.standing o) n
        (record {
          demands = f.demands;
          settings = f.settings;
          past = f.past;
          standing = ap unauthenticated f.standing;
          window = f.window;
          fits = record { count = f.fits.count; least = f.fits.least; most = f.fits.most; nonces = refl; few = f.fits.few };
          carried = f.carried;
          room = f.room;
        })
        refl)

    -- ---- the end of the stream

    pub ended-next : Next (held (ended_state s) x) (entry_step j ended) (names_step j n ended)
    unfolding ended_state entry_step names_step
    ended-next = go (eqb s.begun 0) refl
      where
        go : (t : Bool) → eqb s.begun 0 ≡ t → Next (held (ended_state s) x) (entry_step j ended) n
        go true q =
            next_as (ap (λ (z : State). held z x) (on_true (eqb s.begun 0) (ended_with s 1) (ended_with s 2) q ∙ on_false s.ended _ _ w.going))
            (on_false j.ended _ _ w.alive) refl (end-next 1 _ n (λ z. omega (arith, z)))
        go false q =
            next_as (ap (λ (z : State). held z x) (on_false (eqb s.begun 0) (ended_with s 1) (ended_with s 2) q
            ∙ on_false s.ended _ _ w.going))
            (on_false j.ended _ _ w.alive) refl (end-next 2 _ n (λ z. omega (arith, z)))
