-- The host's reply and ids that are closed together, with the state and the journal before them. Assumes nothing.
use mathlib.Core.Path.{◌≡◌, refl, sym, ap, ap₂, ◌∙◌, subst}
use mathlib.Core.List.{List, [], ◌∷◌, ◌++◌}
use mathlib.Core.Bool.{Bool, true, false, ◌&&◌, ◌||◌, not}
use mathlib.Core.Option.{Option, none, some}
use Prim.Native.Nat.{ℕ, ◌+◌, ◌%◌, ◌^◌, ◌≤◌}
use native.Mathlib.Omega.{arith}
use lib.ListN.{length, take, length-take}
use lib.Dec.{leb}
use borrow.Author.Tests.{le-leb}
use Rattle.base.specs.Pick.{pick}
use Rattle.base.specs.Bytes.{be32}
use Rattle.packet.specs.FirstByte.{same_opcode}
use Rattle.packet.specs.Codes.{is_success}
use Rattle.packet.specs.Header.{read_headers, first}
use Rattle.packet.specs.Packet.{Request}
use Rattle.packet.specs.declared.opcode.Opcode.{Opcode}
use Rattle.packet.specs.declared.opcode.Opcode.TheVariants as op
use Rattle.journal.specs.Ids.{member, without, without_all, new_id}
use Rattle.journal.specs.Checks.{Check}
use Rattle.journal.specs.Journal.{Settings as JournalSettings, Standing, Opened, nothing, trailing, putting, getting, sending, gathering, draining, Journal, unchanged, stands, busy, list_of, asks_srm, is_enable, with_ids, open_id, opens_for, connected, leaves, disconnected, closes, reply_to, reply_last, replied, headers_of}
use Rattle.journal.specs.Naming.{Opening, Naming, id_opened, opens_as, answer_names}
use Rattle.connection.specs.Peer.{ids_of, id_in, target_asked, Linked, opening_of, opened_for, answer_from, front_by_of, answer_by, left_peer, closed_tables, disconnected_peer, disconnected_by}
use Rattle.connection.specs.Pieces.{headers_from}
use Rattle.connection.specs.declared.peer.Peer.{Peer}
use Rattle.connection.proofs.ByNumbers.{opened_by_lem, disconnected_by_lem}
use Rattle.connection.proofs.Carrying.{Carried, carried-closed}
use Rattle.connection.proofs.Closing.{without_shorter, closed-front, closed-length}
use Rattle.connection.proofs.Openings.{Given, opened-carried, full-carried, disconnected-carried}
use Rattle.connection.proofs.Standings.{standing_of, own_fits, left-standing, left_window, left-fits, disconnected-standing, disconnected_window, disconnected-fits, disconnected-length, opened-standing, opened-fits, opened-length, opened_window, full-standing}
use Rattle.filing.specs.Entries.{answered, closed, entry_step, names_step}
use Rattle.journal_code.specs.declared.state.State.{State}
use Rattle.journal_code.specs.declared.state.Open.{Open}
use Rattle.journal_code.specs.declared.state.Open.TheVariants.{Nothing, Trailing, Putting, Getting, Sending, Gathering, Draining}
use Rattle.journal_code.specs.declared.state.Last.{Last}
use Rattle.journal_code.specs.declared.state.Last.TheVariants as last
use Rattle.journal_code.specs.State.{quiet, standing_by, opens_now}
use Rattle.journal_code.specs.Route.{asks_in}
use Rattle.journal_code.specs.Answer.{Tabled, tabled, linked_in, is_nothing, peer_or, stands_answered, stands_linked, connected_step, reply_step, answered_inside, answered_step, Remaining, closed_all, closes_to, closed_step}
use Rattle.journal_code.specs.Run.{Stores, Held, held_tabled}
use Rattle.journal_code.proofs.Picks.{on_true, on_false}
use Rattle.journal_code.proofs.Coupling.{plain, last_of, last_in, OpenedAs, Live, Next}
use Rattle.journal_code.proofs.Steps.{next_as, quiet_next, open_next, peer-next}

-- ---- no record depends on the nonce

plain-open : (s : Standing) (srm : Bool) (id next : ℕ) → plain (open_id s srm id next) ≡ open_id (plain s) srm id next
unfolding open_id
plain-open s srm id next = go (member id s.ids) (leb 64 (length s.ids))
  where
    go : (a b : Bool)
        → plain (pick a (with_ids s s.ids s.next srm) (pick b s (with_ids s (s.ids ++ (id ∷ [])) next srm)))
        ≡ pick a (with_ids (plain s) s.ids s.next srm) (pick b (plain s) (with_ids (plain s) (s.ids ++ (id ∷ [])) next srm))
    go true b = refl
    go false true = refl
    go false false = refl

plain-opens : (s : Standing) (srm : Bool) (a v : Option (List ℕ)) → plain (opens_for s srm a v) ≡ opens_for (plain s) srm a v
plain-opens s srm (some i) v = plain-open s srm (be32 i 0) s.next
plain-opens s srm none (some v) = plain-open s srm (new_id s.ids s.next) ((new_id s.ids s.next + 1) % 2 ^ 32)
plain-opens s srm none none = refl

plain-leaves : (s : Standing) (l : List ℕ) → plain (leaves s l) ≡ leaves (plain s) l
plain-leaves s [] = refl
plain-leaves s (i ∷ is) = refl

plain-disconnected : (s : Standing) (v : Option (List ℕ)) → plain (disconnected s v) ≡ disconnected (plain s) v
plain-disconnected s none = refl
plain-disconnected s (some v) = plain-leaves s (without (be32 v 0) s.ids)

plain_id : (s : Standing) (a v : Option (List ℕ)) → id_opened (plain s) a v ≡ id_opened s a v
plain_id s (some i) v = refl
plain_id s none (some v) = refl
plain_id s none none = refl

-- ---- ids that are closed one after the other

pub record ClosedTo (l : List ℕ) (n : ℕ) (t : List ℕ) (os : List Opening) (y : Remaining) : Type 0 where
  pub count : y.count ≡ length (without_all l (take n t))
  pub front : take y.count y.tables ≡ without_all l (take n t)
  pub same : length y.tables ≡ length t
  pub few : y.count ≤ 64
  pub carried : Carried y.tables (without_all l (take n t)) os

closed_to : (l : List ℕ) (n : ℕ) (t : List ℕ) (os : List Opening) → n ≤ 64 → 320 ≤ length t → Carried t (take n t) os
    → ClosedTo l n t os (closed_all l n t)
unfolding closed_all without_all
closed_to [] n t os f r c =
    record { count = omega (arith, length-take n t); front = refl; same = refl; few = f; carried = c }
closed_to (x ∷ l) n t os f r c =
    let m = length (without x (take n t)) in
    let u = closed_tables x n t in
    let e = closed-front x n t (omega arith) in
    let k : m ≤ 64 = omega (arith, without_shorter x (take n t), length-take n t) in
    let z = closed_to l m u os k (omega (arith, closed-length x n t (omega arith)))
    (subst (λ (i : List ℕ). Carried u i os) (sym e) (carried-closed x n t os f r c)) in
    record {
      count = z.count ∙ ap (λ (i : List ℕ). length (without_all l i)) e;
      front = z.front ∙ ap (λ (i : List ℕ). without_all l i) e;
      same = z.same ∙ closed-length x n t (omega arith);
      few = z.few;
      carried = subst (λ (i : List ℕ). Carried (closed_all l m u).tables (without_all l i) os) e z.carried;
    }

-- ----

module _ (s : State) (x : Stores) (j : Journal) (n : Naming) (w : Live s x j n) where
  abbrev p : Peer
  p = s.peer

  abbrev t : List ℕ
  t = x.tables

  abbrev past : List Check
  past = w.fixed.past

  ids_are : j.standing.ids ≡ ids_of p t
  ids_are = ap (λ (y : Standing). y.ids) w.fixed.standing

  carried : Carried t (ids_of p t) n.openings
  carried = subst (λ (l : List ℕ). Carried t l n.openings) ids_are w.fixed.carried

  linked_is : linked_in p.count (length t) ≡ true
  unfolding linked_in
  linked_is = rw (le-leb p.count 64 w.fixed.fits.count, le-leb 320 (length t) w.fixed.room) refl

  abbrev held_of : Tabled → Held
  held_of y = held_tabled y x

  -- ---- a Disconnect

  left : (v : Option (List ℕ)) → Next (held_of (stands_linked s (disconnected_by p t (id_in v)))) (unchanged (stands j (disconnected j.standing v))) n
  left v =
      let d = disconnected_peer p t v in
      let stands-as = plain-disconnected j.standing v ∙ ap (λ (y : Standing). disconnected y v) w.fixed.standing in
      next_as (ap (λ (y : Linked). held_of (stands_linked s y)) (disconnected_by_lem p t v)) refl refl
      (peer-next s x j n w d.peer d.tables (disconnected j.standing v) n
      (record {
        demands = w.fixed.demands;
        settings = w.fixed.settings;
        past = past;
        standing = stands-as ∙ sym (disconnected-standing p t past v (omega (arith, w.fixed.fits.count, w.fixed.room)));
        window = disconnected_window p t v ∙ w.fixed.window;
        fits = own_fits (disconnected-fits p t v w.fixed.fits);
        carried = subst (λ (l : List ℕ). Carried d.tables l n.openings) (sym (ap (λ (y : Standing). y.ids) stands-as))
            (disconnected-carried p t past false w.fixed.fits w.fixed.room n carried v);
        room = omega (arith, disconnected-length p t v w.fixed.fits (omega (arith, w.fixed.room)), w.fixed.room);
      })
      refl)

  -- ---- a Connect that succeeds

  module _ (srm : Bool) (a v : Option (List ℕ)) (g : Given v) where
    abbrev opening : Standing
    opening = opens_for j.standing srm a v

    abbrev names : Naming
    names = opens_as (id_opened j.standing a v) v n

    stood : plain opening ≡ opens_for (standing_of p t past) srm a v
    stood = plain-opens j.standing srm a v ∙ ap (λ (y : Standing). opens_for y srm a v) w.fixed.standing

    named : opens_as (id_opened (standing_of p t past) a v) v n ≡ names
    named =
        ap (λ (y : Option ℕ). opens_as y v n)
        (ap (λ (y : Standing). id_opened y a v) (sym w.fixed.standing) ∙ plain_id j.standing a v)

    under_same : (i : Option ℕ) → (opens_as i v n).under ≡ n.under
    under_same none = refl
    under_same (some i) = refl

    abbrev by : Option Linked → Tabled
    by q = tabled (standing_by s (peer_or p (answer_from (opening_of t q) (front_by_of p t (id_in a) (target_asked v))).answer)) (opening_of t q).tables

    opened-next : (q : Option Linked) → opened_for p t srm a v ≡ q → Next (held_of (by q)) (unchanged (stands j opening)) names
    opened-next none e =
        peer-next s x j n w p t opening names
        (record {
          demands = w.fixed.demands;
          settings = w.fixed.settings;
          past = past;
          standing = stood ∙ full-standing p t past srm w.fixed.fits (omega (arith, w.fixed.room)) a v e;
          window = w.fixed.window;
          fits = w.fixed.fits;
          carried = subst (λ (l : List ℕ). Carried t l names.openings)
              (sym (ap (λ (y : Standing). y.ids) (stood ∙ full-standing p t past srm w.fixed.fits (omega (arith, w.fixed.room)) a v e)))
              (subst (λ (m : Naming). Carried t (ids_of p t) m.openings)
              (sym (sym named ∙ full-carried p t past srm w.fixed.fits w.fixed.room n carried a v e g)) carried);
          room = w.fixed.room;
        })
        (under_same (id_opened j.standing a v))
    opened-next (some q) e =
        let stands-as = stood ∙ sym (opened-standing p t past srm w.fixed.fits (omega (arith, w.fixed.room)) q a v e) in
        peer-next s x j n w q.peer q.tables opening names
        (record {
          demands = w.fixed.demands;
          settings = w.fixed.settings;
          past = past;
          standing = stands-as;
          window = opened_window p t past srm w.fixed.fits (omega (arith, w.fixed.room)) q a v e ∙ w.fixed.window;
          fits = own_fits (opened-fits p t past srm w.fixed.fits (omega (arith, w.fixed.room)) q a v e);
          carried = subst (λ (l : List ℕ). Carried q.tables l names.openings) (sym (ap (λ (y : Standing). y.ids) stands-as))
              (subst (λ (m : Naming). Carried q.tables (ids_of q.peer q.tables) m.openings) named
              (opened-carried p t past srm w.fixed.fits w.fixed.room n carried q a v e g));
          room = omega (arith, opened-length p t past srm w.fixed.fits (omega (arith, w.fixed.room)) q a v e, w.fixed.room);
        })
        (under_same (id_opened j.standing a v))

    opened-answer : Next (held_of (stands_answered s (answer_by p t srm (id_in a) (target_asked v)))) (unchanged (stands j opening)) names
    opened-answer =
        next_as (ap (λ (q : Option Linked). held_of (by q)) (opened_by_lem p t srm a v)) refl refl (opened-next (opened_for p t srm a v) refl)

  -- ---- the reply to the last packet

  module _ (code : ℕ) (hs : List ℕ) where
    abbrev Replied : Last → Option Request → Type 0
    Replied l r = Next (held_of (reply_step l s code hs t)) (unchanged (reply_last r j code hs)) (answer_names r j code hs n)

    abbrev Entered : Opcode → Request → Type 0
    Entered o r =
        Next (held_of (reply_step (last_of o r.headers) s code hs t)) (unchanged (reply_to o j r code hs))
        (pick (not (busy j.opened) && (same_opcode o op.Connect && is_success code))
        (opens_as (id_opened j.standing (first 0xCB (list_of (read_headers hs 0))) (first 0x46 r.headers)) (first 0x46 r.headers) n) n)

    and_no : (a b : Bool) → b ≡ false → (a && b) ≡ false
    and_no true b e = e
    and_no false b e = refl

    calm : (o : Opcode) (r : Request) → same_opcode o op.Connect ≡ false
        → Next (held_of (tabled (quiet s) t)) (unchanged j)
        (pick (not (busy j.opened) && (same_opcode o op.Connect && is_success code))
        (opens_as (id_opened j.standing (first 0xCB (list_of (read_headers hs 0))) (first 0x46 r.headers)) (first 0x46 r.headers) n) n)
    calm o r e =
        next_as refl refl
        (on_false (not (busy j.opened) && (same_opcode o op.Connect && is_success code)) _ n
        (and_no (not (busy j.opened)) _ (ap (λ (b : Bool). b && is_success code) e)))
        (quiet_next s x j n w)

    connects : (r : Request) → Given (first 0x46 r.headers) → busy j.opened ≡ false → Entered op.Connect r
    unfolding connected_step connected same_opcode asks_srm
    connects r g i = go (is_success code) refl
      where
        srm : (j.standing.srm || asks_srm j.settings r.headers) ≡ asks_in s (is_enable (first 0x97 r.headers))
        srm =
            ap₂ (λ (a b : Bool). a || (b && is_enable (first 0x97 r.headers))) (ap (λ (y : Standing). y.srm) w.fixed.standing)
            (ap (λ (y : JournalSettings). y.srm) w.fixed.settings)

        go : (b : Bool) → is_success code ≡ b → Entered op.Connect r
        go true e =
            rw (e, i, srm)
            (opened-answer (asks_in s (is_enable (first 0x97 r.headers))) (first 0xCB (headers_from hs 0)) (first 0x46 r.headers) g)
        go false e = rw (e, i) (quiet_next s x j n w)

    entered : (r : Request) → Given (first 0x46 r.headers) → busy j.opened ≡ false → (o : Opcode) → Entered o r
    unfolding same_opcode
    entered r g i op.Connect = connects r g i
    entered r g i op.Disconnect =
        next_as refl refl
        (on_false (not (busy j.opened) && false) _ n (and_no (not (busy j.opened)) false refl))
        (left (first 0xCB r.headers))
    entered r g i op.Put = calm op.Put r refl
    entered r g i op.Get = calm op.Get r refl
    entered r g i op.SetPath = calm op.SetPath r refl
    entered r g i op.Action = calm op.Action r refl
    entered r g i op.Session = calm op.Session r refl
    entered r g i op.Abort = calm op.Abort r refl
    entered r g i (op.UserDefined v) = calm (op.UserDefined v) r refl

    replied-next : busy j.opened ≡ false → (r : Option Request) → Given (first 0x46 (headers_of r)) → Replied (last_in r) r
    replied-next i none g = quiet_next s x j n w
    replied-next i (some r) g = entered r g i r.opcode

    -- inside an operation nobody is named
    unnamed-busy : (r : Option Request) → busy j.opened ≡ true → n ≡ answer_names r j code hs n
    unnamed-busy none i = refl
    unnamed-busy (some r) i =
        on_false (not (busy j.opened) && (same_opcode r.opcode op.Connect && is_success code)) _ n
        (ap (λ (b : Bool). not b && (same_opcode r.opcode op.Connect && is_success code)) i)

    -- nor after a packet that is no Connect
    unnamed-other : (r : Option Request) → last.Other ≡ last_in r → n ≡ answer_names r j code hs n
    unfolding same_opcode
    unnamed-other none e = refl
    unnamed-other (some r) e =
        on_false (not (busy j.opened) && (same_opcode r.opcode op.Connect && is_success code)) _ n
        (and_no (not (busy j.opened)) _ (ap (λ (b : Bool). b && is_success code) (other r.opcode e)))
      where
        other : (o : Opcode) → last.Other ≡ last_of o r.headers → same_opcode o op.Connect ≡ false
        other op.Connect e = absurd (let z : ◌≡◌ {A = ℕ} 0 1 = cc in omega arith)
        other op.Disconnect e = refl
        other op.Put e = refl
        other op.Get e = refl
        other op.SetPath e = refl
        other op.Action e = refl
        other op.Session e = refl
        other op.Abort e = refl
        other (op.UserDefined v) e = refl

    pub answered-next : Next (held_of (answered_step s code hs t)) (entry_step j (answered code hs)) (names_step j n (answered code hs))
    unfolding answered_step entry_step names_step
    answered-next = go s.opened refl w.does.opened
      where
        state : (y : Tabled) → y ≡ pick (is_nothing s.opened) (reply_step s.last s code hs t) (tabled (answered_inside s.opened s) t)
            → held_of y ≡ held_of (answered_step s code hs t)
        state y e =
            ap held_of (e ∙ on_true (linked_in p.count (length t)) _ _ linked_is ∙ on_false s.ended _ _ w.going)

        entry : (y : Opened) → j.opened ≡ y → unchanged (replied y j code hs) ≡ entry_step j (answered code hs)
        entry y e = ap (λ (z : Opened). unchanged (replied z j code hs)) (sym e) ∙ on_false j.ended _ _ w.alive

        name : n ≡ answer_names j.last j code hs n → n ≡ names_step j n (answered code hs)
        name e = e ∙ on_false j.ended _ _ w.alive

        still : (o : Open) (y : Opened) → s.opened ≡ o → is_nothing o ≡ false → j.opened ≡ y → answered_inside o s ≡ quiet s → replied y j code hs ≡ j
            → n ≡ answer_names j.last j code hs n → Next (held_of (answered_step s code hs t)) (entry_step j (answered code hs))
            (names_step j n (answered code hs))
        still o y eo idle ey q r m =
            next_as
            (state (tabled (quiet s) t)
            (ap (λ (z : State). tabled z t) (sym q) ∙ ap (λ (k : Open). tabled (answered_inside k s) t) (sym eo)
            ∙ on_false (is_nothing s.opened) _ _ (ap (λ (k : Open). is_nothing k) eo ∙ idle)))
            (ap (λ (z : Journal). unchanged z) (sym r) ∙ entry y ey)
            (name m)
            (quiet_next s x j n w)

        go : (o : Open) → s.opened ≡ o → OpenedAs s.settings.limit o s.gathered s.last x.headers x.body j.opened
            → Next (held_of (answered_step s code hs t)) (entry_step j (answered code hs)) (names_step j n (answered code hs))
        go Nothing e i =
            next_as
            (state (reply_step (last_in j.last) s code hs t)
            (ap (λ (l : Last). reply_step l s code hs t) (sym w.does.last)
            ∙ on_true (is_nothing s.opened) _ _ (ap (λ (k : Open). is_nothing k) e)))
            (entry nothing i)
            (on_false j.ended _ _ w.alive)
            (replied-next (ap (λ (k : Opened). busy k) i) j.last w.does.given)
        go Trailing e i = still Trailing trailing e refl i.0 refl refl (unnamed-other j.last (sym i.1 ∙ w.does.last))
        go (Putting m) e i = still (Putting m) (putting i.carries m) e refl i.is refl refl
            (unnamed-busy j.last (ap (λ (k : Opened). busy k) i.is))
        go Getting e i =
            next_as
            (state (tabled (opens_now s Nothing) t)
            (ap (λ (k : Open). tabled (answered_inside k s) t) (sym e) ∙ on_false (is_nothing s.opened) _ _ (ap (λ (k : Open). is_nothing k) e)))
            (entry (getting i.keeps) i.is)
            (name (unnamed-busy j.last (ap (λ (k : Opened). busy k) i.is)))
            (open_next s x j n w Nothing nothing refl)
        go Sending e i = still Sending sending e refl i refl refl (unnamed-busy j.last (ap (λ (k : Opened). busy k) i))
        go (Gathering c) e i = still (Gathering c) (gathering c i.keeps) e refl i.is refl refl
            (unnamed-busy j.last (ap (λ (k : Opened). busy k) i.is))
        go Draining e i = still Draining draining e refl i refl refl (unnamed-busy j.last (ap (λ (k : Opened). busy k) i))

  -- ---- ids that are closed together

  pub closed-next : (l : List ℕ) → Next (held_of (closed_step s l t)) (entry_step j (closed l)) (names_step j n (closed l))
  unfolding closed_step entry_step names_step closed_all
  closed-next l =
      next_as (ap held_of (on_true (linked_in p.count (length t)) _ _ linked_is ∙ on_false s.ended _ _ w.going))
      (on_false j.ended _ _ w.alive) (same j.ended)
      (go l)
    where
      same : (b : Bool) → n ≡ n
      same b = refl

      go : (l : List ℕ) → Next (held_of (closes_to l s (closed_all l p.count t))) (unchanged (stands j (closes j.standing l))) n
      go [] = quiet_next s x j n w
      go (y ∷ l) =
          let z = closed_to (y ∷ l) p.count t n.openings w.fixed.fits.count w.fixed.room carried in
          let u = closed_all (y ∷ l) p.count t in
          let ids = without_all (y ∷ l) j.standing.ids in
          let e : without_all (y ∷ l) (ids_of p t) ≡ ids = ap (λ (i : List ℕ). without_all (y ∷ l) i) (sym ids_are) in
          let k : u.count ≡ length ids = z.count ∙ ap length e in
          let f : take (length ids) u.tables ≡ ids = ap (λ (m : ℕ). take m u.tables) (sym k) ∙ z.front ∙ e in
          peer-next s x j n w (left_peer p u.count) u.tables (leaves j.standing ids) n
          (record {
            demands = w.fixed.demands;
            settings = w.fixed.settings;
            past = past;
            standing = plain-leaves j.standing ids ∙ ap (λ (y : Standing). leaves y ids) w.fixed.standing
                ∙ sym (left-standing p t u.tables ids past f) ∙ ap (λ (m : ℕ). standing_of (left_peer p m) u.tables past) (sym k);
            window = left_window p u.count ∙ w.fixed.window;
            fits = own_fits (left-fits p u.count w.fixed.fits z.few);
            carried = subst (λ (i : List ℕ). Carried u.tables i n.openings) (leaves-ids ids ∙ refl)
                (subst (λ (i : List ℕ). Carried u.tables i n.openings) e z.carried);
            room = omega (arith, z.same, w.fixed.room);
          })
          refl
        where
          leaves-ids : (i : List ℕ) → i ≡ (leaves j.standing i).ids
          leaves-ids [] = refl
          leaves-ids (a ∷ b) = refl
