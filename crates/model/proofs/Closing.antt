-- The call that closes connections together agrees with what is due and with the journal: what is left in the table store is what closing
-- each id alone leaves, so the journal closes the same. Assumes nothing.
use mathlib.Core.Path.{◌≡◌, refl, sym, ap, ◌∙◌, subst}
use mathlib.Core.List.{List, [], ◌∷◌}
use mathlib.Core.Bool.{Bool, true, false, ◌&&◌, not}
use Prim.Native.Nat.{ℕ, ◌≤◌}
use native.Mathlib.Omega.{arith}
use lib.ListN.{length, take, length-take}
use lib.Seq.{length-take-le}
use lib.Dec.{ltb}
use borrow.Author.Tests.{ltb-true, ltb-false, lt-leb, le-leb}
use Rattle.base.specs.Pick.{pick}
use Rattle.journal.specs.Ids.{without, without_all, all_open, repeats}
use Rattle.journal.specs.Checks.{Check}
use Rattle.journal.specs.Calls.{connections_closed_of, goes, refused}
use Rattle.journal.specs.Journal.{Standing, busy as busyOpened, Journal, unchanged, stands, closes as closesIds}
use Rattle.journal.specs.Srm.{silent}
use Rattle.connection.specs.Peer.{ids_of, left_peer, closed_tables}
use Rattle.connection.specs.declared.peer.Peer.{Peer}
use Rattle.connection.proofs.Closing.{without_shorter, closed-front, closed-length, closed-nonces}
use Rattle.connection.proofs.Standings.{PeerFits, own_fits, standing_of, left-standing, left_window, left-fits}
use Rattle.table.proofs.Remembering.{SameNonces}
use Rattle.model.specs.Step.{Done, done, engine_with}
use Rattle.model.specs.Dispatch.{busy}
use Rattle.model.specs.Close.{Remaining, closed_all, closed_peer, closes, close_checked}
use Rattle.model.specs.Guard.{refuse}
use Rattle.model.specs.Runs.{State, keeps, beside}
use Rattle.model.specs.Refusals.{Known, bad, used, judged_ids}
use Rattle.server.specs.declared.Await.{Await}
use Rattle.server.specs.declared.Await.TheVariants as await
use Rattle.server.specs.declared.Refusal.TheVariants as refusal
use Rattle.server.specs.declared.Outcome.TheVariants as outcome
use Rattle.model.proofs.Fit.{waits_of, Seated, Fine}
use Rattle.model.proofs.Coupling.{Held, CoupledAt, Told, told-follows}
use Rattle.model.proofs.Sizes.{early, brief_done, brief_sized}
use Rattle.model.proofs.Speaks.{spoken_done}
use Rattle.model.proofs.Packets.{busy-same}
use Rattle.model.proofs.Moments.{same_await_lem, Knows, Agree, Agrees, fed-goes, none-taken, agree_tabled, agree_refused, agrees}
use Rattle.model.proofs.FromPeer.{coupled_at}

-- ---- what is left of the ids

-- one id: no more are left than were open, and they have their places
one_fewer : (x n : ℕ) (t : List ℕ) → length (without x (take n t)) ≤ n
one_fewer x n t = omega (arith, without_shorter x (take n t), length-take n t)

one-room : (x n : ℕ) (t : List ℕ) → n ≤ length t → length (without x (take n t)) ≤ length (closed_tables x n t)
one-room x n t h = omega (arith, one_fewer x n t, closed-length x n t h)

pub closed-size : (l : List ℕ) (n : ℕ) (t : List ℕ) → n ≤ length t → length (closed_all l n t).tables ≡ length t
unfolding closed_all
closed-size [] n t h = refl
closed-size (x ∷ l) n t h = closed-size l _ (closed_tables x n t) (one-room x n t h) ∙ closed-length x n t h

pub closed-few : (l : List ℕ) (n : ℕ) (t : List ℕ) → (closed_all l n t).count ≤ n
unfolding closed_all
closed-few [] n t = omega arith
closed-few (x ∷ l) n t = omega (arith, closed-few l (length (without x (take n t))) (closed_tables x n t), one_fewer x n t)

-- those that are left are those that closing each alone leaves
pub closed-ids : (l : List ℕ) (n : ℕ) (t : List ℕ) → n ≤ length t
    → take (closed_all l n t).count (closed_all l n t).tables ≡ without_all l (take n t)
unfolding closed_all without_all
closed-ids [] n t h = refl
closed-ids (x ∷ l) n t h = closed-ids l _ (closed_tables x n t) (one-room x n t h) ∙ ap (without_all l) (closed-front x n t h)

pub closed-count : (l : List ℕ) (n : ℕ) (t : List ℕ) → n ≤ length t → (closed_all l n t).count ≡ length (without_all l (take n t))
unfolding closed_all without_all
closed-count [] n t h = sym (length-take-le n t h)
closed-count (x ∷ l) n t h =
    closed-count l _ (closed_tables x n t) (one-room x n t h) ∙ ap (λ (k : List ℕ). length (without_all l k)) (closed-front x n t h)

closed_same : (l : List ℕ) (n : ℕ) (t : List ℕ) → n ≤ 64 → SameNonces (closed_all l n t).tables t
unfolding closed_all
closed_same [] n t h = λ m k. refl
closed_same (x ∷ l) n t h =
    λ m k. closed_same l (length (without x (take n t))) (closed_tables x n t) (omega (arith, one_fewer x n t)) m k ∙ closed-nonces x n t h m k

-- ---- the peer, and what the journal says of it

closed-standing : (p : Peer) (t l : List ℕ) (h : List Check) → p.count ≤ length t
    → closesIds (standing_of p t h) l ≡ standing_of (closed_peer p l (closed_all l p.count t).count) (closed_all l p.count t).tables h
unfolding closed_all
closed-standing p t [] h r = refl
closed-standing p t (x ∷ l) h r = go (closed_all (x ∷ l) p.count t) (closed-count (x ∷ l) p.count t r) (closed-ids (x ∷ l) p.count t r)
  where
    go : (y : Remaining) → y.count ≡ length (without_all (x ∷ l) (ids_of p t)) → take y.count y.tables ≡ without_all (x ∷ l) (ids_of p t)
        → closesIds (standing_of p t h) (x ∷ l) ≡ standing_of (left_peer p y.count) y.tables h
    go y n i =
        sym (ap (λ (m : ℕ). standing_of (left_peer p m) y.tables h) n
        ∙ left-standing p t y.tables (without_all (x ∷ l) (ids_of p t)) h (ap (λ (m : ℕ). take m y.tables) (sym n) ∙ i))

closed_window : (p : Peer) (l : List ℕ) (n : ℕ) → (closed_peer p l n).window ≡ p.window
closed_window p [] n = refl
closed_window p (x ∷ l) n = left_window p n

closed-fits : {m : ℕ} (p : Peer) (l : List ℕ) (n : ℕ) → PeerFits m p → n ≤ 64 → PeerFits m (closed_peer p l n)
closed-fits p [] n f h = f
closed-fits p (x ∷ l) n f h = left-fits p n f h

-- ---- the call

module _ (w : Known) (s : State) (h : Seated s) (k : Knows w s) (l : List ℕ) where
  open s use {engine as e, stores as st, tables as ts}

  abbrev x : Remaining
  x = closed_all l e.peer.count ts

  abbrev p : Peer
  p = closed_peer e.peer l x.count

  -- what the call leads to if it goes
  abbrev d : Done
  d = done (engine_with e.settings p e.operation e.awaits e.begun e.length e.target) outcome.WantsBytes st

  room : e.peer.count ≤ length ts
  room = omega (arith, h.sits.base.peer.count, h.tables)

  fits : PeerFits e.peer.nonces p
  fits = closed-fits e.peer l x.count h.sits.base.peer (omega (arith, closed-few l e.peer.count ts, h.sits.base.peer.count))

  fine : e.awaits ≡ await.Bytes → Fine e d
  unfolding engine_with
  fine at =
      record {
        settings = refl;
        nonces = fits.nonces;
        sits = record {
          base = record { room = h.sits.base.room; peer = own_fits fits; last = h.sits.base.last };
          begun = h.sits.begun;
          counts = h.sits.counts;
          shape = h.sits.shape;
        };
        waits = λ v. ap (λ (y : Await). waits_of y e.operation) (sym at);
        goes = refl;
      }

  abbrev Begins : Journal → Type 0
  Begins j = Held ts e.settings e.peer e.operation st (take e.begun st.packet) j

  closed-told : e.awaits ≡ await.Bytes → (j : Journal) → Begins j → Told x.tables d (unchanged (stands j (closesIds j.standing l)))
  unfolding engine_with
  closed-told at j y =
      record {
        given = refl;
        ends = λ u. refl;
        after =
            subst (λ (a : Await). CoupledAt x.tables a e.operation e.settings p e.begun e.length st
            (stands j (closesIds j.standing l))) (sym at)
            (record {
              fixed = record {
                settings = y.fixed.settings;
                past = y.fixed.past;
                standing = ap (λ (z : Standing). closesIds z l) y.fixed.standing ∙ closed-standing e.peer ts l y.fixed.past room;
                window = closed_window e.peer l x.count ∙ y.fixed.window;
                ended = y.fixed.ended;
              };
              begun = y.begun;
              opened = y.opened;
            });
      }

  closed-goes : e.awaits ≡ await.Bytes → Agree w s (connections_closed_of l) goes (beside s (closes e l x))
  closed-goes at =
      agree_tabled w s h k (connections_closed_of l) d 0 x.tables (fine at) (closed-size l e.peer.count ts room)
      (closed_same l e.peer.count ts h.sits.base.peer.count e.peer.nonces h.sits.base.peer.few ∙ k.nonces)
      (λ j y. none-taken j.ended)
      (λ j y. let z = coupled_at w s h k await.Bytes j at y in
      told-follows (subst (Told x.tables d) (sym (fed-goes j (connections_closed_of l) z.fixed.ended)) (closed-told at j z)))
      (λ j late y z v. brief_sized d _ (brief_done e p e.operation e.awaits e.begun e.length outcome.WantsBytes st refl (ap early at)))
      (λ j o y z v. spoken_done e p e.operation e.awaits e.begun e.length outcome.WantsBytes st silent o refl z)

  -- by what the ids are refused for
  ids_agree : e.awaits ≡ await.Bytes → Agree w s (connections_closed_of l) (judged_ids l (ids_of e.peer ts)) (beside s (close_checked e l ts))
  unfolding close_checked
  ids_agree at = go (ltb 64 (length l)) (all_open l (ids_of e.peer ts)) (repeats l) refl refl refl
    where
      go : (a b c : Bool) → ltb 64 (length l) ≡ a → all_open l (ids_of e.peer ts) ≡ b → repeats l ≡ c
          → Agree w s (connections_closed_of l) (judged_ids l (ids_of e.peer ts)) (beside s (close_checked e l ts))
      go true b c i m n = rw (i, lt-leb (length l) 64 (ltb-true _ _ i)) (agree_refused w s h k (connections_closed_of l) refusal.TooManyIds)
      go false false c i m n = rw (i, le-leb (length l) 64 (ltb-false _ _ i), m) (agree_refused w s h k (connections_closed_of l) refusal.IdNotOpen)
      go false true true i m n = rw (i, le-leb (length l) 64 (ltb-false _ _ i), m, n) (agree_refused w s h k (connections_closed_of l) refusal.IdRepeated)
      go false true false i m n = rw (i, le-leb (length l) 64 (ltb-false _ _ i), m, n) (closed-goes at)

  pub closed-agrees : Agrees w s (connections_closed_of l)
  unfolding bad used
  closed-agrees =
      agrees w s h k (connections_closed_of l)
      (λ r j y. let at = same_await_lem e.awaits await.Bytes r in
      let z = coupled_at w s h k await.Bytes j at y in
      subst (λ (v : Standing). Due (busyOpened j.opened) v.ids) (sym z.fixed.standing)
      (subst (λ (t : Bool). Due t (ids_of e.peer ts)) (sym (busy-same _ e.operation st.headers st.body j.opened z.opened))
      (go at (busy e.operation))))
    where
      -- the call agrees, by whether the journal has an operation open and by its ids
      Due : Bool → List ℕ → Type 0
      Due t ids =
          Agree w s (connections_closed_of l) (pick (not t && true) (judged_ids l ids) (refused 9))
          (pick (not (busy e.operation)) (beside s (close_checked e l ts)) (keeps s (refuse refusal.WrongMoment e st)))

      go : e.awaits ≡ await.Bytes → (t : Bool)
          → Agree w s (connections_closed_of l) (pick (not t && true) (judged_ids l (ids_of e.peer ts)) (refused 9))
          (pick (not t) (beside s (close_checked e l ts)) (keeps s (refuse refusal.WrongMoment e st)))
      go at true = agree_refused w s h k (connections_closed_of l) refusal.WrongMoment
      go at false = ids_agree at
