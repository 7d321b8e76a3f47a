-- A Connect that succeeds and a Disconnect leave the open ids carrying what the log of openings says then: a 65th id changes neither.
-- Assumes nothing.
use Rattle.std.proofs.Common.{◌≡◌, ℕ, ◌+◌, ◌%◌, ◌^◌, ◌<◌, ◌≤◌, Bool, true, false, leb, List, [], ◌∷◌, ◌++◌, length, get_or, take, set, refl, ◌∙◌, subst, add-one, arith, length-take-le, take-suc-set, le-ltb, lt-ltb, leb-false, leb-true}
use mathlib.Core.Option.{Option, none, some}
use Rattle.base.specs.Bytes.{be32}
use Rattle.table.specs.Targets.{target_bytes, target_by, place_of, target_set}
use Rattle.table.specs.declared.targets.Target.{Target}
use Rattle.journal.specs.Ids.{member, without}
use Rattle.journal.specs.Checks.{Check}
use Rattle.journal.specs.Journal.{Standing, leaves, disconnected}
use Rattle.journal.specs.Naming.{Naming, up_to16, fitting, id_opened, opens_as}
use Rattle.connection.specs.declared.peer.Peer.{Peer}
use Rattle.connection.specs.Peer.{peer_with, ids_of, Linked, opened, searched, target_given, opened_for, closed_tables, disconnected_peer}
use Rattle.table.proofs.Naming.{unnamed-bytes, target-bytes, target-set-front}
use Rattle.connection.proofs.Carrying.{Carried, carried_none, carried-closed, carried_again, carried-more}
use Rattle.connection.proofs.Standings.{standing_of, PeerFits}

-- the bytes of a header are bytes, if there is one
abbrev pub Given : Option (List ℕ) → Type 0
Given none = Unit {0}
Given (some v) = (k : ℕ) → get_or v k 0 < 256

given-bytes : (t : Option (List ℕ)) → Given t → target_bytes (target_given t) ≡ up_to16 t
given-bytes none o = unnamed-bytes
given-bytes (some v) o = target-bytes v o

-- what opening gives: the ids carry what the openings say, and a 65th changes nothing
abbrev CarriedOn : List ℕ → Option Linked → Naming → Naming → Type 0
CarriedOn ts none n m = m ≡ n
CarriedOn ts (some q) n m = Carried q.tables (ids_of q.peer q.tables) m.openings

module _ {k : ℕ} (p : Peer) (ts : List ℕ) (past : List Check) (srm : Bool) (f : PeerFits k p) (room : 320 ≤ length ts) (n : Naming)
    (c : Carried ts (ids_of p ts) n.openings) where
  abbrev stood : Standing
  stood = standing_of p ts past

  size : length (ids_of p ts) ≡ p.count
  size = length-take-le p.count ts (omega (arith, f.count, room))

  opened_one : (id next : ℕ) (g : Target) (t : Option (List ℕ)) → target_bytes g ≡ up_to16 t
      → CarriedOn ts (opened p ts srm id next g) n (opens_as (fitting stood id) t n)
  unfolding opened peer_with
  opened_one id next g t i = go (member id (ids_of p ts)) (leb 64 p.count) refl refl
    where
      -- the opening by the Target's bytes
      as_given : (u ids : List ℕ) → Carried u ids (record { id = id; target = target_bytes g } ∷ n.openings)
          → Carried u ids (record { id = id; target = up_to16 t } ∷ n.openings)
      as_given u ids w = subst (λ (x : Option (List ℕ)). Carried u ids (record { id = id; target = x } ∷ n.openings)) i w

      added : p.count < 64 → take (p.count + 1) (target_set (set ts p.count id) p.count g) ≡ ids_of p ts ++ (id ∷ [])
      added h =
          target-set-front (set ts p.count id) p.count g (p.count + 1) (omega arith)
          ∙ rw (add-one p.count) (take-suc-set ts p.count id (omega arith))

      go : (x u : Bool) → member id (ids_of p ts) ≡ x → leb 64 p.count ≡ u
          → CarriedOn ts (opened p ts srm id next g) n (opens_as (fitting stood id) t n)
      go true u m l =
          rw (m, target-set-front ts (place_of id (ids_of p ts)) g p.count (omega (arith, f.count)))
          (as_given _ _ (carried_again id g n.openings ts (ids_of p ts) (omega (arith, size, f.count)) room m c))
      go false true m l = rw (m, size, l, le-ltb p.count 64 (leb-true _ _ l)) refl
      go false false m l =
          let h : p.count < 64 = leb-false _ _ l in
          rw (m, size, l, lt-ltb p.count 64 h, added h)
          (as_given _ _ (carried-more id g n.openings ts (ids_of p ts) p.count size h room m c))

  opened_on : (a t : Option (List ℕ)) → Given t → CarriedOn ts (opened_for p ts srm a t) n (opens_as (id_opened stood a t) t n)
  unfolding peer_with
  opened_on (some v) t o = opened_one (be32 v 0) p.next_connection_id (target_given t) t (given-bytes t o)
  opened_on none (some t) o = opened_one (searched p ts) ((searched p ts + 1) % 2 ^ 32) (target_by t) (some t) (target-bytes t o)
  opened_on none none o = c

  pub opened-carried : (q : Linked) (a t : Option (List ℕ)) → opened_for p ts srm a t ≡ some q → Given t
      → Carried q.tables (ids_of q.peer q.tables) (opens_as (id_opened stood a t) t n).openings
  opened-carried q a t e o = rw e at (opened_on a t o)

  pub full-carried : (a t : Option (List ℕ)) → opened_for p ts srm a t ≡ none → Given t → opens_as (id_opened stood a t) t n ≡ n
  full-carried a t e o = rw e at (opened_on a t o)

  -- ---- a Disconnect

  pub disconnected-carried : (v : Option (List ℕ)) → Carried (disconnected_peer p ts v).tables (disconnected stood v).ids n.openings
  unfolding disconnected_peer
  disconnected-carried none = carried_none ts n.openings
  disconnected-carried (some v) =
      left (closed_tables (be32 v 0) p.count ts) (without (be32 v 0) (ids_of p ts)) (carried-closed (be32 v 0) p.count ts n.openings f.count room c)
    where
      left : (u l : List ℕ) → Carried u l n.openings → Carried u (leaves stood l).ids n.openings
      left u [] w = w
      left u (i ∷ is) w = w
