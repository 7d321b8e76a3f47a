-- What Connect and Disconnect change is what the journal's standing says: each operation on a `Peer` is one on its `Standing`, and keeps
-- the bounds of its counts. Assumes nothing.
use Rattle.std.proofs.Common.{◌≡◌, ℕ, ◌+◌, ◌%◌, ◌^◌, ◌<◌, ◌≤◌, Bool, true, false, eqb, ltb, leb, List, [], ◌∷◌, ◌++◌, length, take, set, refl, ap, ◌∙◌, add-one, arith, length-set, length-take, length-take-le, take-suc-set, drop-set-lt, ltb-false, ne_eqb, leb-false}
use mathlib.Core.Option.{Option, none, some}
use lib.Count.{ones}
use Rattle.std.specs.Prelude.{Some, None}
use Rattle.base.specs.Pick.{pick}
use Rattle.base.specs.Bytes.{be32}
use Rattle.digest.specs.Md5.{octets16}
use Rattle.digest.specs.declared.md5.Octets16.{Octets16}
use Rattle.journal.specs.Ids.{member, without}
use Rattle.journal.specs.Checks.{Check, right, wrong, stop, is_wrong, most_wrong, too_many_of, shifted, window_of}
use Rattle.journal.specs.Journal.{Standing, with_check, open_id, opens_for, leaves, disconnected, password_checked, challenged}
use Rattle.connection.specs.declared.peer.Peer.{Peer}
use Rattle.connection.specs.Peer.{peer_with, ids_of, Linked, fresh_peer, at_least255, limited, checked_peer, verified_peer, challenged_peer, opened, searched, target_given, opened_for, cleared_peer, left_peer, closed_tables, disconnected_peer, Challenge}
use Rattle.table.specs.Nonces.{counted}
use Rattle.table.specs.Targets.{target_by, place_of, target_set}
use Rattle.table.specs.declared.targets.Target.{Target}
use Rattle.journal.proofs.Checked.{counts}
use Rattle.table.proofs.Remembering.{SameNonces, same-behind, same-before, counted-few}
use Rattle.table.proofs.Naming.{length-target-set, target-set-front}
use Rattle.connection.proofs.Closing.{without_shorter, closed-front, closed-length, closed-nonces, with_count}

abbrev pub challenge_bytes : Challenge → Option (List ℕ)
challenge_bytes None = none
challenge_bytes (Some n) = some (octets16 n)

-- the standing of a peer, whose open ids stand in the table store `t`, after the checks `h`; of these the peer has the window alone
abbrev pub standing_of : Peer → List ℕ → List Check → Standing
standing_of p t h =
    record {
      authenticated = p.authenticated;
      challenge = challenge_bytes p.challenge;
      ids = ids_of p t;
      next = p.next_connection_id;
      srm = p.srm_enabled;
      checks = h;
    }

-- the bounds of a peer's counts, of which `m` is that of the nonces
pub record PeerFits (m : ℕ) (p : Peer) : Type 0 where
  pub count : p.count ≤ 64
  pub least : 255 ≤ p.remote_max_packet_length
  pub most : p.remote_max_packet_length ≤ 65535
  pub nonces : p.nonces ≡ m
  pub few : m ≤ 32

-- by the peer's own count of nonces
pub own_fits : {m : ℕ} {p : Peer} → PeerFits m p → PeerFits p.nonces p
own_fits f = record { count = f.count; least = f.least; most = f.most; nonces = refl; few = rw f.nonces f.few }

-- ---- the operations

pub limited-standing : (p : Peer) (t : List ℕ) (h : List Check) (n : ℕ) → standing_of (limited p n) t h ≡ standing_of p t h
unfolding peer_with
limited-standing p t h n = refl

-- a check more, which in the window is a bit, and nothing else
pub stopped-standing : (p : Peer) (t : List ℕ) (h : List Check)
    → standing_of (checked_peer p false) t (stop ∷ h) ≡ with_check (standing_of p t h) stop
unfolding peer_with
stopped-standing p t h = refl

pub wrong-standing : (p : Peer) (t : List ℕ) (h : List Check)
    → standing_of (checked_peer p true) t (wrong ∷ h) ≡ password_checked (standing_of p t h) false
unfolding peer_with
wrong-standing p t h = refl

pub verified-standing : (p : Peer) (t : List ℕ) (h : List Check)
    → standing_of (verified_peer (checked_peer p false)) t (right ∷ h) ≡ password_checked (standing_of p t h) true
unfolding peer_with
verified-standing p t h = refl

pub challenged-standing : (p : Peer) (t : List ℕ) (h : List Check) (n : Octets16)
    → standing_of (challenged_peer p n) t h ≡ challenged (standing_of p t h) (octets16 n)
unfolding peer_with
challenged-standing p t h n = refl

-- the standing of a peer and the table store beside it
abbrev pub standing_in : Linked → List Check → Standing
standing_in l h = standing_of l.peer l.tables h

-- the ids that are left open stand at the front of the table store `u`
pub left-standing : (p : Peer) (t u ids : List ℕ) (h : List Check) → take (length ids) u ≡ ids
    → standing_of (left_peer p (length ids)) u h ≡ leaves (standing_of p t h) ids
unfolding peer_with
left-standing p t u [] h e = refl
left-standing p t u (i ∷ is) h e =
    rw (ne_eqb (length (i ∷ is)) 0 (λ z. omega (arith, z)))
    (ap (λ (l : List ℕ). record { authenticated = p.authenticated; challenge = challenge_bytes p.challenge; ids = l; next = p.next_connection_id; srm = p.srm_enabled; checks = h }) e)

pub disconnected-standing : (p : Peer) (t : List ℕ) (h : List Check) (v : Option (List ℕ)) → p.count ≤ length t
    → standing_in (disconnected_peer p t v) h ≡ disconnected (standing_of p t h) v
unfolding disconnected_peer
disconnected-standing p t h none r = left-standing p t t [] h refl
disconnected-standing p t h (some v) r =
    left-standing p t (closed_tables (be32 v 0) p.count t) (without (be32 v 0) (ids_of p t)) h (closed-front (be32 v 0) p.count t r)

-- ---- the window

-- the window is that of the checks `h`
abbrev pub Windowed : Peer → List Check → Type 0
Windowed p h = p.window ≡ window_of h

pub limited_window : (p : Peer) (n : ℕ) → (limited p n).window ≡ p.window
unfolding peer_with
limited_window p n = refl

-- the open ids, which is all that a standing has of the table store, do not change with what stands behind place 64
pub tables-standing : (p : Peer) (t u : List ℕ) (h : List Check) → ids_of p u ≡ ids_of p t → standing_of p u h ≡ standing_of p t h
tables-standing p t u h e =
    ap (λ (l : List ℕ). record { authenticated = p.authenticated; challenge = challenge_bytes p.challenge; ids = l; next = p.next_connection_id; srm = p.srm_enabled; checks = h }) e

pub challenged_window : (p : Peer) (n : Octets16) → (challenged_peer p n).window ≡ p.window
unfolding peer_with
challenged_window p n = refl

pub left_window : (p : Peer) (n : ℕ) → (left_peer p n).window ≡ p.window
unfolding peer_with
left_window p n = go (eqb n 0)
  where
    go : (b : Bool) → (pick b (cleared_peer p) (with_count p n)).window ≡ p.window
    go true = refl
    go false = refl

pub disconnected_window : (p : Peer) (t : List ℕ) (v : Option (List ℕ)) → (disconnected_peer p t v).peer.window ≡ p.window
unfolding disconnected_peer peer_with
disconnected_window p t none = refl
disconnected_window p t (some v) = left_window p (length (without (be32 v 0) (ids_of p t)))

-- one check more in the window is one more in the history
pub checked_window : (p : Peer) (h : List Check) (c : Check) → Windowed p h → Windowed (checked_peer p (is_wrong c)) (c ∷ h)
unfolding peer_with window_of
checked_window p h c e = ap (λ (w : ℕ). shifted w (is_wrong c)) e

pub verified_window : (p : Peer) (h : List Check) → Windowed p h → Windowed (verified_peer (checked_peer p false)) (right ∷ h)
unfolding peer_with window_of
verified_window p h e = ap (λ (w : ℕ). shifted w false) e

-- by the window, too many are wrong if they are so in the history
pub too_many : (p : Peer) (h : List Check) → Windowed p h → leb most_wrong (ones p.window) ≡ too_many_of h
unfolding too_many_of
too_many p h e = ap (λ (w : ℕ). leb most_wrong (ones w)) e ∙ ap (leb most_wrong) (counts h)

-- ---- the bounds are kept

pub fresh-fits : PeerFits 0 fresh_peer
unfolding peer_with
fresh-fits = record { count = omega arith; least = omega arith; most = omega arith; nonces = refl; few = omega arith }

pub limited-fits : {m : ℕ} (p : Peer) (n : ℕ) → n ≤ 65535 → PeerFits m p → PeerFits m (limited p n)
unfolding peer_with
limited-fits p n h f = record { count = f.count; least = (go (ltb n 255) refl).0; most = (go (ltb n 255) refl).1; nonces = f.nonces; few = f.few }
  where
    go : (t : Bool) → ltb n 255 ≡ t → (255 ≤ at_least255 n) × (at_least255 n ≤ 65535)
    go true e = rw e (omega arith, omega arith)
    go false e = rw e (ltb-false _ _ e, h)

-- the ids, the nonces and the peer's limit are as they were
same-fits : {m : ℕ} (p : Peer) (next : ℕ) (srm auth : Bool) (ch : Challenge) (w : ℕ) → PeerFits m p
    → PeerFits m (peer_with p.count next p.remote_max_packet_length srm auth ch w p.nonces)
unfolding peer_with
same-fits p next srm auth ch w f = record { count = f.count; least = f.least; most = f.most; nonces = f.nonces; few = f.few }

pub checked-fits : {m : ℕ} (p : Peer) (b : Bool) → PeerFits m p → PeerFits m (checked_peer p b)
checked-fits p b f =
    same-fits p p.next_connection_id p.srm_enabled p.authenticated p.challenge (shifted p.window b) f

pub verified-fits : {m : ℕ} (p : Peer) → PeerFits m p → PeerFits m (verified_peer p)
verified-fits p f = same-fits p p.next_connection_id p.srm_enabled true None p.window f

-- a challenge adds a nonce
pub challenged-fits : {m : ℕ} (p : Peer) (n : Octets16) → PeerFits m p → PeerFits (counted m) (challenged_peer p n)
unfolding peer_with
challenged-fits {m} p n f =
    record { count = f.count; least = f.least; most = f.most; nonces = ap counted f.nonces; few = counted-few m f.few }

pub left-fits : {m : ℕ} (p : Peer) (n : ℕ) → PeerFits m p → n ≤ 64 → PeerFits m (left_peer p n)
unfolding peer_with
left-fits {m} p n f h = go (eqb n 0)
  where
    go : (b : Bool) → PeerFits m (pick b (cleared_peer p) (with_count p n))
    go true = record { count = omega arith; least = omega arith; most = omega arith; nonces = f.nonces; few = f.few }
    go false = record { count = h; least = f.least; most = f.most; nonces = f.nonces; few = f.few }

-- no more ids are left than were open
few-left : {m : ℕ} (p : Peer) (t : List ℕ) (x : ℕ) → PeerFits m p → length (without x (ids_of p t)) ≤ 64
few-left p t x f = omega (arith, without_shorter x (ids_of p t), length-take p.count t, f.count)

pub disconnected-fits : {m : ℕ} (p : Peer) (t : List ℕ) (v : Option (List ℕ)) → PeerFits m p → PeerFits m (disconnected_peer p t v).peer
unfolding disconnected_peer
disconnected-fits p t none f = left-fits p 0 f (omega arith)
disconnected-fits p t (some v) f = left-fits p (length (without (be32 v 0) (ids_of p t))) f (few-left p t (be32 v 0) f)

-- the table store keeps its length
pub disconnected-length : {m : ℕ} (p : Peer) (t : List ℕ) (v : Option (List ℕ)) → PeerFits m p → 64 ≤ length t
    → length (disconnected_peer p t v).tables ≡ length t
unfolding disconnected_peer
disconnected-length p t none f h = refl
disconnected-length p t (some v) f h = closed-length (be32 v 0) p.count t (omega (arith, f.count))

-- and the nonces that it remembers
pub disconnected-nonces : {m : ℕ} (p : Peer) (t : List ℕ) (v : Option (List ℕ)) → PeerFits m p → SameNonces (disconnected_peer p t v).tables t
unfolding disconnected_peer
disconnected-nonces p t none f = λ n l. refl
disconnected-nonces p t (some v) f = closed-nonces (be32 v 0) p.count t f.count

-- ---- an id is opened

-- what opening gives, for a peer, its table store, the checks and the standing that the journal says; none is a 65th id
abbrev OpensAs : Peer → List ℕ → List Check → Standing → Option Linked → Type 0
OpensAs p t h s none = s ≡ standing_of p t h
OpensAs p t h s (some q) =
    (standing_in q h ≡ s) × PeerFits p.nonces q.peer × (length q.tables ≡ length t) × (q.peer.window ≡ p.window)
    × SameNonces q.tables t

module _ (p : Peer) (t : List ℕ) (past : List Check) (srm : Bool) (f : PeerFits p.nonces p) (room : 64 ≤ length t) where
  opened_as : (id next : ℕ) (g : Target) → OpensAs p t past (open_id (standing_of p t past) srm id next) (opened p t srm id next g)
  unfolding opened open_id peer_with
  opened_as id next g = go (member id (ids_of p t)) (leb 64 p.count) refl refl
    where
      size : length (ids_of p t) ≡ p.count
      size = length-take-le p.count t (omega (arith, f))

      -- where the Target is stored plays no part for the ids and the nonces
      front-stays : (u : List ℕ) (i n : ℕ) → n ≤ 64 → take n (target_set u i g) ≡ take n u
      front-stays u i n h = target-set-front u i g n (omega arith)

      nonces_stay : (u : List ℕ) (i : ℕ) → SameNonces (target_set u i g) u
      nonces_stay u i = same-before (target_set u i g) u (target-set-front u i g 128 (omega arith))

      added : p.count < 64 → take (p.count + 1) (target_set (set t p.count id) p.count g) ≡ ids_of p t ++ (id ∷ [])
      added h =
          front-stays (set t p.count id) p.count (p.count + 1) (omega arith)
          ∙ rw (add-one p.count) (take-suc-set t p.count id (omega (arith, f)))

      go : (x u : Bool) → member id (ids_of p t) ≡ x → leb 64 p.count ≡ u
          → OpensAs p t past (open_id (standing_of p t past) srm id next) (opened p t srm id next g)
      go true u m e =
          rw (m, front-stays t (place_of id (ids_of p t)) p.count f.count) (
            refl,
            same-fits p p.next_connection_id srm p.authenticated p.challenge p.window f,
            length-target-set t (place_of id (ids_of p t)) g,
            refl,
            nonces_stay t (place_of id (ids_of p t)),
          )
      go false true m e = rw (m, size, e) refl
      go false false m e =
          let h : p.count < 64 = leb-false _ _ e in
          rw (m, size, e, added h) (
            refl,
            record { count = omega arith; least = f.least; most = f.most; nonces = refl; few = f.few },
            length-target-set (set t p.count id) p.count g ∙ length-set t p.count id,
            refl,
            λ n l. nonces_stay (set t p.count id) p.count n l ∙ same-behind _ t (drop-set-lt 64 t p.count id h) n l,
          )

  opens_as : (a v : Option (List ℕ)) → OpensAs p t past (opens_for (standing_of p t past) srm a v) (opened_for p t srm a v)
  unfolding peer_with
  opens_as (some i) v = opened_as (be32 i 0) p.next_connection_id (target_given v)
  opens_as none (some v) = opened_as (searched p t) ((searched p t + 1) % 2 ^ 32) (target_by v)
  opens_as none none = (refl, same-fits p p.next_connection_id srm p.authenticated p.challenge p.window f, refl, refl, λ n l. refl)

  pub opened-standing : (q : Linked) (a v : Option (List ℕ)) → opened_for p t srm a v ≡ some q
      → standing_in q past ≡ opens_for (standing_of p t past) srm a v
  opened-standing q a v e = (rw e at (opens_as a v)).0

  pub opened-fits : (q : Linked) (a v : Option (List ℕ)) → opened_for p t srm a v ≡ some q → PeerFits p.nonces q.peer
  opened-fits q a v e = (rw e at (opens_as a v)).1

  -- the table store keeps its length
  pub opened-length : (q : Linked) (a v : Option (List ℕ)) → opened_for p t srm a v ≡ some q → length q.tables ≡ length t
  opened-length q a v e = (rw e at (opens_as a v)).2

  pub opened_window : (q : Linked) (a v : Option (List ℕ)) → opened_for p t srm a v ≡ some q → q.peer.window ≡ p.window
  opened_window q a v e = (rw e at (opens_as a v)).3

  -- and the nonces that it remembers
  pub opened-nonces : (q : Linked) (a v : Option (List ℕ)) → opened_for p t srm a v ≡ some q → SameNonces q.tables t
  opened-nonces q a v e = (rw e at (opens_as a v)).4

  pub full-standing : (a v : Option (List ℕ)) → opened_for p t srm a v ≡ none → opens_for (standing_of p t past) srm a v ≡ standing_of p t past
  full-standing a v e = rw e at (opens_as a v)
