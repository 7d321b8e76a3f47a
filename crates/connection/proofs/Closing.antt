-- Taking an id out of a list, place by place. Assumes nothing.
use Rattle.std.proofs.Common.{◌≡◌, ℕ, suc, ◌+◌, ◌<◌, ◌≤◌, Bool, true, false, eqb, List, [], ◌∷◌, ◌++◌, length, get_or, take, drop, set, sym, refl, ap, ◌∙◌, append-nil, add-one, arith, length-append, length-take, take-suc, eq-eqb, ne_eqb}
use lib.Seq.{take-append_seam}
use Rattle.base.specs.Pick.{pick}
use Rattle.journal.specs.Ids.{without}
use Rattle.connection.specs.declared.peer.Peer.{Peer}
use Rattle.connection.specs.Peer.{peer_with, closed_tables}
use Rattle.connection.specs.Reply.{front}
use Rattle.table.specs.Targets.{targets_closed}
use Rattle.table.proofs.Remembering.{SameNonces, same-behind, same-before}
use Rattle.table.proofs.Columns.{length_columns, columns_front}
use Rattle.connection.proofs.Front.{front_length, front-behind, front-drop, front-set}

pub without_shorter : (x : ℕ) (l : List ℕ) → length (without x l) ≤ length l
unfolding without
without_shorter x [] = omega arith
without_shorter x (y ∷ l) = go (eqb x y) (without_shorter x l)
  where
    go : (t : Bool) → length (without x l) ≤ length l → length (pick t (without x l) (y ∷ without x l)) ≤ suc (length l)
    go true h = omega arith
    go false h = omega arith

without-last : (x : ℕ) (l : List ℕ) (y : ℕ) → without x (l ++ (y ∷ [])) ≡ without x l ++ without x (y ∷ [])
unfolding without
without-last x [] y = refl
without-last x (z ∷ l) y = go (eqb x z) (without-last x l y)
  where
    go : (t : Bool) → without x (l ++ (y ∷ [])) ≡ without x l ++ without x (y ∷ [])
        → pick t (without x (l ++ (y ∷ []))) (z ∷ without x (l ++ (y ∷ []))) ≡ pick t (without x l) (z ∷ without x l) ++ without x (y ∷ [])
    go true e = e
    go false e = ap (λ (k : List ℕ). z ∷ k) e

-- the first i numbers are gone through: those kept stand in front
pub record Closed (ids₀ : List ℕ) (x i : ℕ) (ids : List ℕ) (kept : ℕ) : Type 0 where
  pub count : kept ≡ length (without x (take i ids₀))
  pub store : ids ≡ front (without x (take i ids₀)) ids₀

pub closed_none : (ids : List ℕ) (x : ℕ) → Closed ids x 0 ids 0
unfolding without
closed_none ids x = record { count = refl; store = refl }

pub closed_bounds : (ids₀ : List ℕ) (x i : ℕ) (ids : List ℕ) (kept : ℕ) → i ≤ length ids₀ → Closed ids₀ x i ids kept
    → (kept ≤ i) × (length ids ≡ length ids₀)
closed_bounds ids₀ x i ids kept h c =
    let few : length (without x (take i ids₀)) ≤ i = omega (arith, without_shorter x (take i ids₀), length-take i ids₀) in
    (omega (arith, c.count), ap length c.store ∙ front_length (without x (take i ids₀)) ids₀ (omega arith))

module _ (ids₀ : List ℕ) (x i : ℕ) (ids : List ℕ) (kept : ℕ) (h : i < length ids₀) (c : Closed ids₀ x i ids kept) where
  few : length (without x (take i ids₀)) ≤ i
  few = omega (arith, c.count, (closed_bounds ids₀ x i ids kept (omega arith) c).0)

  same : get_or ids i 0 ≡ get_or ids₀ i 0
  same = ap (λ (l : List ℕ). get_or l i 0) c.store ∙ front-behind (without x (take i ids₀)) ids₀ i few

  step : without x (take (i + 1) ids₀) ≡ without x (take i ids₀) ++ without x (get_or ids₀ i 0 ∷ [])
  step = ap (without x) (ap (λ (n : ℕ). take n ids₀) (add-one i) ∙ take-suc ids₀ i 0 h) ∙ without-last x (take i ids₀) (get_or ids₀ i 0)

  keeps : (get_or ids i 0 ≡ x → ⊥) → without x (take (i + 1) ids₀) ≡ without x (take i ids₀) ++ (get_or ids₀ i 0 ∷ [])
  unfolding without
  keeps ne = step ∙ rw (ne_eqb x (get_or ids₀ i 0) (λ e. ne (same ∙ sym e)))

  skips : get_or ids i 0 ≡ x → without x (take (i + 1) ids₀) ≡ without x (take i ids₀)
  unfolding without
  skips e = step ∙ rw (eq-eqb x (get_or ids₀ i 0) (sym e ∙ same)) (append-nil (without x (take i ids₀)))

  pub closed-keeps : (get_or ids i 0 ≡ x → ⊥) → Closed ids₀ x (i + 1) (set ids kept (get_or ids i 0)) (kept + 1)
  closed-keeps ne =
      record {
        count = rw (keeps ne, length-append, ← c.count) refl;
        store = rw (c.count, same, keeps ne, c.store) (front-set (without x (take i ids₀)) ids₀ (get_or ids₀ i 0) (omega (arith, few)));
      }

  pub closed_skips : get_or ids i 0 ≡ x → Closed ids₀ x (i + 1) ids kept
  closed_skips e = record { count = rw (skips e) c.count; store = rw (skips e) c.store }

-- ---- the table store once an id was closed; above this crate these laws and those of `Carrying` alone are known of it

-- the ids that are left stand at its front
pub closed-front : (x n : ℕ) (t : List ℕ) → n ≤ length t → take (length (without x (take n t))) (closed_tables x n t) ≡ without x (take n t)
unfolding closed_tables
closed-front x n t h = take-append_seam (without x (take n t)) (drop (length (without x (take n t))) (targets_closed x n t))

-- it keeps its length
pub closed-length : (x n : ℕ) (t : List ℕ) → n ≤ length t → length (closed_tables x n t) ≡ length t
unfolding closed_tables
closed-length x n t h =
    front_length (without x (take n t)) (targets_closed x n t) (omega (arith, without_shorter x (take n t), length-take n t, length_columns x n t))
    ∙ length_columns x n t

-- and the nonces that it remembers
pub closed-nonces : (x n : ℕ) (t : List ℕ) → n ≤ 64 → SameNonces (closed_tables x n t) t
unfolding closed_tables
closed-nonces x n t h k l =
    same-behind _ (targets_closed x n t)
    (front-drop (without x (take n t)) (targets_closed x n t) 64 (omega (arith, without_shorter x (take n t), length-take n t))) k l
    ∙ same-before (targets_closed x n t) t (columns_front x n t 128 (omega arith)) k l

-- the peer with `n` ids open and all else as it was
abbrev pub with_count : Peer → ℕ → Peer
with_count p n =
    peer_with n p.next_connection_id p.remote_max_packet_length p.srm_enabled p.authenticated p.challenge p.window p.nonces
