-- A call that closes connections and is not refused has passed every test of its step, so what it leaves is `closes`: the ids are those of
-- `closed-ids`, and their order plays no part. Assumes nothing.
use mathlib.Core.Path.{◌≡◌, refl, sym, ap, ◌∙◌, subst}
use mathlib.Core.List.{List, [], ◌∷◌}
use mathlib.Core.Bool.{Bool, true, false, ◌&&◌, not}
use Prim.Native.Nat.{ℕ, ◌≤◌}
use native.Mathlib.Omega.{arith}
use lib.ListN.{length, take}
use lib.Dec.{ltb, leb, eqb}
use borrow.Author.Tests.{leb-true, eqb-true}
use Rattle.base.specs.Pick.{pick}
use Rattle.journal.specs.Ids.{without_all, all_open, repeats}
use Rattle.journal.specs.Calls.{goes, refused}
use Rattle.journal.proofs.Closing.{in_any_order}
use Rattle.connection.specs.Peer.{peer_with, ids_of, cleared_peer, left_peer}
use Rattle.connection.specs.declared.peer.Peer.{Peer}
use Rattle.connection.proofs.Closing.{with_count}
use Rattle.server.specs.declared.Await.TheVariants as await
use Rattle.server.specs.declared.Engine.{Engine}
use Rattle.model.specs.Step.{Called, engine_with}
use Rattle.model.specs.Dispatch.{busy}
use Rattle.model.specs.Guard.{sound, short_tables, same_await}
use Rattle.model.specs.Close.{Remaining, Closed, closed_all, closed_peer, closes, close_checked}
use Rattle.model.specs.Calls.{connections_closed_step}
use Rattle.model.specs.Refusals.{verdict_of}
use Rattle.model.specs.Runs.{State, beside, state_of}
use Rattle.model.specs.ClosedTogether.{open_in, ClosedTogether, ClosesTogether}
use Rattle.model.proofs.Fit.{and_left, and_right, tables-room}
use Rattle.model.proofs.Closing.{closed-ids, closed-count}

-- a refusal does not go
no_refusal : {A : Type 0} (n : ℕ) → refused n ≡ goes → A
no_refusal n i = absurd (let z : ◌≡◌ {A = ℕ} 0 1 = cc in omega arith)

-- what a call that went has passed: the ids have their places, and all were closed
record Went (e : Engine) (l t : List ℕ) : Type 0 where
  room : e.peer.count ≤ length t
  is : connections_closed_step e l t ≡ closes e l (closed_all l e.peer.count t)

few-open : (e : Engine) → sound e ≡ true → e.peer.count ≤ 64
unfolding sound
few-open e k =
    let a = and_right (ltb e.begun 65535) _ k in
    let b = and_right (leb e.length 65535) _ a in
    leb-true _ _ (and_left (leb e.peer.count 64) _ b)

module _ (e : Engine) (l t : List ℕ) where
  abbrev fitted : Bool
  fitted = sound e && (same_await e.awaits await.Bytes && not (busy e.operation))

  went : verdict_of (connections_closed_step e l t).took.outcome ≡ goes → Went e l t
  unfolding connections_closed_step close_checked
  went = go (short_tables t) fitted (ltb 64 (length l)) (all_open l (ids_of e.peer t)) (repeats l) refl refl refl refl refl
    where
      go : (a b c d f : Bool) → short_tables t ≡ a → fitted ≡ b → ltb 64 (length l) ≡ c → all_open l (ids_of e.peer t) ≡ d → repeats l ≡ f
          → verdict_of (connections_closed_step e l t).took.outcome ≡ goes → Went e l t
      go true b c d f i j k m n = λ v. no_refusal 10 (simp i at v)
      go false false c d f i j k m n = λ v. no_refusal 9 (simp (i, j) at v)
      go false true true d f i j k m n = λ v. no_refusal 19 (simp (i, j, k) at v)
      go false true false false f i j k m n = λ v. no_refusal 20 (simp (i, j, k, m) at v)
      go false true false true true i j k m n = λ v. no_refusal 21 (simp (i, j, k, m, n) at v)
      go false true false true false i j k m n =
          λ v. record { room = omega (arith, few-open e (and_left _ _ j), tables-room t i); is = simp (i, j, k, m, n) }

-- ---- what is left

-- the peer counts those that are left
left-count : (p : Peer) (n : ℕ) → (left_peer p n).count ≡ n
unfolding peer_with
left-count p n = go (eqb n 0) refl
  where
    go : (b : Bool) → eqb n 0 ≡ b → (pick b (cleared_peer p) (with_count p n)).count ≡ n
    go true i = sym (eqb-true n 0 i)
    go false i = refl

closed-counts : (p : Peer) (t l : List ℕ) → (closed_peer p l (closed_all l p.count t).count).count ≡ (closed_all l p.count t).count
unfolding closed_all
closed-counts p t [] = refl
closed-counts p t (x ∷ l) = left-count p _

module _ (s : State) (l : List ℕ) (r : s.engine.peer.count ≤ length s.tables) where
  abbrev p : Peer
  p = s.engine.peer

  abbrev y : Remaining
  y = closed_all l p.count s.tables

  abbrev after : State
  after = state_of (beside s (closes s.engine l y))

  opened : open_in after ≡ without_all l (open_in s)
  unfolding engine_with
  opened = ap (λ (n : ℕ). take n y.tables) (closed-counts p s.tables l) ∙ closed-ids l p.count s.tables r

  peer-cleared : (i : ℕ) (k : List ℕ) → l ≡ i ∷ k → open_in after ≡ [] → closed_peer p l y.count ≡ cleared_peer p
  peer-cleared i k q n =
      ap (λ (m : List ℕ). closed_peer p m y.count) q
      ∙ ap (left_peer p) (closed-count l p.count s.tables r ∙ ap length (sym opened ∙ n))

  unchanged : l ≡ [] → after ≡ s
  unfolding engine_with closed_all
  unchanged q = ap (λ (m : List ℕ). state_of (beside s (closes s.engine m (closed_all m p.count s.tables)))) q

  all_closed : ClosedTogether s l after
  unfolding engine_with
  all_closed =
      record {
        remain = λ m q. opened ∙ in_any_order.order (open_in s) l m q;
        cleared = peer-cleared;
        none = unchanged;
        settings = refl;
        operation = refl;
        awaits = refl;
        begun = refl;
      }

pub closes_together : ClosesTogether
closes_together s l x says v =
    let at : x ≡ beside s (connections_closed_step s.engine l s.tables) = says.step in
    let w = went s.engine l s.tables (sym (ap (λ (m : Called). verdict_of m.took.outcome) at) ∙ v) in
    subst (ClosedTogether s l) (sym (ap state_of at ∙ ap (λ (m : Closed). state_of (beside s m)) w.is))
    (all_closed s l w.room)
