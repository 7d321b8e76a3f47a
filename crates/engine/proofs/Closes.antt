-- Ids that are closed together, place by place of their list, and what the model says of them by numbers. Assumes nothing.
use Rattle.std.specs.Prelude.{nat_eq}
use Rattle.std.specs.List.{list_all, list_any}
use mathlib.Core.Path.{◌≡◌, refl, sym, ap, ap₂, ◌∙◌}
use mathlib.Core.List.{List, [], ◌∷◌}
use mathlib.Core.Bool.{Bool, true, false, ◌&&◌, ◌||◌, not}
use Prim.Native.Nat.{ℕ, ◌+◌, ◌-◌, ◌≤◌, ◌<◌}
use native.Mathlib.Omega.{arith}
use native.Mathlib.Numerals.{add-one}
use lib.Dec.{ltb, eqb}
use lib.ListN.{length, get_or, take, drop, length-take, length-drop, drop_of_length-le}
use lib.Seq.{drop-cons, take-length}
use borrow.Author.Tests.{ltb-false, ne_eqb, eqb-true, eqb-false}
use Rattle.journal.specs.Ids.{member, without, all_open, repeats}
use Rattle.connection.specs.Peer.{ids_of, closed_tables}
use Rattle.connection.specs.declared.peer.Peer.{Peer}
use Rattle.connection.proofs.Closing.{without_shorter, closed-length}
use Rattle.model.specs.Dispatch.{busy}
use Rattle.model.specs.Close.{remaining, closed_all, closed_peer, closed, refuse_closing, goes_on_with, closes, close_checked}
use Rattle.model.specs.Guard.{sound, short_tables, same_await}
use Rattle.model.specs.Calls.{connections_closed_step}
use Rattle.model.proofs.Fit.{and_left}
use Rattle.server.specs.declared.Await.TheVariants as await
use Rattle.server.specs.declared.Refusal.{Refusal}
use Rattle.server.specs.declared.Refusal.TheVariants as refusal
use Rattle.server.specs.declared.Engine.{Engine}
use Rattle.server.specs.declared.CallResult.{CallResult}
use Rattle.engine.specs.Close.{guarded_close, judged_close, closed_by}
use Rattle.engine.proofs.Guards.{bounds, told_refusal, no_refusal}
use Rattle.engine.specs.Guard.{Verdict, proceed, refuses}

-- ---- a list from a place on

from_place : (l : List ℕ) (i : ℕ) → i < length l → drop i l ≡ get_or l i 0 ∷ drop (i + 1) l
from_place l i h = rw (add-one i) (drop-cons l i 0 h)

pub none-behind : (l : List ℕ) (i : ℕ) → length l ≤ i → drop i l ≡ []
none-behind l i h = drop_of_length-le l {i = i} h

pub repeats-from : (l : List ℕ) (i : ℕ) → i < length l → repeats (drop i l) ≡ member (get_or l i 0) (drop (i + 1) l) || repeats (drop (i + 1) l)
unfolding repeats
repeats-from l i h = ap repeats (from_place l i h)

-- ---- what the slice's own methods tell

pub opened : (ids l : List ℕ) → list_all (λ x. member x ids) l ≡ all_open l ids
unfolding all_open
opened ids [] = refl
opened ids (x ∷ l) = ap (λ (b : Bool). member x ids && b) (opened ids l)

same_both : (x y : ℕ) → eqb x y ≡ eqb y x
same_both x y = go (eqb x y) refl
  where
    go : (b : Bool) → eqb x y ≡ b → eqb x y ≡ eqb y x
    go true e = let q : x ≡ y = eqb-true x y e in rw q
    go false e = let n = eqb-false x y e in e ∙ sym (ne_eqb y x (λ q. n (sym q)))

pub contained : (x : ℕ) (l : List ℕ) → list_any (λ y. nat_eq y x) l ≡ member x l
contained x [] = refl
contained x (y ∷ l) = ap₂ (λ (a b : Bool). a || b) (same_both y x) (contained x l)

-- `contains` asks of the ids behind place `i`
pub repeats_by : (l : List ℕ) (i : ℕ) (r : Bool) → i < length l
    → r ≡ list_any (λ y. nat_eq y (get_or l i 0)) (take (length l - (i + 1)) (drop (i + 1) l))
    → repeats (drop i l) ≡ r || repeats (drop (i + 1) l)
repeats_by l i r h e =
    let b = drop (i + 1) l in
    let n : length l - (i + 1) ≡ length b = omega (arith, length-drop (i + 1) l) in
    repeats-from l i h
    ∙ ap (λ (x : Bool). x || repeats b)
    (sym (e ∙ contained (get_or l i 0) (take (length l - (i + 1)) b) ∙ ap (member (get_or l i 0)) (ap (λ (k : ℕ). take k b) n ∙ take-length b)))

-- ---- closing one after the other

-- the ids from place `i` on are still to be closed, of `n` in the table store `t`
pub record Closing (l : List ℕ) (n₀ : ℕ) (t₀ : List ℕ) (i n : ℕ) (t : List ℕ) : Type 0 where
  pub few : n ≤ 64
  pub room : 320 ≤ length t
  pub same : length t ≡ length t₀
  pub left : closed_all (drop i l) n t ≡ closed_all l n₀ t₀

pub closing-begins : (l : List ℕ) (n : ℕ) (t : List ℕ) → n ≤ 64 → 320 ≤ length t → Closing l n t 0 n t
closing-begins l n t f r = record { few = f; room = r; same = refl; left = refl }

pub closing_on : (l : List ℕ) (n₀ : ℕ) (t₀ : List ℕ) (i n m : ℕ) (t u : List ℕ) → Closing l n₀ t₀ i n t → i < length l
    → m ≡ length (without (get_or l i 0) (take n t)) → u ≡ closed_tables (get_or l i 0) n t → Closing l n₀ t₀ (i + 1) m u
unfolding closed_all
closing_on l n₀ t₀ i n m t u c h a b =
    let fewer : length (without (get_or l i 0) (take n t)) ≤ n = omega (arith, without_shorter (get_or l i 0) (take n t), length-take n t) in
    let long : length u ≡ length t = ap length b ∙ closed-length (get_or l i 0) n t (omega (arith, c.few, c.room)) in
    record {
      few = omega (arith, a, c.few);
      room = omega (arith, long, c.room);
      same = long ∙ c.same;
      left = rw (a, b) (sym (ap (λ (k : List ℕ). closed_all k n t) (from_place l i h)) ∙ c.left);
    }

pub closing-done : (l : List ℕ) (n₀ : ℕ) (t₀ : List ℕ) (i n : ℕ) (t : List ℕ) → Closing l n₀ t₀ i n t → length l ≤ i
    → remaining n t ≡ closed_all l n₀ t₀
unfolding closed_all
closing-done l n₀ t₀ i n t c h = sym (ap (λ (k : List ℕ). closed_all k n t) (none-behind l i h)) ∙ c.left

-- the peer by how many were closed
pub closed_by_lem : (p : Peer) (l : List ℕ) (n : ℕ) → closed_by p (length l) n ≡ closed_peer p l n
closed_by_lem p [] n = refl
closed_by_lem p (x ∷ l) n = rw (ne_eqb (length (x ∷ l)) 0 (λ z. omega (arith, z)))

-- ---- the guard, and what it says of the ids

abbrev fitted : Engine → Bool
fitted e = sound e && (same_await e.awaits await.Bytes && not (busy e.operation))

-- what the call knows where it goes on
pub record Closable (e : Engine) (t : List ℕ) : Type 0 where
  pub few : e.peer.count ≤ 64
  pub room : 320 ≤ length t
  pub whole : (l : List ℕ) → connections_closed_step e l t ≡ close_checked e l t

module _ (e : Engine) (t : List ℕ) (x : Verdict) (p : x ≡ guarded_close e (length t)) where
  -- where the guard refuses, the model refuses with the same
  pub guard_turned : (l : List ℕ) (r : Refusal) → x ≡ refuses r → refuse_closing r e t ≡ connections_closed_step e l t
  unfolding guarded_close connections_closed_step short_tables
  guard_turned l r w = by (ltb (length t) 320) (fitted e) refl refl (sym p ∙ w)
    where
      by : (s f : Bool) → ltb (length t) 320 ≡ s → fitted e ≡ f → guarded_close e (length t) ≡ refuses r
          → refuse_closing r e t ≡ connections_closed_step e l t
      by true f h i q = let z : refuses refusal.StoreTooShort ≡ refuses r = simp h at q in simp (h, sym (told_refusal _ _ z))
      by false true h i q = let z : proceed ≡ refuses r = simp (h, i) at q in absurd (no_refusal r z)
      by false false h i q = let z : refuses refusal.WrongMoment ≡ refuses r = simp (h, i) at q in simp (h, i, sym (told_refusal _ _ z))

  pub guard_passed : x ≡ proceed → Closable e t
  unfolding guarded_close connections_closed_step short_tables
  guard_passed w = by (ltb (length t) 320) (fitted e) refl refl (sym p ∙ w)
    where
      by : (s f : Bool) → ltb (length t) 320 ≡ s → fitted e ≡ f → guarded_close e (length t) ≡ proceed → Closable e t
      by true f h i q = let z : refuses refusal.StoreTooShort ≡ proceed = simp h at q in absurd (no_refusal _ (sym z))
      by false false h i q = let z : refuses refusal.WrongMoment ≡ proceed = simp (h, i) at q in absurd (no_refusal _ (sym z))
      by false true h i q =
          let few = (bounds e (and_left _ _ i)).count in
          let long : 320 ≤ length t = ltb-false _ _ h in
          record { few = few; room = long; whole = λ l. simp (h, i) }

module _ (e : Engine) (l t : List ℕ) (x : Verdict) (p : x ≡ judged_close l (ids_of e.peer t)) where
  pub judge-turned : (r : Refusal) → x ≡ refuses r → refuse_closing r e t ≡ close_checked e l t
  unfolding judged_close close_checked
  judge-turned r w = by (ltb 64 (length l)) (all_open l (ids_of e.peer t)) (repeats l) refl refl refl (sym p ∙ w)
    where
      by : (a b c : Bool) → ltb 64 (length l) ≡ a → all_open l (ids_of e.peer t) ≡ b → repeats l ≡ c → judged_close l (ids_of e.peer t) ≡ refuses r
          → refuse_closing r e t ≡ close_checked e l t
      by true b c h i k q = let z : refuses refusal.TooManyIds ≡ refuses r = simp h at q in simp (h, sym (told_refusal _ _ z))
      by false false c h i k q = let z : refuses refusal.IdNotOpen ≡ refuses r = simp (h, i) at q in simp (h, i, sym (told_refusal _ _ z))
      by false true true h i k q = let z : refuses refusal.IdRepeated ≡ refuses r = simp (h, i, k) at q in simp (h, i, k, sym (told_refusal _ _ z))
      by false true false h i k q = let z : proceed ≡ refuses r = simp (h, i, k) at q in absurd (no_refusal r z)

  pub judge_passed : x ≡ proceed → close_checked e l t ≡ closes e l (closed_all l e.peer.count t)
  unfolding judged_close close_checked
  judge_passed w = by (ltb 64 (length l)) (all_open l (ids_of e.peer t)) (repeats l) refl refl refl (sym p ∙ w)
    where
      by : (a b c : Bool) → ltb 64 (length l) ≡ a → all_open l (ids_of e.peer t) ≡ b → repeats l ≡ c → judged_close l (ids_of e.peer t) ≡ proceed
          → close_checked e l t ≡ closes e l (closed_all l e.peer.count t)
      by true b c h i k q = let z : refuses refusal.TooManyIds ≡ proceed = simp h at q in absurd (no_refusal _ (sym z))
      by false false c h i k q = let z : refuses refusal.IdNotOpen ≡ proceed = simp (h, i) at q in absurd (no_refusal _ (sym z))
      by false true true h i k q = let z : refuses refusal.IdRepeated ≡ proceed = simp (h, i, k) at q in absurd (no_refusal _ (sym z))
      by false true false h i k q = simp (h, i, k)

  -- all were closed
  pub all_closed : Closable e t → x ≡ proceed → (n : ℕ) (u : List ℕ) → remaining n u ≡ closed_all l e.peer.count t → (q : Peer)
      → q ≡ closed_by e.peer (length l) n → (r : CallResult) → r ≡ goes_on_with e q → closed r u ≡ connections_closed_step e l t
  all_closed g w n u a q b r c =
      ap (λ (y : CallResult). closed y u) c
      ∙ ap (λ (y : Peer). closed (goes_on_with e y) u) (b ∙ closed_by_lem e.peer l n)
      ∙ ap (closes e l) a
      ∙ sym (judge_passed w)
      ∙ sym (g.whole l)
