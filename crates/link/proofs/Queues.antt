-- Packets that are under way, one behind the other, of the first of which some bytes have come: one more goes onto the end. Assumes nothing.
use mathlib.Core.Path.{◌≡◌, refl, sym, ap, subst₂, ◌∙◌}
use mathlib.Core.List.{List, [], ◌∷◌, ◌++◌, append_assoc}
use Prim.Native.Nat.{ℕ, ◌≤◌}
use lib.ListN.{length}
use Rattle.incoming.proofs.Queued.{IsWhole, none_come}
use Rattle.link.proofs.Joint.{Begun}

-- the bytes of some packets
abbrev pub join_all : List (List ℕ) → List ℕ
join_all [] = []
join_all (q ∷ qs) = q ++ join_all qs

abbrev pub AllWhole : List (List ℕ) → Type 0
AllWhole [] = Unit {0}
AllWhole (q ∷ qs) = IsWhole q × AllWhole qs

-- they are the queue `up`; `b` bytes of the first have come into the store `p`
abbrev pub Queue : List (List ℕ) → List ℕ → List ℕ → ℕ → Type 0
Queue [] p up b = (up ≡ []) × (b ≡ 0)
Queue (q ∷ qs) p up b = Begun q p up (join_all qs) b

-- nothing of the first has come
pub queue-next : (qs : List (List ℕ)) (p : List ℕ) → AllWhole qs → 65535 ≤ length p → Queue qs p (join_all qs) 0
queue-next [] p w r = (refl, refl)
queue-next (q ∷ qs) p w r = record { rest = q; half = none_come q p w.0 r; is = refl }

join-append : (ps qs : List (List ℕ)) → join_all (ps ++ qs) ≡ join_all ps ++ join_all qs
join-append [] qs = refl
join-append (p ∷ ps) qs = ap (λ (l : List ℕ). p ++ l) (join-append ps qs) ∙ sym (append_assoc p (join_all ps) (join_all qs))

-- some more
pub queue-more : (ps qs : List (List ℕ)) (p up : List ℕ) (b : ℕ) → Queue ps p up b → AllWhole qs → 65535 ≤ length p
    → Queue (ps ++ qs) p (up ++ join_all qs) b
queue-more [] qs p up b w g r =
    subst₂ (λ (u : List ℕ) (n : ℕ). Queue qs p (u ++ join_all qs) n) (sym w.0) (sym w.1) (queue-next qs p g r)
queue-more (x ∷ ps) qs p up b w g r =
    record {
      rest = w.rest;
      half = w.half;
      is = ap (λ (l : List ℕ). l ++ join_all qs) w.is ∙ append_assoc w.rest (join_all ps) (join_all qs)
          ∙ ap (λ (l : List ℕ). w.rest ++ l) (sym (join-append ps qs));
    }

pub whole_append : (ps qs : List (List ℕ)) → AllWhole ps → AllWhole qs → AllWhole (ps ++ qs)
whole_append [] qs a b = b
whole_append (p ∷ ps) qs a b = (a.0, whole_append ps qs a.1 b)
