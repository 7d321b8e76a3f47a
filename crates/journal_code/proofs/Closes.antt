-- Ids that are closed one after the other, four bytes each: what is still to be closed decides what is left. Assumes nothing.
use mathlib.Core.Path.{◌≡◌, refl, sym, ap, ap₂, ◌∙◌}
use mathlib.Core.List.{List, [], ◌∷◌, ◌++◌}
use Prim.Native.Nat.{ℕ, ◌+◌, ◌-◌, ◌≤◌, ◌<◌}
use native.Mathlib.Omega.{arith}
use lib.ListN.{length, take, drop, length-take, length-drop}
use Rattle.base.specs.Bytes.{be32}
use Rattle.journal.specs.Ids.{without}
use Rattle.connection.specs.Peer.{closed_tables}
use Rattle.connection.proofs.Closing.{without_shorter, closed-length}
use Rattle.filing.specs.Kinds.{ids_in}
use Rattle.journal_code.specs.Answer.{remaining, closed_all}

-- four bytes are an id
first_id : (l : List ℕ) → 4 ≤ length l → ids_in l ≡ be32 l 0 ∷ ids_in (drop 4 l)
unfolding ids_in
first_id [] h = absurd (omega arith)
first_id (a ∷ []) h = absurd (omega arith)
first_id (a ∷ b ∷ []) h = absurd (omega arith)
first_id (a ∷ b ∷ c ∷ []) h = absurd (omega arith)
first_id (a ∷ b ∷ c ∷ d ∷ l) h = refl

-- and fewer are none
pub no_id : (l : List ℕ) → length l < 4 → ids_in l ≡ []
unfolding ids_in
no_id [] h = refl
no_id (a ∷ []) h = refl
no_id (a ∷ b ∷ []) h = refl
no_id (a ∷ b ∷ c ∷ []) h = refl
no_id (a ∷ b ∷ c ∷ d ∷ l) h = absurd (omega arith)

-- some are there
pub some-ids : (l : List ℕ) → 4 ≤ length l → ids_in l ≡ be32 l 0 ∷ ids_in (drop 4 l)
some-ids l h = first_id l h

-- four bytes in front of others are an id in front of theirs
id_before : (x l : List ℕ) → length x ≡ 4 → ids_in (x ++ l) ≡ be32 x 0 ∷ ids_in l
unfolding ids_in
id_before (a ∷ b ∷ c ∷ d ∷ []) l h = refl
id_before [] l h = absurd (omega arith)
id_before (a ∷ []) l h = absurd (omega arith)
id_before (a ∷ b ∷ []) l h = absurd (omega arith)
id_before (a ∷ b ∷ c ∷ []) l h = absurd (omega arith)
id_before (a ∷ b ∷ c ∷ d ∷ e ∷ x) l h = absurd (omega arith)

-- what is still to be closed stands in `rest`
pub record Closing (ids : List ℕ) (n : ℕ) (t₀ : List ℕ) (rest : List ℕ) (left : ℕ) (t : List ℕ) : Type 0 where
  pub few : left ≤ 64
  pub room : 320 ≤ length t
  pub same : length t ≡ length t₀
  pub still : closed_all (ids_in ids) n t₀ ≡ closed_all (ids_in rest) left t

pub begins : (ids : List ℕ) (n : ℕ) (t : List ℕ) (rest : List ℕ) → rest ≡ ids → n ≤ 64 → 320 ≤ length t → Closing ids n t rest n t
begins ids n t rest e f r = record { few = f; room = r; same = refl; still = rw e refl }

pub closing_on : (ids : List ℕ) (n : ℕ) (t₀ : List ℕ) (before x rest : List ℕ) (left : ℕ) (t : List ℕ) (i m : ℕ) (u : List ℕ) → length x ≡ 4
    → before ≡ x ++ rest → Closing ids n t₀ before left t → i ≡ be32 x 0 → m ≡ length (without i (take left t)) → u ≡ closed_tables i left t
    → Closing ids n t₀ rest m u
unfolding closed_all
closing_on ids n t₀ before x rest left t i m u h b k ei em eu =
    let l : length u ≡ length t = ap length eu ∙ closed-length i left t (omega (arith, k.few, k.room)) in
    record {
      few = omega (arith, em, without_shorter i (take left t), length-take left t, k.few);
      room = omega (arith, l, k.room);
      same = l ∙ k.same;
      still =
          k.still ∙ ap (λ (y : List ℕ). closed_all (ids_in y) left t) b ∙ ap (λ (y : List ℕ). closed_all y left t) (id_before x rest h)
          ∙ rw (em, eu, ei);
    }

pub done : (ids : List ℕ) (n : ℕ) (t₀ : List ℕ) (rest : List ℕ) (left : ℕ) (t : List ℕ) → Closing ids n t₀ rest left t → length rest < 4
    → remaining left t ≡ closed_all (ids_in ids) n t₀
unfolding closed_all
done ids n t₀ rest left t k h = sym (k.still ∙ ap (λ (y : List ℕ). closed_all y left t) (no_id rest h))
