-- A text stored piece after piece: what is left of it, and what stands in the store. Assumes nothing.
use mathlib.Core.Path.{◌≡◌, refl, sym, ap, ◌∙◌}
use mathlib.Core.List.{List, [], ◌++◌, append_assoc, append-nil}
use Prim.Native.Nat.{ℕ, ◌+◌, ◌≤◌, ◌<◌}
use native.Mathlib.Omega.{arith}
use borrow.Author.Tests.{le-ltb, lt-ltb}
use lib.ListN.{length, take, drop, length-append, take-append-drop}
use lib.Seq.{paste, take-length, sets, sets-eq, length-sets, length-take-le, take_at, drop_at, drop-drop}
use Rattle.text.specs.declared.Piece.{Piece}
use Rattle.text.specs.declared.Form.{Form}
use Rattle.std.specs.Prelude.{Ok, Err}
use Rattle.base.specs.Store.{short}
use Rattle.text.specs.Unicode.{codes, joined}
use Rattle.text.specs.Text.{pieces_of, encoded, recoded, stored, store_text}
use Rattle.text.specs.Pieces.{ReadsOne}

-- ---- the text from a place on

unfoldable pub rest : Form → Form → List ℕ → ℕ → List ℕ
rest from to s at = joined (encoded to) (codes (pieces_of from (drop at s)))

module _ (from to : Form) (s : List ℕ) where
  pub rest-start : recoded from to s ≡ rest from to s 0
  unfolding rest recoded
  rest-start = refl

  pub rest-one : (at : ℕ) (p : Piece) → ReadsOne from s at p → rest from to s at ≡ encoded to p.code ++ rest from to s (at + p.size)
  unfolding rest codes joined
  rest-one at p r = ap (λ (ps : List Piece). joined (encoded to) (codes ps)) r.first

  pub rest_end : (at : ℕ) → pieces_of from (drop at s) ≡ [] → rest from to s at ≡ []
  unfolding rest codes joined
  rest_end at e = ap (λ (ps : List Piece). joined (encoded to) (codes ps)) e

-- ---- a text, of which n bytes stand in d, which was d₀, and others are to come

pub record Half (text others d₀ d : List ℕ) (n : ℕ) : Type 0 where
  pub same : length d ≡ length d₀
  pub room : n ≤ length d
  pub ready : text ≡ take n d ++ others
  pub kept : drop n d ≡ drop n d₀

pub half_start : (text d : List ℕ) → Half text text d d 0
half_start text d = record { same = refl; room = omega arith; ready = refl; kept = refl }

module _ (text d₀ d : List ℕ) (n : ℕ) (fits : length text ≤ length d₀) where
  pub half_end : Half text [] d₀ d n → (n ≡ length text) × (d ≡ text ++ drop n d₀)
  half_end h =
      let e : text ≡ take n d = h.ready ∙ append-nil (take n d) in (
        sym (ap length e ∙ length-take-le n d h.room),
        sym (rw (e, ← h.kept) (take-append-drop n d)),
      )

  module _ (u more : List ℕ) (h : Half text (u ++ more) d₀ d n) where
    pub half_room : n + length u ≤ length d
    half_room =
        let a = length-append (take n d) (u ++ more) in
        let b = length-append u more in
        omega (arith, ap length h.ready, a, b, length-take-le n d h.room, h.same)

    pub half_more : Half text more d₀ (sets d n u) (n + length u)
    half_more =
        let l : length (take n d ++ u) ≡ n + length u = length-append (take n d) u ∙ ap (λ (k : ℕ). k + length u) (length-take-le n d h.room) in
        let q : sets d n u ≡ (take n d ++ u) ++ drop (n + length u) d = sets-eq u d n half_room in
        record {
          same = length-sets d n u ∙ h.same;
          room = omega (arith, length-sets d n u, half_room);
          ready =
              h.ready ∙ sym (append_assoc (take n d) u more)
              ∙ ap (λ (k : List ℕ). k ++ more) (sym (ap (take (n + length u)) q ∙ take_at (take n d ++ u) (drop (n + length u) d) (n + length u) l));
          kept =
              ap (drop (n + length u)) q ∙ drop_at (take n d ++ u) (drop (n + length u) d) (n + length u) l
              ∙ sym (drop-drop (length u) n d) ∙ ap (drop (length u)) h.kept ∙ drop-drop (length u) n d₀;
        }

-- bytes pasted are bytes stored one after the other
pub paste_sets : (d vs : List ℕ) (n : ℕ) → n + length vs ≤ length d → paste d n vs (length vs) ≡ sets d n vs
paste_sets d vs n h = rw (take-length vs) (append_assoc (take n d) vs (drop (n + length vs) d) ∙ sym (append_assoc (take n d) vs (drop (n + length vs) d)) ∙ sym (sets-eq vs d n h))

-- ---- the answers

pub stored-whole : (text d₀ d : List ℕ) (n : ℕ) → length text ≤ length d₀ → n ≡ length text → d ≡ text ++ drop n d₀
    → stored (Ok n) d ≡ store_text text d₀
unfolding store_text
stored-whole text d₀ d n fits e q = rw (q, e, le-ltb (length d₀) (length text) fits)

pub stored_short : (text d : List ℕ) → length d < length text → stored (Err short) d ≡ store_text text d
unfolding store_text
stored_short text d h = rw (lt-ltb (length d) (length text) h)
