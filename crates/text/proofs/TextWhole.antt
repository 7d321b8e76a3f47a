-- Whether all bytes are said by kept pieces, piece after piece. Assumes nothing.
use mathlib.Core.Path.{◌≡◌, refl, sym, ap, ◌∙◌}
use mathlib.Core.Bool.{Bool, true, false, ◌&&◌, and-false}
use mathlib.Core.List.{List, [], ◌∷◌}
use Prim.Native.Nat.{ℕ, zero, suc, ◌+◌, ◌≤◌, ◌<◌}
use native.Mathlib.Omega.{arith}
use borrow.Author.Tests.{ne_eqb}
use lib.Dec.{eqb}
use lib.ListN.{length, drop, length-drop}
use lib.Seq.{take_all}
use Rattle.text.specs.declared.Piece.{Piece}
use Rattle.text.specs.declared.Form.{Form}
use Rattle.text.specs.Unicode.{up_to_zero_of, all_kept, sizes, whole, split8, pieces8, well_formed8}
use Rattle.text.specs.Text.{pieces_of}
use Rattle.text.specs.Pieces.{ReadsOne}
use Rattle.text.proofs.Cut.{cut-take}
use Rattle.text.proofs.Sequences.{start8, start-sized, start-within}

-- n bytes are passed, and the pieces ps are to come
abbrev pub whole_of : List Piece → ℕ → ℕ → Bool
whole_of ps n m = all_kept ps && eqb (n + sizes ps) m

unfoldable pub whole_at : Form → List ℕ → ℕ → Bool
whole_at f s at = whole_of (pieces_of f (drop at s)) at (length s)

kept_more : (p : Piece) (ps : List Piece) (n m : ℕ) → p.kept ≡ true → whole_of (p ∷ ps) n m ≡ whole_of ps (n + p.size) m
unfolding all_kept sizes
kept_more p ps n m k = let a : n + (p.size + sizes ps) ≡ n + p.size + sizes ps = omega arith in rw (k, a)

replaced_ends : (p : Piece) (ps : List Piece) (n m : ℕ) → p.kept ≡ false → whole_of (p ∷ ps) n m ≡ false
unfolding all_kept
replaced_ends p ps n m k = rw k

module _ (f : Form) (s : List ℕ) where
  pub whole-start : whole (pieces_of f s) (length s) ≡ whole_at f s 0
  unfolding whole whole_at
  whole-start = let z : 0 + sizes (pieces_of f s) ≡ sizes (pieces_of f s) = omega arith in rw z

  module _ (at : ℕ) (p : Piece) (r : ReadsOne f s at p) where
    pub whole-kept : p.kept ≡ true → whole_at f s at ≡ whole_at f s (at + p.size)
    unfolding whole_at
    whole-kept k = ap (λ (ps : List Piece). whole_of ps at (length s)) r.first ∙ kept_more p (pieces_of f (drop (at + p.size) s)) at (length s) k

    pub whole_replaced : p.kept ≡ false → whole_at f s at ≡ false
    unfolding whole_at
    whole_replaced k =
        ap (λ (ps : List Piece). whole_of ps at (length s)) r.first
        ∙ replaced_ends p (pieces_of f (drop (at + p.size) s)) at (length s) k

  pub whole-end : (at : ℕ) → pieces_of f (drop at s) ≡ [] → whole_at f s at ≡ eqb at (length s)
  unfolding whole_at all_kept sizes
  whole-end at e = let z : at + 0 ≡ at = omega arith in rw (e, z)

-- ---- UTF-8: the pieces are all bytes, so only a zero can leave some out

split_sizes : (n : ℕ) (s : List ℕ) → length s ≤ n → sizes (split8 n s) ≡ length s
unfolding sizes split8 start8
split_sizes zero [] h = refl
split_sizes zero (b ∷ r) h = absurd (omega arith)
split_sizes (suc n) [] h = refl
split_sizes (suc n) (b ∷ r) h =
    let p = start8 (b ∷ r) in
    let t = drop p.size (b ∷ r) in
    let l = length-drop p.size (b ∷ r) in
    let z = (start-sized (b ∷ r)).some in
    omega (arith, split_sizes n t (omega arith), start-within (b ∷ r) (omega arith))

pub sizes8 : (s : List ℕ) → sizes (pieces8 s) ≡ length s
unfolding pieces8
sizes8 s = split_sizes (length s) s (omega arith)

pub cut-some : (s : List ℕ) → length (up_to_zero_of s) < length s → well_formed8 s ≡ false
unfolding well_formed8 whole
cut-some s h =
    rw (ne_eqb (sizes (pieces8 (up_to_zero_of s))) (length s) (λ (e : sizes (pieces8 (up_to_zero_of s)) ≡ length s). omega (arith, sizes8 (up_to_zero_of s))))
    (and-false (all_kept (pieces8 (up_to_zero_of s))))

pub cut-nothing : (s : List ℕ) → length s ≤ length (up_to_zero_of s) → whole (pieces8 s) (length s) ≡ well_formed8 s
unfolding well_formed8
cut-nothing s h = let e : up_to_zero_of s ≡ s = sym (cut-take s) ∙ take_all (length (up_to_zero_of s)) s h in rw e
