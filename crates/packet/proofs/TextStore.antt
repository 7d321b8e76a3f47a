-- Text in a store: written into a part that it fills, with zeros stored after it, it is laid at once. Assumes nothing.
use mathlib.Core.Path.{◌≡◌, refl, sym, ap, ◌∙◌}
use mathlib.Core.Bool.{Bool, true, false}
use mathlib.Core.List.{List, [], ◌∷◌, ◌++◌, append_assoc, append-nil}
use Prim.Native.Nat.{ℕ, ◌+◌, ◌-◌, ◌≤◌}
use native.Mathlib.Omega.{arith}
use native.Mathlib.Nat.{pos_of_ne-zero}
use lib.Dec.{ltb}
use lib.ListN.{length, set, take, drop, length-append, length-take, length-drop, drop_of_length-le}
use lib.Seq.{drop-drop, take-length}
use borrow.Author.Tests.{le-ltb, ltb-true, ltb-false}
use Rattle.text.specs.Unicode.{lossy, utf16be}
use Rattle.text.specs.Text.{unicode_bytes, Stored, stored, store_text}
use Rattle.std.specs.Prelude.{Result, Ok}
use Rattle.base.specs.declared.Short.{Short}
use Rattle.packet.specs.Canonical.{terminated16}
use Rattle.packet.specs.Placed.{laid}
use Rattle.packet.proofs.Laid.{laid-nothing, set_more}
use Rattle.packet.proofs.TextForms.{terminated_none, terminated_some}

-- a part of the store that the text fills
pub part-text : (d t p : List ℕ) (from end : ℕ) (r : Result ℕ Short) → from + length t ≡ end → end ≤ length d
    → stored r p ≡ store_text t (take (end - from) (drop from d)) → take from d ++ (p ++ drop (end - from) (drop from d)) ≡ laid d from t
unfolding store_text
part-text d t p from end r h l q =
    let m = take (end - from) (drop from d) in
    let k : length m ≡ length t = omega (arith, length-take (end - from) (drop from d), length-drop from d) in
    let s : stored r p ≡ stored (Ok (length t)) (t ++ drop (length t) m) = q ∙ simp (le-ltb (length m) (length t) (omega arith)) in
    let w : p ≡ t = ap (λ (x : Stored). x.store) s ∙ ap (λ (l : List ℕ). t ++ l) (drop_of_length-le m {i = length t} (omega arith))
    ∙ append-nil t in
    let e : from + (end - from) ≡ from + length t = omega arith in
    rw (w, drop-drop (end - from) from d, e, take-length t) (sym (append_assoc (take from d) t (drop (from + length t) d)))

-- a zero after it
pub zero-after : (d d₁ t : List ℕ) (from n : ℕ) → n ≡ from + length t → n + 1 ≤ length d → d₁ ≡ laid d from t
    → set d₁ n 0 ≡ laid d from (t ++ (0 ∷ []))
zero-after d d₁ t from n e h q = ap (λ (d : List ℕ). set d n 0) q ∙ set_more d t from n 0 (sym e) (omega arith)

pub zeros-after : (d d₁ t : List ℕ) (from n : ℕ) → n ≡ from + length t → n + 2 ≤ length d → d₁ ≡ laid d from t
    → set (set d₁ n 0) (n + 1) 0 ≡ laid d from (t ++ (0 ∷ 0 ∷ []))
zeros-after d d₁ t from n e h q =
    ap (λ (d : List ℕ). set d (n + 1) 0) (zero-after d d₁ t from n e (omega arith) q)
    ∙ set_more d (t ++ (0 ∷ [])) from (n + 1) 0 (omega (arith, length-append t (0 ∷ []))) (omega arith)
    ∙ ap (laid d from) (append_assoc t (0 ∷ []) (0 ∷ []))

-- UTF-16 with its zero unit: no bytes, or two more than the text's
pub record Unit16 (t : List ℕ) (from end : ℕ) : Type 0 where
  pub value_is : terminated16 (lossy t) ≡ unicode_bytes t ++ (0 ∷ 0 ∷ [])
  pub ends : from + length (unicode_bytes t) + 2 ≡ end

pub unit16 : (t : List ℕ) (from end : ℕ) → from + length (terminated16 (lossy t)) ≡ end → (from ≡ end → ⊥) → Unit16 t from end
unfolding unicode_bytes
unit16 t from end h ne = by (ltb 0 (length u)) refl
  where
    u : List ℕ
    u = utf16be (lossy t)

    by : (x : Bool) → ltb 0 (length u) ≡ x → Unit16 t from end
    by true e =
        let v : terminated16 (lossy t) ≡ u ++ (0 ∷ 0 ∷ []) = terminated_some (lossy t) (ltb-true 0 (length u) e) in
        record { value_is = v; ends = omega (arith, ap length v, length-append u (0 ∷ 0 ∷ [])) }
    by false e =
        let k = ltb-false 0 (length u) e in
        absurd (ne (omega (arith, ap length (terminated_none (lossy t) (omega arith)))))

pub none16 : (t : List ℕ) → length (unicode_bytes t) ≡ 0 → length (terminated16 (lossy t)) ≡ 0
unfolding unicode_bytes
none16 t h = ap length (terminated_none (lossy t) h)

pub some16 : (t : List ℕ) → (length (unicode_bytes t) ≡ 0 → ⊥) → length (terminated16 (lossy t)) ≡ length (unicode_bytes t) + 2
unfolding unicode_bytes
some16 t h =
    let u = utf16be (lossy t) in
    ap length (terminated_some (lossy t) (pos_of_ne-zero h)) ∙ length-append u (0 ∷ 0 ∷ [])

-- and no bytes change nothing
pub none_pasted : (d v : List ℕ) (from : ℕ) → length v ≡ 0 → d ≡ laid d from v
none_pasted d [] from h = sym (laid-nothing d from)
none_pasted d (x ∷ v) from h = absurd (omega arith)
