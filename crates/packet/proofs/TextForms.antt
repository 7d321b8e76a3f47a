-- The values that the writer gives for text: which they are, by their bytes alone, and that they are read as they were. Assumes nothing.
use mathlib.Core.Path.{◌≡◌, refl, sym, ap, ◌∙◌, subst}
use mathlib.Core.Bool.{Bool, true, false}
use mathlib.Core.List.{List, [], ◌∷◌, ◌++◌, append_assoc}
use Prim.Native.Nat.{ℕ, zero, suc, ◌+◌, ◌≤◌, ◌<◌}
use native.Mathlib.Omega.{arith}
use native.Mathlib.Numerals.{add-one}
use lib.Dec.{ltb}
use lib.ListN.{length, get_or, take, drop, length-append, length-take, take-append-drop, drop_of_length-le, get_or-eq_default}
use lib.Seq.{drop-cons, take-append_seam, get_or-append-add, get_or-take, length-take-le}
use borrow.Author.Tests.{ltb-true, ltb-false}
use Rattle.text.specs.Unicode.{up_to_zero_of, codes, units, paired, pieces16, scalars16, well_formed16, lossy, scalars8, well_formed8, Scalars, NoZero, Octets, utf16, joined, text8, utf16be}
use Rattle.text.proofs.Widths.{utf16_1, utf16_2}
use Rattle.text.proofs.Back16.{plain16, scalars16_valid, scalars16_nonzero, utf16be-scalars16, utf16be-well_formed}
use Rattle.text.proofs.Back8.{scalars8_valid, scalars8_nonzero, text8-scalars8, text8-well_formed}
use Rattle.packet.specs.Canonical.{terminated16}

-- ---- parts of a list (of general use)

-- all but the last, and the last
pub last_one : (v : List ℕ) (n : ℕ) → length v ≡ n + 1 → v ≡ take n v ++ (get_or v n 0 ∷ [])
last_one v n h =
    sym (take-append-drop n v)
    ∙ ap (λ (l : List ℕ). take n v ++ l) (drop-cons v n 0 (omega arith)
    ∙ ap (λ (l : List ℕ). get_or v n 0 ∷ l) (drop_of_length-le v {i = suc n} (omega arith)))

pub last-two : (v : List ℕ) (n : ℕ) → length v ≡ n + 2 → v ≡ take n v ++ (get_or v n 0 ∷ get_or v (n + 1) 0 ∷ [])
last-two v n h =
    sym (take-append-drop n v)
    ∙ ap (λ (l : List ℕ). take n v ++ l)
    (drop-cons v n 0 (omega arith)
    ∙ ap (λ (m : ℕ). get_or v n 0 ∷ drop m v) (sym (add-one n))
    ∙ ap (λ (l : List ℕ). get_or v n 0 ∷ l)
    (drop-cons v (n + 1) 0 (omega arith) ∙ ap (λ (l : List ℕ). get_or v (n + 1) 0 ∷ l) (drop_of_length-le v {i = suc (n + 1)} (omega arith))))

pub octets-take : (v : List ℕ) (n : ℕ) → Octets v → Octets (take n v)
octets-take v n o k = by (ltb k n) refl
  where
    by : (x : Bool) → ltb k n ≡ x → get_or (take n v) k 0 < 256
    by true e = rw (get_or-take n v k 0 (ltb-true k n e)) (o k)
    by false e = rw (get_or-eq_default (take n v) 0 {n = k} (omega (arith, ltb-false k n e, length-take n v))) (omega arith)

-- ---- a zero after text

cut-stop : (us : List ℕ) → up_to_zero_of (us ++ (0 ∷ [])) ≡ up_to_zero_of us
unfolding up_to_zero_of
cut-stop [] = refl
cut-stop (zero ∷ r) = refl
cut-stop (suc u ∷ r) = ap (λ (l : List ℕ). suc u ∷ l) (cut-stop r)

pub scalars8-stop : (t : List ℕ) → scalars8 (t ++ (0 ∷ [])) ≡ scalars8 t
unfolding scalars8
scalars8-stop t = ap lossy (cut-stop t)

pub scalars16-stop : (cs : List ℕ) → Scalars cs → NoZero cs → scalars16 (utf16be cs ++ (0 ∷ 0 ∷ [])) ≡ cs
unfolding scalars16 codes joined pieces16 units up_to_zero_of paired
scalars16-stop [] s z = refl
scalars16-stop (c ∷ cs) s z =
    ap scalars16 (append_assoc (utf16 c) (utf16be cs) (0 ∷ 0 ∷ []))
    ∙ ap codes (plain16 c (utf16be cs ++ (0 ∷ 0 ∷ [])) s.0 z.0)
    ∙ ap (λ (l : List ℕ). c ∷ l) (scalars16-stop cs s.1 z.1)

-- text written in UTF-16 is read as it was
pub scalars16_terminated : (cs : List ℕ) → Scalars cs → NoZero cs → scalars16 (terminated16 cs) ≡ cs
unfolding scalars16 codes pieces16 units up_to_zero_of paired
scalars16_terminated [] s z = refl
scalars16_terminated (c ∷ cs) s z = scalars16-stop (c ∷ cs) s z

-- ---- UTF-16: no bytes, or well-formed ones and a zero unit

width : (c : ℕ) → 2 ≤ length (utf16 c)
width c = by (ltb c 0x10000) refl
  where
    by : (x : Bool) → ltb c 0x10000 ≡ x → 2 ≤ length (utf16 c)
    by true e = rw (utf16_1 c (ltb-true c 0x10000 e)) (omega arith)
    by false e = rw (utf16_2 c (ltb-false c 0x10000 e)) (omega arith)

pub terminated_none : (cs : List ℕ) → length (utf16be cs) ≡ 0 → terminated16 cs ≡ []
unfolding joined
terminated_none [] h = refl
terminated_none (c ∷ cs) h = absurd (omega (arith, length-append (utf16 c) (utf16be cs), width c))

pub terminated_some : (cs : List ℕ) → 0 < length (utf16be cs) → terminated16 cs ≡ utf16be cs ++ (0 ∷ 0 ∷ [])
unfolding joined
terminated_some [] h = absurd (omega arith)
terminated_some (c ∷ cs) h = refl

pub record Ended16 (v : List ℕ) (n : ℕ) : Type 0 where
  pub long : 2 ≤ n
  pub high : get_or v n 0 ≡ 0
  pub low : get_or v (n + 1) 0 ≡ 0
  pub formed : well_formed16 (take n v) ≡ true

-- text and a zero unit, by its bytes
ended_by : (v cs : List ℕ) (c n : ℕ) → length v ≡ n + 2 → Scalars (c ∷ cs) → NoZero (c ∷ cs) → utf16be (c ∷ cs) ++ (0 ∷ 0 ∷ []) ≡ v
    → Ended16 v n
unfolding joined
ended_by v cs c n h s z q =
    let u = utf16be (c ∷ cs) in
    let l : length u ≡ n = omega (arith, ap length q, length-append u (0 ∷ 0 ∷ [])) in
    let w = length-append (utf16 c) (utf16be cs) in
    let p : n + 0 ≡ n = omega arith in
    record {
      long = omega (arith, w, width c);
      high = rw p at (rw l at (subst (λ (v : List ℕ). get_or v (length u + 0) 0 ≡ 0) q (get_or-append-add u (0 ∷ 0 ∷ []) 0 0)));
      low = rw l at (subst (λ (v : List ℕ). get_or v (length u + 1) 0 ≡ 0) q (get_or-append-add u (0 ∷ 0 ∷ []) 1 0));
      formed = subst (λ (t : List ℕ). well_formed16 t ≡ true)
          (sym (take-append_seam u (0 ∷ 0 ∷ [])) ∙ ap (λ (v : List ℕ). take (length u) v) q ∙ ap (λ (m : ℕ). take m v) l)
          (utf16be-well_formed (c ∷ cs) s z);
    }

pub ended16 : (v : List ℕ) (n : ℕ) → length v ≡ n + 2 → Octets v → terminated16 (scalars16 v) ≡ v → Ended16 v n
ended16 v n h o = by (scalars16 v) (scalars16_valid v o) (scalars16_nonzero v)
  where
    by : (cs : List ℕ) → Scalars cs → NoZero cs → terminated16 cs ≡ v → Ended16 v n
    by [] s z q = absurd (omega (arith, ap length q))
    by (c ∷ cs) s z q = ended_by v cs c n h s z q

-- and back
pub back16 : (v : List ℕ) (n : ℕ) → length v ≡ n + 2 → Octets v → Ended16 v n → terminated16 (scalars16 v) ≡ v
unfolding joined
back16 v n h o e =
    let u = take n v in
    let cs = scalars16 u in
    let s = scalars16_valid u (octets-take v n o) in
    let z = scalars16_nonzero u in
    let p : utf16be cs ≡ u = utf16be-scalars16 u (octets-take v n o) e.formed in
    let q : u ++ (0 ∷ 0 ∷ []) ≡ v = rw (e.high, e.low) at (sym (last-two v n h)) in
    let r : utf16be cs ++ (0 ∷ 0 ∷ []) ≡ v = ap (λ (l : List ℕ). l ++ (0 ∷ 0 ∷ [])) p ∙ q in
    let t : scalars16 v ≡ cs = ap scalars16 (sym r) ∙ scalars16-stop cs s z in
    ap terminated16 t ∙ by cs p r
  where
    by : (cs : List ℕ) → utf16be cs ≡ take n v → utf16be cs ++ (0 ∷ 0 ∷ []) ≡ v → terminated16 cs ≡ v
    by [] p r = absurd (omega (arith, ap length p, length-take-le n v (omega arith), e.long))
    by (c ∷ cs) p r = r

-- too short for a character and a zero unit
pub short16 : (v : List ℕ) → Octets v → 0 < length v → length v < 4 → terminated16 (scalars16 v) ≡ v → ⊥
unfolding joined
short16 v o a b = by (scalars16 v)
  where
    by : (cs : List ℕ) → terminated16 cs ≡ v → ⊥
    by [] q = omega (arith, ap length q)
    by (c ∷ cs) q =
        omega (arith, ap length q, length-append (utf16be (c ∷ cs)) (0 ∷ 0 ∷ []), length-append (utf16 c) (utf16be cs), width c)

-- ---- UTF-8: well-formed bytes and a zero, or none

pub record Ended8 (v : List ℕ) (n : ℕ) : Type 0 where
  pub last : get_or v n 0 ≡ 0
  pub formed : well_formed8 (take n v) ≡ true

pub ended8 : (v : List ℕ) (n : ℕ) → length v ≡ n + 1 → text8 (scalars8 v) ++ (0 ∷ []) ≡ v → Ended8 v n
ended8 v n h q =
    let u = text8 (scalars8 v) in
    let l : length u ≡ n = omega (arith, ap length q, length-append u (0 ∷ [])) in
    let p : n + 0 ≡ n = omega arith in
    record {
      last = rw p at (rw l at (subst (λ (v : List ℕ). get_or v (length u + 0) 0 ≡ 0) q (get_or-append-add u (0 ∷ []) 0 0)));
      formed = subst (λ (t : List ℕ). well_formed8 t ≡ true)
          (sym (take-append_seam u (0 ∷ [])) ∙ ap (λ (v : List ℕ). take (length u) v) q ∙ ap (λ (m : ℕ). take m v) l)
          (text8-well_formed (scalars8 v) (scalars8_valid v) (scalars8_nonzero v));
    }

pub back8 : (v : List ℕ) (n : ℕ) → length v ≡ n + 1 → Ended8 v n → text8 (scalars8 v) ++ (0 ∷ []) ≡ v
back8 v n h e =
    let u = take n v in
    let q : u ++ (0 ∷ []) ≡ v = rw e.last at (sym (last_one v n h)) in
    let t : scalars8 v ≡ scalars8 u = ap scalars8 (sym q) ∙ scalars8-stop u in
    ap (λ (cs : List ℕ). text8 cs ++ (0 ∷ [])) t ∙ ap (λ (l : List ℕ). l ++ (0 ∷ [])) (text8-scalars8 u e.formed) ∙ q

pub plain8 : (v : List ℕ) → text8 (scalars8 v) ≡ v → well_formed8 v ≡ true
plain8 v q = subst (λ (l : List ℕ). well_formed8 l ≡ true) q (text8-well_formed (scalars8 v) (scalars8_valid v) (scalars8_nonzero v))
