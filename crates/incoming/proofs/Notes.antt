-- The pass over the headers finds the first of each: a header that is noted decides its part of the survey, and the others leave it as it is.
-- Assumes nothing.
use mathlib.Core.Path.{◌≡◌, refl, ap, ◌∙◌}
use mathlib.Core.List.{List, [], ◌∷◌}
use mathlib.Core.Bool.{Bool, true, false, ◌||◌}
use mathlib.Core.Option.{Option, none, some}
use Prim.Native.Nat.{ℕ, ◌+◌, ◌-◌}
use native.Mathlib.Omega.{arith}
use lib.ListN.{length, get_or}
use lib.Dec.{eqb}
use borrow.Author.Tests.{eq-eqb, ne_eqb, eqb-true, eqb-false}
use Rattle.base.specs.Pick.{pick}
use Rattle.base.specs.Bytes.{be32}
use Rattle.packet.specs.declared.header.HeaderEncoding.{HeaderEncoding}
use Rattle.packet.specs.Header.{Header, encoding_of, lead_of, size_at, part, push, first}
use Rattle.packet.specs.Modes as modes
use Rattle.packet.proofs.HeaderBytes.{Stands, part_length}
use Rattle.incoming.specs.declared.survey.Survey.{Survey}
use Rattle.incoming.specs.declared.survey.Noted.{Noted}
use Rattle.incoming.specs.Survey.{present, survey_list, survey_of}
use Rattle.incoming.specs.Noted.{nothing, note_id, note_mode, note_parameter, note_one, survey_noted}

-- ---- a value's length, by its id's encoding

module _ (s : List ℕ) (at id : ℕ) (e : HeaderEncoding) (from to : ℕ) (w : Stands s at id e from to) where
  pub value-length : (k : ℕ) → id ≡ k → length (part s from to) ≡ size_at (encoding_of k) s at - lead_of (encoding_of k)
  value-length k i =
      let c : e ≡ encoding_of k = w.encoding ∙ ap encoding_of i in
      let f : from ≡ at + lead_of (encoding_of k) = w.start ∙ ap (λ (x : HeaderEncoding). at + lead_of x) c in
      let t : to ≡ at + size_at (encoding_of k) s at = w.stop ∙ ap (λ (x : HeaderEncoding). at + size_at x s at) c in
      omega (arith, part_length s from to w.fits)

  pub lengths : (id ≡ 0xCB → length (part s from to) ≡ 4) × (id ≡ 0x97 → length (part s from to) ≡ 1) × (id ≡ 0x98 → length (part s from to) ≡ 1)
  unfolding encoding_of
  lengths = (value-length 0xCB, value-length 0x97, value-length 0x98)

-- ---- one header, by its id

module _ (n : Noted) (h : Header) where
  pub one_id : h.id ≡ 0xCB → note_id n (be32 h.value 0) ≡ note_one n h
  unfolding note_one
  one_id e = rw e

  pub one-mode : h.id ≡ 0x97 → note_mode n (get_or h.value 0 0) ≡ note_one n h
  unfolding note_one
  one-mode e = rw e

  pub one-parameter : h.id ≡ 0x98 → note_parameter n (get_or h.value 0 0) ≡ note_one n h
  unfolding note_one
  one-parameter e = rw e

  pub one-other : (h.id ≡ 0xCB → ⊥) → (h.id ≡ 0x97 → ⊥) → (h.id ≡ 0x98 → ⊥) → n ≡ note_one n h
  unfolding note_one
  one-other a b c = simp (ne_eqb h.id 0xCB a, ne_eqb h.id 0x97 b, ne_eqb h.id 0x98 c)

first-same : (id : ℕ) (h : Header) (hs : List Header) → h.id ≡ id → first id (h ∷ hs) ≡ some h.value
unfolding first
first-same id h hs e = simp (eq-eqb h.id id e)

first-other : (id : ℕ) (h : Header) (hs : List Header) → (h.id ≡ id → ⊥) → first id (h ∷ hs) ≡ first id hs
unfolding first
first-other id h hs e = simp (ne_eqb h.id id e)

-- ---- the survey by what is noted, and by the first of each of the headers that are left

abbrev reading {ℓ} : {A : Type ℓ} → (List ℕ → A) → A → Option (List ℕ) → A
reading f d none = d
reading f d (some v) = f v

abbrev left : Noted → Option (List ℕ) → Option (List ℕ) → Option (List ℕ) → Survey
left n i m p =
    record {
      id = pick n.has_id n.id (reading (λ (v : List ℕ). be32 v 0) n.id i);
      has_id = n.has_id || present i;
      readable = true;
      enable = pick n.has_mode n.enable (reading (λ (v : List ℕ). eqb (get_or v 0 0) 1) n.enable m);
      additional = pick n.has_parameter n.additional (reading (λ (v : List ℕ). modes.additional (get_or v 0 0)) n.additional p);
      wait = pick n.has_parameter n.wait (reading (λ (v : List ℕ). modes.wait (get_or v 0 0)) n.wait p);
    }

module _ (n : Noted) (v : List ℕ) (i m p : Option (List ℕ)) where
  id_left : left n (some v) m p ≡ left (note_id n (be32 v 0)) i m p
  unfolding note_id
  id_left = go n.has_id refl
    where
      go : (t : Bool) → n.has_id ≡ t → left n (some v) m p ≡ left (note_id n (be32 v 0)) i m p
      go true e = rw e
      go false e = rw e

  mode-left : left n i (some v) p ≡ left (note_mode n (get_or v 0 0)) i m p
  unfolding note_mode
  mode-left = go n.has_mode refl
    where
      go : (t : Bool) → n.has_mode ≡ t → left n i (some v) p ≡ left (note_mode n (get_or v 0 0)) i m p
      go true e = rw e
      go false e = rw e

  parameter-left : left n i m (some v) ≡ left (note_parameter n (get_or v 0 0)) i m p
  unfolding note_parameter
  parameter-left = go n.has_parameter refl
    where
      go : (t : Bool) → n.has_parameter ≡ t → left n i m (some v) ≡ left (note_parameter n (get_or v 0 0)) i m p
      go true e = rw e
      go false e = rw e

abbrev left_of : Noted → List Header → Survey
left_of n hs = left n (first 0xCB hs) (first 0x97 hs) (first 0x98 hs)

module _ (n : Noted) (h : Header) (hs : List Header) where
  one_left : left_of n (h ∷ hs) ≡ left_of (note_one n h) hs
  one_left = go (eqb h.id 0xCB) (eqb h.id 0x97) (eqb h.id 0x98) refl refl refl
    where
      go : (a b c : Bool) → eqb h.id 0xCB ≡ a → eqb h.id 0x97 ≡ b → eqb h.id 0x98 ≡ c → left_of n (h ∷ hs) ≡ left_of (note_one n h) hs
      go true b c x y z =
          let e : h.id ≡ 0xCB = eqb-true _ _ x in
          rw (first-same 0xCB h hs e, first-other 0x97 h hs (λ w. omega arith), first-other 0x98 h hs (λ w. omega arith), ← one_id n h e)
          (id_left n h.value (first 0xCB hs) (first 0x97 hs) (first 0x98 hs))
      go false true c x y z =
          let e : h.id ≡ 0x97 = eqb-true _ _ y in
          rw (first-same 0x97 h hs e, first-other 0xCB h hs (λ w. omega arith), first-other 0x98 h hs (λ w. omega arith), ← one-mode n h e)
          (mode-left n h.value (first 0xCB hs) (first 0x97 hs) (first 0x98 hs))
      go false false true x y z =
          let e : h.id ≡ 0x98 = eqb-true _ _ z in
          rw (first-same 0x98 h hs e, first-other 0xCB h hs (λ w. omega arith), first-other 0x97 h hs (λ w. omega arith), ← one-parameter n h e)
          (parameter-left n h.value (first 0xCB hs) (first 0x97 hs) (first 0x98 hs))
      go false false false x y z =
          let i = eqb-false _ _ x in
          let m = eqb-false _ _ y in
          let p = eqb-false _ _ z in
          rw (first-other 0xCB h hs i, first-other 0x97 h hs m, first-other 0x98 h hs p, ← one-other n h i m p)

-- ---- the survey of what is left

abbrev pub survey_left : Noted → Option (List Header) → Survey
survey_left n none = survey_of none
survey_left n (some hs) = left_of n hs

-- nothing is noted before the first header
pub begins : (r : Option (List Header)) → survey_of r ≡ survey_left nothing r
unfolding survey_of
begins none = refl
begins (some hs) = go (first 0xCB hs) (first 0x97 hs) (first 0x98 hs) refl refl refl
  where
    go : (i m p : Option (List ℕ)) → first 0xCB hs ≡ i → first 0x97 hs ≡ m → first 0x98 hs ≡ p → survey_list hs ≡ left_of nothing hs
    go none none none a b c = rw (a, b, c)
    go none none (some p) a b c = rw (a, b, c)
    go none (some m) none a b c = rw (a, b, c)
    go none (some m) (some p) a b c = rw (a, b, c)
    go (some i) none none a b c = rw (a, b, c)
    go (some i) none (some p) a b c = rw (a, b, c)
    go (some i) (some m) none a b c = rw (a, b, c)
    go (some i) (some m) (some p) a b c = rw (a, b, c)

pub goes_on : (n : Noted) (h : Header) (r : Option (List Header)) → survey_left n (push h r) ≡ survey_left (note_one n h) r
goes_on n h none = refl
goes_on n h (some hs) = one_left n h hs

-- after the last header it is what is noted
pick_same {ℓ} : {A : Type ℓ} (t : Bool) (x : A) → pick t x x ≡ x
pick_same true x = refl
pick_same false x = refl

either_false : (t : Bool) → (t || false) ≡ t
either_false true = refl
either_false false = refl

pub ends : (n : Noted) → survey_left n (some []) ≡ survey_noted n
unfolding first
ends n = simp (pick_same, either_false)
