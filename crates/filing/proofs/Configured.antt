-- The settings of a receiver: what a text says behind a word, numbers, right lines, and the whole. Assumes nothing.
use mathlib.Core.Path.{◌≡◌, refl, sym, ap, subst, ◌∙◌}
use mathlib.Core.Bool.{Bool, true, false}
use mathlib.Core.List.{List, [], ◌++◌}
use Prim.Native.Nat.{ℕ, suc, ◌+◌, ◌-◌, ◌≤◌, ◌<◌}
use native.Mathlib.Omega.{arith}
use native.Mathlib.Numerals.{add-one}
use lib.Dec.{eqb, leb, ltb}
use lib.ListN.{length, get_or, take, drop, length-append, length-drop, drop_of_length-le}
use lib.Seq.{take_all, take-take, length-take-le, drop-cons}
use borrow.Author.Tests.{eq-eqb, ne_eqb, le-leb, lt-leb, leb-true, leb-false}
use Rattle.base.specs.Pick.{pick}
use Rattle.std.specs.Prelude.{is_some}
use Rattle.base.specs.Place.{Place, span, None}
use Rattle.packet.specs.Auth.{same}
use Rattle.packet.specs.Header.{present}
use Rattle.packet.specs.Tags.{bytes_at}
use Rattle.packet.proofs.HeaderLaws.{is_some-present}
use Rattle.packet.proofs.SameBytes.{same_is}
use Rattle.digest.specs.Md5.{octets16}
use Rattle.table.specs.Targets.{is_named}
use Rattle.table.specs.declared.targets.Target.{Target}
use Rattle.files.specs.Path.{hex_of, service_word, service_folder}
use Rattle.filing.specs.Lines.{PlaceFits, bytes, up_to, behind, lines_of, value_for}
use Rattle.filing.specs.Conf.{or_none, said, digit_next, digits_from, number_of, all_hex, is_hex, is_in, right_value, right_line, wrong_from, RealmIs, realm_said, flags_said, number_said, conf_of, records_taken}
use Rattle.filing.specs.declared.payload.OpenFlags.{OpenFlags}
use Rattle.filing.proofs.Lined.{LineAt, before-take, behind-drop, no_lines}

-- ---- what is said

-- what a comparison of bytes tells
pub same-told : (a b : List ℕ) (r x : Bool) → (r ≡ true → a ≡ b) × (a ≡ b → r ≡ true) → r ≡ x → same a b ≡ x
same-told a b r x h e = sym (same_is a b r h.0 h.1) ∙ e

pub said-none : (text w : List ℕ) (f : Place) → bytes_at text f ≡ value_for 0x20 w (lines_of text) → f ≡ None → [] ≡ said text w
unfolding said
said-none text w f p q = ap or_none (sym (ap (bytes_at text) q) ∙ p)

pub said-some : (text w : List ℕ) (f : Place) (b e : ℕ) → bytes_at text f ≡ value_for 0x20 w (lines_of text) → f ≡ span b e
    → take (e - b) (drop b text) ≡ said text w
unfolding said
said-some text w f b e p q = ap or_none (sym (ap (bytes_at text) q) ∙ p)

pub place_in : (n : ℕ) (f : Place) (b e : ℕ) → PlaceFits n f → f ≡ span b e → (b ≤ e) × (e ≤ n)
place_in n f b e h q = subst (PlaceFits n) q h

-- ---- the realm

abbrev realm_by : List ℕ → RealmIs
realm_by v = record { size = length (take 254 v); value = take 254 v }

pub realm-none : (text : List ℕ) → [] ≡ said text (bytes "realm") → record { size = 0; value = [] } ≡ realm_said text
realm-none text e = ap realm_by e

module _ (text : List ℕ) (b e k : ℕ) (h : b ≤ e) (l : e ≤ length text) (t : take (e - b) (drop b text) ≡ said text (bytes "realm")) where
  abbrev v : List ℕ
  v = take (e - b) (drop b text)

  size_v : length v ≡ e - b
  size_v = length-take-le (e - b) (drop b text) (omega (arith, length-drop b text))

  first_by : (x : Bool) → leb (e - b) 254 ≡ x → k ≡ pick x (e - b) 254 → (k ≡ length (take 254 v)) × (take k (drop b text) ≡ take 254 v)
  first_by true q p =
      let m = leb-true (e - b) 254 q in
      let a : take 254 v ≡ v = take_all 254 v (omega (arith, size_v)) in
      (p ∙ sym size_v ∙ ap length (sym a), ap (λ (i : ℕ). take i (drop b text)) p ∙ sym a)
  first_by false q p =
      let m = leb-false (e - b) 254 q in
      let a : take 254 v ≡ take 254 (drop b text) = take-take 254 (e - b) (drop b text) (omega arith) in
      (p ∙ sym (length-take-le 254 v (omega (arith, size_v))), ap (λ (i : ℕ). take i (drop b text)) p ∙ sym a)

  pub realm-some : k ≡ pick (leb (e - b) 254) (e - b) 254 → record { size = k; value = take k (drop b text) } ≡ realm_said text
  realm-some p =
      let f = first_by (leb (e - b) 254) refl p in
      let a : k ≡ length (take 254 (said text (bytes "realm"))) = f.0 ∙ ap (λ (x : List ℕ). length (take 254 x)) t in
      let c : take k (drop b text) ≡ take 254 (said text (bytes "realm")) = f.1 ∙ ap (take 254) t in
      rw (c, a) refl

-- ---- numbers

pub digits_next : (v : List ℕ) (n i : ℕ) → i < length v → digits_from n (drop i v) ≡ digits_from (digit_next n (get_or v i 0)) (drop (i + 1) v)
unfolding digits_from
digits_next v n i h = ap (digits_from n) (drop-cons v i 0 h) ∙ ap (λ (k : ℕ). digits_from (digit_next n (get_or v i 0)) (drop k v)) (sym (add-one i))

pub digits_end : (v : List ℕ) (n i : ℕ) → length v ≤ i → digits_from n (drop i v) ≡ n
unfolding digits_from
digits_end v n i h = ap (digits_from n) (drop_of_length-le v {i = i} h)

module _ (u v : List ℕ) (default most : ℕ) where
  pub number-none : u ≡ v → length u ≡ 0 → default ≡ number_said v default most
  unfolding number_said
  number-none e z = rw (eq-eqb (length v) 0 (ap length (sym e) ∙ z)) refl

  module _ (n : ℕ) (e : u ≡ v) (h : length u ≡ 0 → ⊥) (m : n ≡ number_of u) where
    full : eqb (length v) 0 ≡ false
    full = ne_eqb (length v) 0 (λ z. h (ap length e ∙ z))

    pub number_small : n ≤ most → n ≡ number_said v default most
    unfolding number_said
    number_small l =
        let k : n ≡ number_of v = m ∙ ap number_of e in
        rw (full, ← k, le-leb n most l) refl

    pub number-large : most < n → most ≡ number_said v default most
    unfolding number_said
    number-large l =
        let k : n ≡ number_of v = m ∙ ap number_of e in
        rw (full, ← k, lt-leb n most l) refl

-- ---- digits of a Target

pub hex_next : (s : List ℕ) (i : ℕ) → i < length s → is_hex (get_or s i 0) ≡ true → all_hex (drop i s) ≡ all_hex (drop (i + 1) s)
unfolding all_hex
hex_next s i h t = ap all_hex (drop-cons s i 0 h) ∙ rw (t, add-one i) refl

pub hex_stop : (s : List ℕ) (i : ℕ) → i < length s → is_hex (get_or s i 0) ≡ false → false ≡ all_hex (drop i s)
unfolding all_hex
hex_stop s i h f = sym (ap all_hex (drop-cons s i 0 h) ∙ rw f refl)

pub hex_end : (s : List ℕ) (i : ℕ) → length s ≤ i → true ≡ all_hex (drop i s)
unfolding all_hex
hex_end s i h = sym (ap all_hex (drop_of_length-le s {i = i} h))

-- ---- lines

pub setting_right : (l : List ℕ) (n : ℕ) (r : Bool) → n ≡ length (up_to 0x20 l) → n < length l
    → r ≡ right_value (take (n - 0) (drop 0 l)) (take (length l - (n + 1)) (drop (n + 1) l)) → r ≡ right_value (up_to 0x20 l) (behind 0x20 l)
setting_right l n r e h p =
    let z : n - 0 ≡ n = omega arith in
    let a : take (n - 0) l ≡ up_to 0x20 l = ap (λ (k : ℕ). take k l) (z ∙ e) ∙ before-take 0x20 l in
    let b : take (length l - (n + 1)) (drop (n + 1) l) ≡ behind 0x20 l =
    take_all (length l - (n + 1)) (drop (n + 1) l) (omega (arith, length-drop (n + 1) l)) ∙ ap (λ (k : ℕ). drop k l) (add-one n)
    ∙ ap (λ (k : ℕ). drop (suc k) l) e ∙ sym (behind-drop 0x20 l) in
    p ∙ rw (a, b) refl

pub wrong-later : (text : List ℕ) (at n k : ℕ) → LineAt text at n → right_line (take n (drop at text)) ≡ true
    → wrong_from k (lines_of (drop at text)) ≡ wrong_from (k + 1) (lines_of (drop (at + n + 1) text))
unfolding wrong_from
wrong-later text at n k l e = ap (wrong_from k) l.lines ∙ rw e refl

pub wrong-here : (text : List ℕ) (at n k : ℕ) → LineAt text at n → right_line (take n (drop at text)) ≡ false
    → k ≡ wrong_from k (lines_of (drop at text))
unfolding wrong_from
wrong-here text at n k l e = sym (ap (wrong_from k) l.lines ∙ rw e refl)

pub wrong-none : (text : List ℕ) (at k : ℕ) → length text ≤ at → 0 ≡ wrong_from k (lines_of (drop at text))
unfolding wrong_from
wrong-none text at k h = sym (ap (wrong_from k) (no_lines text at h))

-- a line that is one of the choices, or is not
pub choice_found : (t l : List ℕ) (f : Place) → bytes_at t f ≡ value_for 9 l (lines_of t) → is_some f ≡ is_in t l
unfolding is_in
choice_found t l f p = is_some-present t f ∙ ap present p

-- ---- the whole

pub conf_is : (text : List ℕ) (w l p c k : ℕ) (f : OpenFlags) (v : List ℕ) → w ≡ wrong_from 1 (lines_of text)
    → l ≡ number_said (said text (bytes "limit")) 49152 65536 → p ≡ number_said (said text (bytes "packet")) 65535 65535
    → c ≡ number_said (said text (bytes "charset")) 0 255 → f ≡ flags_said text (ltb 0 k) → record { size = k; value = v } ≡ realm_said text
    → record { wrong = w; numbers = record { limit = l; packet = p; charset = c; realm = k }; flags = f; realm = v } ≡ conf_of text
unfolding conf_of
conf_is text w l p c k f v e₁ e₂ e₃ e₄ e₅ e₆ =
    let a : k ≡ (realm_said text).size = ap (λ (r : RealmIs). r.size) e₆ in
    let b : v ≡ (realm_said text).value = ap (λ (r : RealmIs). r.value) e₆ in
    rw (e₁, e₂, e₃, e₄, e₅, b, a) refl

-- ---- whose Puts are records

module _ (v u : List ℕ) (g : Target) (e : u ≡ v) where
  pub taken-all : length u ≡ 0 → true ≡ records_taken v g
  unfolding records_taken
  taken-all z = rw (eq-eqb (length v) 0 (ap length (sym e) ∙ z)) refl

  module _ (n : length u ≡ 0 → ⊥) where
    filled : eqb (length v) 0 ≡ false
    filled = ne_eqb (length v) 0 (λ z. n (ap length e ∙ z))

    pub taken_any : same u (bytes "any") ≡ true → true ≡ records_taken v g
    unfolding records_taken
    taken_any s =
        let t : same v (bytes "any") ≡ true = subst (λ (x : List ℕ). same x (bytes "any") ≡ true) e s in
        rw (filled, t) refl

    pub taken_mark : same u (bytes "any") ≡ false → is_named g ≡ false → false ≡ records_taken v g
    unfolding records_taken
    taken_mark s m =
        let t : same v (bytes "any") ≡ false = subst (λ (x : List ℕ). same x (bytes "any") ≡ false) e s in
        rw (filled, t, m) refl

    pub taken_by_lem : same u (bytes "any") ≡ false → is_named g ≡ true → (r : Bool) → same u (drop 8 (service_folder g)) ≡ r → r ≡ records_taken v g
    unfolding records_taken
    taken_by_lem s m r q =
        let t : same v (bytes "any") ≡ false = subst (λ (x : List ℕ). same x (bytes "any") ≡ false) e s in
        let w : same v (drop 8 (service_folder g)) ≡ r = subst (λ (x : List ℕ). same x (drop 8 (service_folder g)) ≡ r) e q in
        rw (filled, t, m, w) refl

-- what stands behind `service-`
module _ (w t : List ℕ) (g : Target) (m : is_named g ≡ true) (p : w ≡ t) (q : t ≡ service_folder g) where
  pub service_long : 8 ≤ length w
  unfolding service_folder
  service_long =
      let d = take g.length (octets16 g.bytes) in
      let e : w ≡ service_word ++ hex_of d = p ∙ q ∙ rw m refl in
      omega (arith, ap length e, length-append service_word (hex_of d))

  pub service_behind : take (length w - 8) (drop 8 w) ≡ drop 8 (service_folder g)
  service_behind = take_all (length w - 8) (drop 8 w) (omega (arith, length-drop 8 w)) ∙ ap (drop 8) (p ∙ q)
