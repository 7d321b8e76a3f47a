-- The name that some headers give, as it is stored. Assumes nothing.
use mathlib.Core.Path.{◌≡◌, refl, sym, ap, ◌∙◌}
use mathlib.Core.Bool.{Bool, true, false}
use mathlib.Core.List.{List, [], ◌++◌}
use Prim.Native.Nat.{ℕ, ◌≤◌}
use native.Mathlib.Omega.{arith}
use lib.Dec.{ltb}
use lib.ListN.{length, drop, length-append}
use Rattle.base.specs.Pick.{pick}
use Rattle.base.specs.Place.{Place, span, None}
use Rattle.text.specs.Text.{Stored, stored, numbered, store_text, unicode_text}
use Rattle.std.specs.Prelude.{Result, Ok, Err}
use Rattle.base.specs.declared.Short.{Short}
use Rattle.base.specs.Store.{short}
use Rattle.packet.specs.Header.{part, first_place}
use Rattle.packet.proofs.Laid.{laid-nothing}
use Rattle.files.specs.Store.{filled, fit}
use Rattle.files.specs.Name.{text_at, name_text}
use Rattle.files.proofs.Fitted.{fit-fits}

-- ---- a text that is stored

written_by : (t d e : List ℕ) (n : ℕ) (x : Bool) → ltb (length d) (length t) ≡ x
    → stored (Ok n) e ≡ pick x (numbered 10 (Err short) d) (numbered 0 (Ok (length t)) (t ++ drop (length t) d))
    → (filled n e ≡ pick x (filled 0 d) (filled (length t) (t ++ drop (length t) d))) × (n ≤ length e)
written_by t d e n true q p = let z : ◌≡◌ {A = ℕ} 0 10 = ap (λ (s : Stored). s.number) p in absurd (omega arith)
written_by t d e n false q p =
    let a : Ok n ≡ Ok (length t) = ap (λ (s : Stored). s.answer) p in
    let m : n ≡ length t = cc in
    let b : e ≡ t ++ drop (length t) d = ap (λ (s : Stored). s.store) p in
    let l = ap length b in
    (rw (m, b) refl, omega (arith, l, length-append t (drop (length t) d), m))

text-written : (t d e : List ℕ) (n : ℕ) → stored (Ok n) e ≡ store_text t d → (filled n e ≡ fit t d) × (n ≤ length e)
unfolding store_text fit
text-written t d e n p = written_by t d e n (ltb (length d) (length t)) refl p

short_by_lem : (t d e : List ℕ) (x : Bool) → stored (Err short) e ≡ pick x (numbered 10 (Err short) d) (numbered 0 (Ok (length t)) (t ++ drop (length t) d))
    → filled 0 e ≡ pick x (filled 0 d) (filled (length t) (t ++ drop (length t) d))
short_by_lem t d e true p = ap (λ (s : Stored). filled 0 s.store) p
short_by_lem t d e false p = let z : ◌≡◌ {A = ℕ} 10 0 = ap (λ (s : Stored). s.number) p in absurd (omega arith)

text-short : (t d e : List ℕ) → stored (Err short) e ≡ store_text t d → filled 0 e ≡ fit t d
unfolding store_text fit
text-short t d e p = short_by_lem t d e (ltb (length d) (length t)) p

-- the text by the place of the Name
name_at : (s : List ℕ) (f g : Place) → f ≡ first_place 0x01 s 0 → f ≡ g → text_at s g ≡ name_text s
unfolding name_text
name_at s f g p q = ap (text_at s) (sym q ∙ p)

-- there is no Name; its text was stored; it was too long
pub name-missing : (s d : List ℕ) (f : Place) → f ≡ first_place 0x01 s 0 → f ≡ None → filled 0 d ≡ fit (name_text s) d
name-missing s d f p q =
    fit-fits [] d d 0 (omega arith) refl (sym (laid-nothing d 0)) ∙ ap (λ (t : List ℕ). fit t d) (name_at s f None p q)

pub name-written : (s d e : List ℕ) (f : Place) (b t n : ℕ) (r : Result ℕ Short) → f ≡ first_place 0x01 s 0 → f ≡ span b t
    → stored r e ≡ store_text (unicode_text (part s b t)) d → r ≡ Ok n → (filled n e ≡ fit (name_text s) d) × (n ≤ length e)
name-written s d e f b t n r p q h a =
    let w = text-written (unicode_text (part s b t)) d e n (ap (λ (x : Result ℕ Short). stored x e) (sym a) ∙ h) in
    (w.0 ∙ ap (λ (t : List ℕ). fit t d) (name_at s f (span b t) p q), w.1)

pub name-short : (s d e : List ℕ) (f : Place) (b t : ℕ) (r : Result ℕ Short) → f ≡ first_place 0x01 s 0 → f ≡ span b t
    → stored r e ≡ store_text (unicode_text (part s b t)) d → r ≡ Err short → filled 0 e ≡ fit (name_text s) d
name-short s d e f b t r p q h a =
    text-short (unicode_text (part s b t)) d e (ap (λ (x : Result ℕ Short). stored x e) (sym a) ∙ h)
    ∙ ap (λ (t : List ℕ). fit t d) (name_at s f (span b t) p q)
