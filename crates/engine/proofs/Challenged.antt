-- The engine's challenge by its settings, and the call that gives its nonce: by what the guard says of the nonce. Assumes nothing.
use mathlib.Core.Path.{◌≡◌, refl, sym, ap, ap₂, ◌∙◌}
use mathlib.Core.List.{List, ◌∷◌}
use mathlib.Core.Bool.{Bool, true, false, ◌&&◌}
use mathlib.Core.Option.{none, some}
use Prim.Native.Nat.{ℕ, suc, ◌+◌, ◌*◌, ◌≤◌}
use Rattle.base.specs.Pick.{pick}
use native.Mathlib.Omega.{arith}
use borrow.Author.Tests.{le-ltb, ltb-false}
use lib.Dec.{ltb}
use lib.ListN.{length}
use Rattle.packet.specs.Flags.{flag_bits}
use Rattle.packet.specs.AuthWrite.{given, overlong}
use Rattle.model.specs.Guard.{long_realm, refuse}
use Rattle.journal.specs.Checks.{bit}
use Rattle.model.specs.Connect.{options_of, realm_of, nonce_answer}
use Rattle.model.specs.Step.{Stores, stepped, Called, called, after}
use Rattle.model.specs.Calls.{nonce_given_step}
use Rattle.digest.specs.declared.md5.Octets16.{Octets16}
use Rattle.table.specs.Nonces.{remembered_with, remembered, among}
use Rattle.server.specs.declared.Settings.{Settings}
use Rattle.server.specs.declared.Engine.{Engine}
use Rattle.server.specs.declared.CallKind.TheVariants as kind
use Rattle.server.specs.declared.CallResult.{CallResult}
use Rattle.server.specs.declared.Refusal.{Refusal}
use Rattle.server.specs.declared.Refusal.TheVariants as refusal
use Rattle.engine.specs.Guard.{Verdict, proceed, refuses, guarded_nonce, refused_with}
use Rattle.engine.proofs.Guards.{GoesLent, told_refusal, no_refusal}

pub options_are : (st : Settings) → flag_bits st.user_id_required st.read_only ≡ options_of st
unfolding flag_bits
options_are st = go st.user_id_required st.read_only
  where
    go : (a b : Bool) → flag_bits a b ≡ bit a + 2 * bit b
    go true true = refl
    go true false = refl
    go false true = refl
    go false false = refl

pub realm_is : (st : Settings) (l : List ℕ) → given st.has_realm (st.charset ∷ l) ≡ realm_of st l
realm_is st l = go st.has_realm (st.charset ∷ l)
  where
    go : (t : Bool) (v : List ℕ) → given t v ≡ pick t (some v) none
    go true v = refl
    go false v = refl

-- a realm of 254 bytes at most fits a tag, with its charset
pub realm-fits : (st : Settings) (l : List ℕ) → long_realm st l ≡ false → overlong (given st.has_realm (st.charset ∷ l)) ≡ false
unfolding long_realm
realm-fits st l h = go st.has_realm h
  where
    go : (t : Bool) → (t && ltb 254 (length l)) ≡ false → overlong (given t (st.charset ∷ l)) ≡ false
    go false k = refl
    go true k = let m : length l ≤ 254 = ltb-false _ _ k in let n : suc (length l) ≤ 255 = omega arith in le-ltb _ _ n

-- ---- the call

module _ (e : Engine) (n : Octets16) (l : List ℕ) (s : Stores) (t : List ℕ) (g : GoesLent kind.NonceGiven e s t) (used : Bool)
    (is-used : used ≡ among n (remembered e.peer.nonces t)) (x : Verdict) (said : x ≡ guarded_nonce (long_realm e.settings l) used) where
  abbrev long : Bool
  long = long_realm e.settings l

  -- what the call comes to at its moment, by the two tests
  abbrev by_tests : Bool → Bool → Called
  by_tests a b =
      pick a (called (refuse refusal.BadAnswer e s) t)
      (pick b (called (refuse refusal.NonceUsed e s) t) (called (after 0 (nonce_answer e n l s)) (remembered_with n t)))

  whole : by_tests long used ≡ nonce_given_step e n l s t
  unfolding nonce_given_step
  whole = ap (by_tests long) is-used ∙ sym (simp (g.enough, g.fitted))

  pub nonce-refused : (q : Refusal) (r : CallResult) → x ≡ refuses q → r ≡ refused_with q e → called (stepped r s) t ≡ nonce_given_step e n l s t
  unfolding guarded_nonce
  nonce-refused q r w h = ap (λ (y : CallResult). called (stepped y s) t) h ∙ go long used refl refl (sym said ∙ w)
    where
      go : (a b : Bool) → long ≡ a → used ≡ b → guarded_nonce long used ≡ refuses q → called (refuse q e s) t ≡ nonce_given_step e n l s t
      go true b i j z =
          ap (λ (y : Refusal). called (refuse y e s) t) (sym (told_refusal _ _ (simp i at z))) ∙ sym (ap₂ by_tests i j) ∙ whole
      go false true i j z =
          ap (λ (y : Refusal). called (refuse y e s) t) (sym (told_refusal _ _ (simp (i, j) at z))) ∙ sym (ap₂ by_tests i j) ∙ whole
      go false false i j z = absurd (no_refusal q (simp (i, j) at z))

  -- a nonce that may be taken
  pub nonce-fresh : x ≡ proceed → (long ≡ false) × (used ≡ false)
  unfolding guarded_nonce
  nonce-fresh w = go long used refl refl (sym said ∙ w)
    where
      go : (a b : Bool) → long ≡ a → used ≡ b → guarded_nonce long used ≡ proceed → (long ≡ false) × (used ≡ false)
      go true b i j z = absurd (no_refusal _ (sym (simp i at z)))
      go false true i j z = absurd (no_refusal _ (sym (simp (i, j) at z)))
      go false false i j z = (i, j)

  pub nonce-taken : x ≡ proceed → called (after 0 (nonce_answer e n l s)) (remembered_with n t) ≡ nonce_given_step e n l s t
  nonce-taken w = let f = nonce-fresh w in sym (ap₂ by_tests f.0 f.1) ∙ whole

  pub realm-short : x ≡ proceed → long_realm e.settings l ≡ false
  realm-short w = (nonce-fresh w).0
