-- A start with its admission is `start_on`: the test of the settings comes after that of the stores, whichever the code looks at first. A start
-- that was accepted is the engine's, of numbers that are settings. Assumes nothing.
use mathlib.Core.Path.{◌≡◌, refl, sym, ap, subst, ◌∙◌}
use mathlib.Core.List.{List}
use mathlib.Core.Bool.{Bool, true, false, ◌||◌}
use Prim.Native.Nat.{ℕ}
use native.Mathlib.Omega.{arith}
use Rattle.server.specs.declared.Settings.{Settings}
use Rattle.server.specs.declared.CallResult.{CallResult}
use Rattle.server.specs.declared.Outcome.TheVariants as outcome
use Rattle.server.specs.declared.Refusal.TheVariants as refusal
use Rattle.model.specs.Step.{Stores, Stepped, stepped, engine_with}
use Rattle.model.specs.Guard.{short, short_tables, long_realm}
use Rattle.model.specs.Calls.{started, start_step}
use Rattle.engine_c.specs.Words.{settings_in, settings_fit, judged_start, start_on}

-- a lent store is too short for these numbers
abbrev lacks : List ℕ → Stores → List ℕ → Bool
lacks w s t = short_tables t || short (settings_in w).max_object_size s

-- the start, judged
abbrev judges : List ℕ → Stepped → Stepped
judges w m = stepped (judged_start (settings_fit w) m.took) m.stores

by_cases : (w l : List ℕ) (s : Stores) (t : List ℕ) (fit lacking long : Bool) → settings_fit w ≡ fit → lacks w s t ≡ lacking
    → long_realm (settings_in w) l ≡ long
    → judges w (start_step (settings_in w) l s t) ≡ start_on w l s t
unfolding start_step started engine_with
by_cases w l s t true lacking long f h g = simp f
by_cases w l s t false true long f h g = simp (f, h)
by_cases w l s t false false true f h g = simp (f, h, g)
by_cases w l s t false false false f h g = simp (f, h, g)

from_start : (w l : List ℕ) (s u : Stores) (t : List ℕ) (r : CallResult) → stepped r u ≡ start_step (settings_in w) l s t
    → stepped (judged_start (settings_fit w) r) u ≡ start_on w l s t
from_start w l s u t r e =
    subst (λ (m : Stepped). judges w m ≡ start_on w l s t) (sym e)
    (by_cases w l s t (settings_fit w) (lacks w s t) (long_realm (settings_in w) l) refl refl refl)

-- of what the code's functions give: whether the numbers fit, the settings, the engine's result and what is made of it
pub judged-start : (w l : List ℕ) (s u : Stores) (t : List ℕ) (fit : Bool) (st : Settings) (r z : CallResult)
    → fit ≡ settings_fit w
    → st ≡ settings_in w
    → stepped r u ≡ start_step st l s t
    → z ≡ judged_start fit r
    → stepped z u ≡ start_on w l s t
judged-start w l s u t fit st r z f g e a =
    rw (a, f) (from_start w l s u t r (subst (λ (x : Settings). stepped r u ≡ start_step x l s t) g e))

-- ---- an accepted start

-- it is the engine's start, and the numbers are settings
pub record Starts (w l : List ℕ) (s : Stores) (t : List ℕ) (m : Stepped) : Type 0 where
  pub starts : m ≡ start_step (settings_in w) l s t
  pub fits : settings_fit w ≡ true

accepted_by_lem : (w l : List ℕ) (s : Stores) (t : List ℕ) (m : Stepped) (fit lacking : Bool) → settings_fit w ≡ fit → lacks w s t ≡ lacking
    → m ≡ start_on w l s t
    → m.took.outcome ≡ outcome.WantsBytes
    → Starts w l s t m
unfolding start_step
accepted_by_lem w l s t m true lacking f h e a = record { starts = e ∙ simp f; fits = f }
accepted_by_lem w l s t m false true f h e a =
    let x : (start_on w l s t).took.outcome ≡ outcome.Refused refusal.StoreTooShort = simp (f, h) in
    let y : outcome.Refused refusal.StoreTooShort ≡ outcome.WantsBytes = sym x ∙ ap (λ (n : Stepped). n.took.outcome) (sym e) ∙ a in
    let z : ◌≡◌ {A = ℕ} 0 1 = cc in absurd (omega arith)
accepted_by_lem w l s t m false false f h e a =
    let x : (start_on w l s t).took.outcome ≡ outcome.Refused refusal.BadAnswer = simp (f, h) in
    let y : outcome.Refused refusal.BadAnswer ≡ outcome.WantsBytes = sym x ∙ ap (λ (n : Stepped). n.took.outcome) (sym e) ∙ a in
    let z : ◌≡◌ {A = ℕ} 0 1 = cc in absurd (omega arith)

pub accepted : (w l : List ℕ) (s : Stores) (t : List ℕ) (m : Stepped) → m ≡ start_on w l s t → m.took.outcome ≡ outcome.WantsBytes
    → Starts w l s t m
accepted w l s t m e a = accepted_by_lem w l s t m (settings_fit w) (lacks w s t) refl refl e a
