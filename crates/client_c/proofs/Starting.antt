-- A start with its admission is `start_on`: the test of the settings comes after that of the stores, whichever the code looks at first. A start
-- that was accepted is the client's, of numbers that are settings. Assumes nothing.
use mathlib.Core.Path.{◌≡◌, refl, sym, ap, subst, ◌∙◌}
use mathlib.Core.List.{List}
use mathlib.Core.Bool.{Bool, true, false}
use Prim.Native.Nat.{ℕ}
use native.Mathlib.Omega.{arith}
use Rattle.client_model.specs.declared.Settings.{Settings}
use Rattle.client_model.specs.declared.CallResult.{CallResult}
use Rattle.client_model.specs.declared.Outcome.TheVariants as outcome
use Rattle.client_model.specs.declared.Refusal.TheVariants as refusal
use Rattle.client_model.specs.Step.{Stores, Stepped, stepped}
use Rattle.client_model.specs.Guard.{short}
use Rattle.client_model.specs.Calls.{start_step}
use Rattle.client_c.specs.Words.{settings_in, settings_fit, judged_start, start_on}

-- the start, judged_start
abbrev admits : List ℕ → Stepped → Stepped
admits w m = stepped (judged_start (settings_fit w) (settings_in w) m.took) m.stores

by_cases : (w : List ℕ) (s : Stores) (fit lacks : Bool) → settings_fit w ≡ fit → short s ≡ lacks
    → admits w (start_step (settings_in w) s) ≡ start_on w s
unfolding start_step
by_cases w s true true f h = simp (f, h)
by_cases w s true false f h = simp (f, h)
by_cases w s false true f h = simp (f, h)
by_cases w s false false f h = simp (f, h)

from_start : (w : List ℕ) (s t : Stores) (r : CallResult) → stepped r t ≡ start_step (settings_in w) s
    → stepped (judged_start (settings_fit w) (settings_in w) r) t ≡ start_on w s
from_start w s t r e =
    subst (λ (m : Stepped). admits w m ≡ start_on w s) (sym e) (by_cases w s (settings_fit w) (short s) refl refl)

-- of what the code's functions give: whether the numbers fit, the settings, the client's result and what is made of it
pub judged-start : (w : List ℕ) (s t : Stores) (fit : Bool) (st : Settings) (r z : CallResult)
    → fit ≡ settings_fit w
    → st ≡ settings_in w
    → stepped r t ≡ start_step st s
    → z ≡ judged_start fit st r
    → stepped z t ≡ start_on w s
judged-start w s t fit st r z f g e a =
    rw (a, f, g) (from_start w s t r (subst (λ (x : Settings). stepped r t ≡ start_step x s) g e))

-- ---- an accepted start

-- it is the client's start, and the numbers are settings
pub record Starts (w : List ℕ) (s : Stores) (m : Stepped) : Type 0 where
  pub starts : m ≡ start_step (settings_in w) s
  pub fits : settings_fit w ≡ true

accepted_by_lem : (w : List ℕ) (s : Stores) (m : Stepped) (fit lacking : Bool) → settings_fit w ≡ fit → short s ≡ lacking → m ≡ start_on w s
    → m.took.outcome ≡ outcome.Ready
    → Starts w s m
unfolding start_step
accepted_by_lem w s m true lacking f h e a = record { starts = e ∙ simp f; fits = f }
accepted_by_lem w s m false true f h e a =
    let x : (start_on w s).took.outcome ≡ outcome.Refused refusal.StoreTooShort = simp (f, h) in
    let y : outcome.Refused refusal.StoreTooShort ≡ outcome.Ready = sym x ∙ ap (λ (n : Stepped). n.took.outcome) (sym e) ∙ a in
    let z : ◌≡◌ {A = ℕ} 0 1 = cc in absurd (omega arith)
accepted_by_lem w s m false false f h e a =
    let x : (start_on w s).took.outcome ≡ outcome.Refused refusal.BadHeaders = simp (f, h) in
    let y : outcome.Refused refusal.BadHeaders ≡ outcome.Ready = sym x ∙ ap (λ (n : Stepped). n.took.outcome) (sym e) ∙ a in
    let z : ◌≡◌ {A = ℕ} 0 1 = cc in absurd (omega arith)

pub accepted : (w : List ℕ) (s : Stores) (m : Stepped) → m ≡ start_on w s → m.took.outcome ≡ outcome.Ready → Starts w s m
accepted w s m e a = accepted_by_lem w s m (settings_fit w) (short s) refl refl e a
