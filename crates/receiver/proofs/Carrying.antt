-- Filing a record, step by step: the steps that are left are those of the plan behind the ones that went well, so the filing comes out as the plan
-- does with what the steps answered. Assumes nothing.
use Rattle.std.proofs.Common.{◌≡◌, ℕ, ◌+◌, ◌<◌, Bool, true, false, List, [], ◌∷◌, ◌++◌, length, get_or, take, set, ℤ, pos, negsuc, sym, refl, ap, ◌∙◌, subst, append_assoc, append-nil, add-one, arith, length-set, take-suc, get_or-set_same, eqb-true}
use Rattle.std.proofs.lemmas.List.{take-set-le}
use mathlib.Core.Bool.{false≢true}
use Rattle.files.specs.Errors.{is_error, is_full}
use Rattle.filing.specs.declared.plan.Step.{Step}
use Rattle.filing.specs.declared.plan.Step.TheVariants.{MakePart, WriteHeaders, WriteBody, WriteNote, SyncPart, SyncLog, Rename, SyncSession, Filed}
use Rattle.filing.specs.Plan.{plan_for, next_step, steps_from, runs}
use Rattle.receiver.specs.Filing.{is_filed, well_by, last_answer, Carried}

-- The steps from `s` on.
abbrev pub rest : Step → Bool → List Step
rest s b = steps_from 9 s b

-- How many steps are left at most.
abbrev pub rank : Step → ℕ
rank MakePart = 8
rank WriteHeaders = 7
rank WriteBody = 6
rank WriteNote = 5
rank SyncPart = 4
rank SyncLog = 3
rank Rename = 2
rank SyncSession = 1
rank Filed = 0

-- What the steps that went well, which answered `l`, leave of the plan.
abbrev pub Left : Bool → Step → List ℤ → Type 0
Left b s l = (os : List Bool) → (runs (plan_for b) (well_by l ++ os)).filed ≡ (runs (rest s b) os).filed

pub all : (b : Bool) (os : List Bool) → (runs (plan_for b) os).filed ≡ (runs (rest MakePart b) os).filed
unfolding steps_from
all true os = refl
all false os = refl

pub well : (s : Step) (b : Bool) (os : List Bool) → is_filed s ≡ false → (runs (rest s b) (true ∷ os)).filed ≡ (runs (rest (next_step s b) b) os).filed
unfolding steps_from runs
well MakePart true os e = refl
well MakePart false os e = refl
well WriteHeaders true os e = refl
well WriteHeaders false os e = refl
well WriteBody b os e = refl
well WriteNote b os e = refl
well SyncPart b os e = refl
well SyncLog b os e = refl
well Rename b os e = refl
well SyncSession b os e = refl
well Filed b os e = absurd (false≢true (sym e))

pub badly : (s : Step) (b : Bool) → is_filed s ≡ false → false ≡ (runs (rest s b) (false ∷ [])).filed
unfolding steps_from runs
badly MakePart b e = refl
badly WriteHeaders b e = refl
badly WriteBody b e = refl
badly WriteNote b e = refl
badly SyncPart b e = refl
badly SyncLog b e = refl
badly Rename b e = refl
badly SyncSession b e = refl
badly Filed b e = absurd (false≢true (sym e))

pub nothing_left : (s : Step) (b : Bool) → is_filed s ≡ true → true ≡ (runs (rest s b) []).filed
unfolding steps_from runs
nothing_left MakePart b e = absurd (false≢true e)
nothing_left WriteHeaders b e = absurd (false≢true e)
nothing_left WriteBody b e = absurd (false≢true e)
nothing_left WriteNote b e = absurd (false≢true e)
nothing_left SyncPart b e = absurd (false≢true e)
nothing_left SyncLog b e = absurd (false≢true e)
nothing_left Rename b e = absurd (false≢true e)
nothing_left SyncSession b e = absurd (false≢true e)
nothing_left Filed b e = refl

pub fewer : (s : Step) (b : Bool) → is_filed s ≡ false → rank (next_step s b) < rank s
fewer MakePart b e = omega arith
fewer WriteHeaders true e = omega arith
fewer WriteHeaders false e = omega arith
fewer WriteBody b e = omega arith
fewer WriteNote b e = omega arith
fewer SyncPart b e = omega arith
fewer SyncLog b e = omega arith
fewer Rename b e = omega arith
fewer SyncSession b e = omega arith
fewer Filed b e = absurd (false≢true (sym e))

-- ---- the answers

-- one answer more
one_more : (l : List ℤ) (i : ℕ) (x : ℤ) → i < length l → take (i + 1) (set l i x) ≡ take i l ++ (x ∷ [])
one_more l i x h =
    ap (λ (n : ℕ). take n (set l i x)) (add-one i) ∙ take-suc (set l i x) i (pos 0) (subst (λ (n : ℕ). i < n) (sym (length-set l i x)) h)
    ∙ ap (λ (k : List ℤ). k ++ (get_or (set l i x) i (pos 0) ∷ [])) (take-set-le i l i x (omega arith))
    ∙ ap (λ (y : ℤ). take i l ++ (y ∷ [])) (get_or-set_same l i x (pos 0) h)

well-more : (l : List ℤ) (x : ℤ) → well_by (l ++ (x ∷ [])) ≡ well_by l ++ (is_error x 0 ∷ [])
well-more [] x = refl
well-more (y ∷ l) x = ap (λ (k : List Bool). is_error y 0 ∷ k) (well-more l x)

last_more : (e : ℤ) (l : List ℤ) (x : ℤ) → last_answer e (l ++ (x ∷ [])) ≡ x
last_more e [] x = refl
last_more e (y ∷ l) x = last_more y l x

is_zero : (x : ℤ) → is_error x 0 ≡ true → x ≡ pos 0
is_zero (pos n) t = ap pos (eqb-true n 0 t)
is_zero (negsuc n) t = absurd (false≢true t)

pub well-not-full : false ≡ is_full (pos 0)
unfolding is_full
well-not-full = refl

-- a step is left
pub some_left : (s : Step) → is_filed s ≡ false → 0 < rank s
some_left s e = omega (arith, fewer s true e)

-- ---- one step, which answers `x`: the answers before it are the first `n` of `l`
module _ (b : Bool) (s : Step) (l : List ℤ) (n : ℕ) (x : ℤ) (e : is_filed s ≡ false) (h : n < length l) (k : Left b s (take n l)) where
  answered : (f : Bool) → is_error x 0 ≡ f → well_by (take (n + 1) (set l n x)) ≡ well_by (take n l) ++ (f ∷ [])
  answered f t =
      ap well_by (one_more l n x h) ∙ well-more (take n l) x ∙ ap (λ (g : Bool). well_by (take n l) ++ (g ∷ [])) t

  pub stop : (f : Bool) → f ≡ is_full x → is_error x 0 ≡ false
      → Carried b (record { step = s; error = x; full = f; count = n + 1; answers = set l n x })
  stop f w t =
      record {
        filed = e ∙ badly s b e ∙ sym (k (false ∷ [])) ∙ ap (λ (os : List Bool). (runs (plan_for b) os).filed) (sym (answered false t));
        last = ap (last_answer x) (one_more l n x h) ∙ last_more x (take n l) x;
        full = w;
      }

  pub go : is_error x 0 ≡ true → Left b (next_step s b) (take (n + 1) (set l n x))
  go t os =
      ap (λ (os' : List Bool). (runs (plan_for b) (os' ++ os)).filed) (answered true t)
      ∙ ap (λ (os' : List Bool). (runs (plan_for b) os').filed) (append_assoc (well_by (take n l)) (true ∷ []) os)
      ∙ k (true ∷ os)
      ∙ well s b os e

  pub last-well : is_error x 0 ≡ true → last_answer (pos 0) (take (n + 1) (set l n x)) ≡ pos 0
  last-well t = ap (last_answer (pos 0)) (one_more l n x h) ∙ last_more (pos 0) (take n l) x ∙ is_zero x t

-- no step is left, so the plan is filed
pub filed_all : (b : Bool) (s : Step) (l : List ℤ) (n : ℕ) → is_filed s ≡ true → last_answer (pos 0) (take n l) ≡ pos 0 → Left b s (take n l)
    → Carried b (record { step = s; error = pos 0; full = false; count = n; answers = l })
filed_all b s l n e z k =
    record {
      filed =
          e ∙ nothing_left s b e ∙ sym (k [])
          ∙ ap (λ (os : List Bool). (runs (plan_for b) os).filed) (append-nil (well_by (take n l)));
      last = z;
      full = well-not-full;
    }
