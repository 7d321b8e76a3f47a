-- A call of a function: its caller learnt what the function's contract says, and nothing else is known of the call.
use Rattle.std.specs.Prelude.{ℕ, List}
use Rattle.std.specs.Borrow.{MutBor}

-- A call of a function: its lifetimes, its arguments, its result, and the lent parameters at its exit. Its caller learnt `Learnt` of them,
-- and `Is` says which call it was.
pub record FunctionCall {K : Type 0} {A R X : K → Type 0} (Learnt Is : (κs : K) → A κs → R κs → X κs → Type 0) : Type 0 where
  pub lifetimes : K
  pub args : A lifetimes
  pub result : R lifetimes
  pub exit : X lifetimes
  pub learnt : Learnt lifetimes args result exit
  pub is : Is lifetimes args result exit

-- Four stores that a call was lent: the last parameters of every call on either end that is lent them.
abbrev pub FourLent : Type 0
FourLent = MutBor (List ℕ) × (MutBor (List ℕ) × (MutBor (List ℕ) × (MutBor (List ℕ) × Unit {0})))

-- What stands in them, put together by `make`.
abbrev pub lent : {S : Type 0} → (List ℕ → List ℕ → List ℕ → List ℕ → S) → FourLent → S
lent make p = make p.0.now p.1.0.now p.1.1.0.now p.1.1.1.0.now
