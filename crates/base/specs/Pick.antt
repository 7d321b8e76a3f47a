-- Choosing by a test. Tests are joined by the library's &&, || and not.
use Rattle.std.specs.Prelude.{Bool, true, false}

-- `a` if the test holds, else `b`.
abbrev pub pick {ℓ} : {A : Type ℓ} → Bool → A → A → A
pick true a b = a
pick false a b = b
