-- A test that is known, without a rewriting of what stands behind it. Assumes nothing.
use mathlib.Core.Path.{◌≡◌, sym, ap}
use mathlib.Core.Bool.{Bool, true, false}
use Rattle.base.specs.Pick.{pick}

pub on_true : {A : Type 0} (b : Bool) (x y : A) → b ≡ true → x ≡ pick b x y
on_true {A} b x y e = sym (ap (λ (t : Bool). pick t x y) e)

pub on_false : {A : Type 0} (b : Bool) (x y : A) → b ≡ false → y ≡ pick b x y
on_false {A} b x y e = sym (ap (λ (t : Bool). pick t x y) e)
