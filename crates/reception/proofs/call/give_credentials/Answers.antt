-- `reception::call::give_credentials` meets its contract: the bytes are parted where the user id ends, or at their end. Assumes nothing.
use borrow.Author.Tests.{ltb-true, ltb-false}
use mathlib.Core.Bool.{Bool, true, false}
use mathlib.Core.List.{List}
use mathlib.Core.Option.{some}
use mathlib.Core.Path.{◌≡◌, refl, sym, ap, ap₂, subst, ◌∙◌}
use Prim.Native.Nat.{ℕ, ◌-◌, ◌≤◌}
use native.Mathlib.Omega.{arith}
use lib.Dec.{ltb}
use lib.ListN.{length, take, drop, length-drop, drop_of_length-le}
use lib.Seq.{take_all, length-take-le}
use Rattle.base.specs.Pick.{pick}
use Rattle.packet.specs.AuthWrite.{given}
use Rattle.journal.specs.Calls.{Credentials}
use Rattle.model.specs.Step.{stores}
use Rattle.model.specs.Calls.{credentials_given_step}
use Rattle.reception.specs.Answers.{own_of}
use Rattle.reception.proofs.call.give_credentials.Goals as goal

-- where the bytes are parted
abbrev parted : ℕ → List ℕ → ℕ
parted u l = pick (ltb (length l) u) (length l) u

part-within : (a u : ℕ) (l : List ℕ) → a ≡ parted u l → a ≤ length l
part-within a u l e = subst (λ (n : ℕ). n ≤ length l) (sym e) (go (ltb (length l) u) refl)
  where
    go : (t : Bool) → ltb (length l) u ≡ t → pick t (length l) u ≤ length l
    go true i = omega arith
    go false i = ltb-false (length l) u i

part-front : (u : ℕ) (l : List ℕ) → take (parted u l) l ≡ take u l
part-front u l = go (ltb (length l) u) refl
  where
    go : (t : Bool) → ltb (length l) u ≡ t → take (pick t (length l) u) l ≡ take u l
    go true i = take_all (length l) l (omega arith) ∙ sym (take_all u l (omega (arith, ltb-true (length l) u i)))
    go false i = refl

part-behind : (u : ℕ) (l : List ℕ) → drop (parted u l) l ≡ drop u l
part-behind u l = go (ltb (length l) u) refl
  where
    go : (t : Bool) → ltb (length l) u ≡ t → drop (pick t (length l) u) l ≡ drop u l
    go true i = drop_of_length-le l {i = length l} (omega arith) ∙ sym (drop_of_length-le l {i = u} (omega (arith, ltb-true (length l) u i)))
    go false i = refl

own-parts : (u a : ℕ) (l : List ℕ) → a ≡ parted u l
    → ◌≡◌ {A = Credentials} (record { user = given (ltb 0 u) (take a l); password = take (length l - a) (drop a l) }) (own_of u l)
own-parts u a l e =
    ap (λ (n : ℕ). record { user = given (ltb 0 u) (take n l); password = take (length l - n) (drop n l) }) e
    ∙ ap₂ (λ (x y : List ℕ). record { user = given (ltb 0 u) x; password = y }) (part-front u l)
    (take_all (length l - parted u l) (drop (parted u l) l) (omega (arith, length-drop (parted u l) l)) ∙ part-behind u l)

pub slice_bounds-credentials_given-end : goal.slice_bounds-credentials_given-end
slice_bounds-credentials_given-end c =
    let l = c.args.lent.now in
    sym (length-take-le _ l (part-within _ c.args.user l c.within-at.ensures))

pub slice_bounds-credentials_given-count : goal.slice_bounds-credentials_given-count
slice_bounds-credentials_given-count c = part-within _ c.args.user c.args.lent.now c.within-at.ensures

pub slice_bounds-credentials_given-start : goal.slice_bounds-credentials_given-start
slice_bounds-credentials_given-start c = part-within _ c.args.user c.args.lent.now c.within-at.ensures

pub returns : goal.returns
returns c =
    let a = c.args in
    c.credentials_given.ensures
    ∙ ap (λ (o : Credentials). credentials_given_step a.e (some o) (stores a.packet.now a.headers.now a.body.now a.reply.now))
    (own-parts a.user _ a.lent.now c.within-at.ensures)
