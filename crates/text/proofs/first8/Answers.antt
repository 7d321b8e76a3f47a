-- `text::first8` meets its contract. The tests are those of the definition, in its order. Assumes nothing.
use mathlib.Core.Path.{◌≡◌, sym, ◌∙◌}
use mathlib.Core.Bool.{Bool, true, false}
use borrow.Author.Tests.{eq-eqb, ne_eqb}
use Rattle.std.proofs.Common.{ℕ, ◌≢◌}
use lib.Dec.{eqb}
use Rattle.text.specs.Unicode.{need, low, high, inside, first8}
use Rattle.text.proofs.first8.Goals as goal

-- how many bytes the first byte asks for: a number that was tested
is : {n : ℕ} (b k : ℕ) → n ≡ need b → n ≡ k → eqb (need b) k ≡ true
is b k e h = eq-eqb (need b) k (sym e ∙ h)

no : {n : ℕ} (b k : ℕ) → n ≡ need b → n ≢ k → eqb (need b) k ≡ false
no b k e h = ne_eqb (need b) k (λ q. h (e ∙ q))

-- whether the second byte is in its range, in terms of the bytes
second : {l h : ℕ} {r v : Bool} (b c : ℕ) → l ≡ low b → h ≡ high b → r ≡ inside l h c → r ≡ v → inside (low b) (high b) c ≡ v
second b c e f i t = rw (← e, ← f, ← i) t

pub returns-then-n-eq0 : goal.returns-then-n-eq0
unfolding first8
returns-then-n-eq0 c = rw (is c.args.b 0 c.needed-n.ensures c.if-n-eq0.true) c.replaced.ensures

pub returns-then-n-eq1 : goal.returns-then-n-eq1
unfolding first8
returns-then-n-eq1 c =
    let n = c.needed-n.ensures in rw (no c.args.b 0 n c.if-n-eq0.false, is c.args.b 1 n c.if-n-eq1.true) c.kept.ensures

pub returns-then-not-is_inside : goal.returns-then-not-is_inside
unfolding first8
returns-then-not-is_inside c =
    let n = c.needed-n.ensures in
    rw (
      no c.args.b 0 n c.if-n-eq0.false,
      no c.args.b 1 n c.if-n-eq1.false,
      second c.args.b c.args.c c.lowest.ensures c.highest.ensures c.is_inside.ensures c.if-not-is_inside.true,
    )
    c.replaced-then-not-is_inside.ensures

pub returns-then-n-eq2 : goal.returns-then-n-eq2
unfolding first8
returns-then-n-eq2 c =
    let n = c.needed-n.ensures in
    rw (
      no c.args.b 0 n c.if-n-eq0.false,
      no c.args.b 1 n c.if-n-eq1.false,
      second c.args.b c.args.c c.lowest.ensures c.highest.ensures c.is_inside.ensures c.if-not-is_inside.false,
      is c.args.b 2 n c.if-n-eq2.true,
    )
    c.kept-then-n-eq2.ensures

pub returns-then-not-is_inside-2 : goal.returns-then-not-is_inside-2
unfolding first8
returns-then-not-is_inside-2 c =
    let n = c.needed-n.ensures in
    rw (
      no c.args.b 0 n c.if-n-eq0.false,
      no c.args.b 1 n c.if-n-eq1.false,
      second c.args.b c.args.c c.lowest.ensures c.highest.ensures c.is_inside.ensures c.if-not-is_inside.false,
      no c.args.b 2 n c.if-n-eq2.false,
      sym c.is_inside-2.ensures ∙ c.if-not-is_inside-2.true,
    )
    c.replaced-then-not-is_inside-2.ensures

pub returns-then-n-eq3 : goal.returns-then-n-eq3
unfolding first8
returns-then-n-eq3 c =
    let n = c.needed-n.ensures in
    rw (
      no c.args.b 0 n c.if-n-eq0.false,
      no c.args.b 1 n c.if-n-eq1.false,
      second c.args.b c.args.c c.lowest.ensures c.highest.ensures c.is_inside.ensures c.if-not-is_inside.false,
      no c.args.b 2 n c.if-n-eq2.false,
      sym c.is_inside-2.ensures ∙ c.if-not-is_inside-2.false,
      is c.args.b 3 n c.if-n-eq3.true,
    )
    c.kept-then-n-eq3.ensures

pub returns-then-not-is_inside-3 : goal.returns-then-not-is_inside-3
unfolding first8
returns-then-not-is_inside-3 c =
    let n = c.needed-n.ensures in
    rw (
      no c.args.b 0 n c.if-n-eq0.false,
      no c.args.b 1 n c.if-n-eq1.false,
      second c.args.b c.args.c c.lowest.ensures c.highest.ensures c.is_inside.ensures c.if-not-is_inside.false,
      no c.args.b 2 n c.if-n-eq2.false,
      sym c.is_inside-2.ensures ∙ c.if-not-is_inside-2.false,
      no c.args.b 3 n c.if-n-eq3.false,
      sym c.is_inside-3.ensures ∙ c.if-not-is_inside-3.true,
    )
    c.replaced-then-not-is_inside-3.ensures

pub returns : goal.returns
unfolding first8
returns c =
    let n = c.needed-n.ensures in
    rw (
      no c.args.b 0 n c.if-n-eq0.false,
      no c.args.b 1 n c.if-n-eq1.false,
      second c.args.b c.args.c c.lowest.ensures c.highest.ensures c.is_inside.ensures c.if-not-is_inside.false,
      no c.args.b 2 n c.if-n-eq2.false,
      sym c.is_inside-2.ensures ∙ c.if-not-is_inside-2.false,
      no c.args.b 3 n c.if-n-eq3.false,
      sym c.is_inside-3.ensures ∙ c.if-not-is_inside-3.false,
    )
    c.kept-2.ensures
