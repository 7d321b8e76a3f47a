-- `audit::entry::behind_first` meets its contract: the part from 1 on is the definition's, and nothing is behind the first of no bytes. Assumes
-- nothing.
use Rattle.std.proofs.Common.{◌≡◌, ℕ, ◌-◌, List, [], ◌∷◌, length, drop, refl, arith, length-drop, take_all}
use Rattle.audit.proofs.entry.behind_first.Goals as goal

none-behind : (l : List ℕ) → length l ≡ 0 → l ≡ drop 1 l
none-behind [] e = refl
none-behind (x ∷ l) e = absurd (omega arith)

pub returns-then-payload-eq0 : goal.returns-then-payload-eq0
returns-then-payload-eq0 c = none-behind _ c.if-payload-eq0.true

pub returns : goal.returns
returns c =
    let p = c.args.payload.now in
    take_all (length p - 1) (drop 1 p) (omega (arith, length-drop 1 p))
