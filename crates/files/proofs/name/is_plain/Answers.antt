-- `files::name::is_plain` meets its contract: each byte may stand in a name. Assumes nothing.
use Rattle.std.proofs.Common.{rules, tests, ◌≡◌, ◌&&◌, ◌∙◌, refl, ap, Bool, true, false, ℕ, List, [], ◌∷◌}
use Rattle.std.specs.List.{list_all}
use Rattle.std.proofs.lemmas.Iterator.{YieldsList-from_slice}
use Rattle.std.proofs.lemmas.Iterator.Search.{all_from_yields_List}
use Rattle.base.specs.Pick.{pick}
use Rattle.files.specs.Name.{part, plain}
use Rattle.files.proofs.name.is_plain.Goals as goal

both : (a b : Bool) → (a && b) ≡ pick a b false
both true b = refl
both false b = refl

all_plain : (s : List ℕ) → list_all part s ≡ plain s
unfolding plain
all_plain [] = refl
all_plain (b ∷ s) = ap (λ (t : Bool). part b && t) (all_plain s) ∙ both (part b) (plain s)

pub returns : goal.returns
returns c =
    let s = c.args.s.now in
    let r : c.all.result ≡ list_all part s =
    all_from_yields_List part _ _ _ c.all.ensures.ran (YieldsList-from_slice s cc) (λ y b q k. search (rules, tests))
    in
    r ∙ all_plain s
