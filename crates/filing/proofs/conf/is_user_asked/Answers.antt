-- `filing::conf::is_user_asked` meets its contract: one value or the other. Assumes nothing.
use mathlib.Core.Path.{◌≡◌, refl, sym, ◌∙◌}
use mathlib.Core.Bool.{true, false}
use Rattle.filing.specs.Lines.{bytes}
use Rattle.filing.specs.Conf.{is_said}
use Rattle.filing.proofs.conf.is_user_asked.Goals as goal

pub returns-then-is_said : goal.returns-then-is_said
returns-then-is_said c =
    let e : is_said c.args.text.now (bytes "user-id") (bytes "asked") ≡ true = sym
    c.is_said.ensures ∙ c.if-is_said.true in
    rw e refl

pub returns : goal.returns
returns c =
    let e : is_said c.args.text.now (bytes "user-id") (bytes "asked") ≡ false = sym c.is_said.ensures
    ∙ c.if-is_said.false in
    rw e c.is_said-2.ensures
