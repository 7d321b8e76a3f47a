-- `filing::conf::is_choice` meets its contract: one text of choices or the other. Assumes nothing.
use mathlib.Core.Path.{◌≡◌, refl, sym, ◌∙◌}
use mathlib.Core.Bool.{true, false}
use Rattle.filing.specs.Lines.{bytes}
use Rattle.filing.specs.Conf.{is_in, is_choice}
use Rattle.filing.proofs.conf.is_choice.Goals as goal

pub returns-then-is_in : goal.returns-then-is_in
unfolding is_choice
returns-then-is_in c =
    let l = c.args.line.now in
    let e : is_in (bytes "srm yes\t\nsrm no\t\npassword no\t\npassword required\t\nread-only no\t\nread-only yes\t\n") l ≡ true =
    sym c.is_in.ensures ∙ c.if-is_in.true in
    rw e refl

pub returns : goal.returns
unfolding is_choice
returns c =
    let l = c.args.line.now in
    let e : is_in (bytes "srm yes\t\nsrm no\t\npassword no\t\npassword required\t\nread-only no\t\nread-only yes\t\n") l ≡ false =
    sym c.is_in.ensures ∙ c.if-is_in.false in
    rw e c.is_in-2.ensures
