-- `audit::waiting::beside` meets its contract: its tests are those of the definition. Assumes nothing.
use Rattle.std.proofs.Common.{sym, refl, ◌∙◌, eq-eqb, ne_eqb}
use Rattle.filing.specs.Kinds.{kind_number}
use Rattle.filing.specs.declared.frame.Kind.TheVariants.{File}
use Rattle.audit.proofs.waiting.beside.Goals as goal

pub returns-then-here-kind_number : goal.returns-then-here-kind_number
returns-then-here-kind_number c =
    rw (eq-eqb c.args.here.letters (kind_number File) (c.if-here-kind_number.true
    ∙ c.kind_number.ensures))
    c.with_file.ensures

pub returns : goal.returns
returns c =
    rw (ne_eqb c.args.here.letters (kind_number File) (λ e. c.if-here-kind_number.false (e
    ∙ sym c.kind_number.ensures)))
    refl
