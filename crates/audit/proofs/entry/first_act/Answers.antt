-- `audit::entry::first_act` meets its contract: its tests are those of the definition. Assumes nothing.
use Rattle.std.proofs.Common.{sym, refl, ◌∙◌, eq-eqb, ne_eqb}
use Rattle.filing.specs.Kinds.{kind_number}
use Rattle.filing.specs.declared.frame.Kind.TheVariants.{Open}
use Rattle.audit.proofs.entry.first_act.Goals as goal

pub returns-then-letters-kind_number : goal.returns-then-letters-kind_number
returns-then-letters-kind_number c =
    rw (ne_eqb c.args.letters (kind_number Open) (λ e. c.if-letters-kind_number.true (e ∙ sym c.kind_number.ensures)))
    refl

pub returns : goal.returns
returns c =
    rw (eq-eqb c.args.letters (kind_number Open) (c.if-letters-kind_number.false ∙ c.kind_number.ensures))
    c.open_act.ensures
