-- `audit::entry::known_act` meets its contract: its tests are those of the definition. Assumes nothing.
use Rattle.std.proofs.Common.{sym, refl, ◌∙◌, eq-eqb, ne_eqb}
use Rattle.filing.specs.Kinds.{kind_number}
use Rattle.filing.specs.declared.frame.Kind.TheVariants.{Open, Recv}
use Rattle.audit.proofs.entry.known_act.Goals as goal

pub returns-then-letters-kind_number : goal.returns-then-letters-kind_number
returns-then-letters-kind_number c = rw (eq-eqb c.args.letters (kind_number Open) (c.if-letters-kind_number.true ∙ c.kind_number.ensures)) refl

pub returns-then-letters-kind_number-2 : goal.returns-then-letters-kind_number-2
returns-then-letters-kind_number-2 c =
    rw (
      ne_eqb c.args.letters (kind_number Open) (λ e. c.if-letters-kind_number.false (e ∙ sym c.kind_number.ensures)),
      eq-eqb c.args.letters (kind_number Recv) (c.if-letters-kind_number-2.true ∙ c.kind_number-2.ensures),
    ) c.packet_act.ensures

pub returns : goal.returns
returns c =
    rw (
      ne_eqb c.args.letters (kind_number Open) (λ e. c.if-letters-kind_number.false (e ∙ sym c.kind_number.ensures)),
      ne_eqb c.args.letters (kind_number Recv) (λ e. c.if-letters-kind_number-2.false (e
          ∙ sym c.kind_number-2.ensures)),
      c.entry_in.ensures,
    ) refl
