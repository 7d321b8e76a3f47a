-- `audit::entry::done_after` meets its contract: its tests are those of the definition. Assumes nothing.
use Rattle.std.proofs.Common.{length, sym, refl, ◌∙◌, eq-eqb, ne_eqb}
use Rattle.filing.specs.Kinds.{kind_number}
use Rattle.filing.specs.declared.frame.Kind.TheVariants.{Done}
use Rattle.audit.specs.Taken.{done_after}
use Rattle.audit.proofs.entry.done_after.Goals as goal

pub returns-then-letters-kind_number : goal.returns-then-letters-kind_number
unfolding done_after
returns-then-letters-kind_number c =
    rw (ne_eqb c.args.letters (kind_number Done) (λ e. c.if-letters-kind_number.true (e ∙ sym c.kind_number.ensures)))
    refl

pub returns-then-payload-eq0 : goal.returns-then-payload-eq0
unfolding done_after
returns-then-payload-eq0 c =
    rw (
      eq-eqb c.args.letters (kind_number Done) (c.if-letters-kind_number.false ∙ c.kind_number.ensures),
      eq-eqb (length c.args.payload.now) 0 c.if-payload-eq0.true,
    ) refl

pub returns : goal.returns
unfolding done_after
returns c =
    rw (
      eq-eqb c.args.letters (kind_number Done) (c.if-letters-kind_number.false ∙ c.kind_number.ensures),
      ne_eqb (length c.args.payload.now) 0 c.if-payload-eq0.false,
    ) c.wide.ensures.0
