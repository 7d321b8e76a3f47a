-- `audit::entry::act_for` meets its contract: its tests are those of the definition. Assumes nothing.
use Rattle.std.proofs.Common.{refl, eq-eqb, ne_eqb}
use Rattle.audit.specs.Taken.{act_for}
use Rattle.audit.proofs.entry.act_for.Goals as goal

pub returns-then-fault-ne0 : goal.returns-then-fault-ne0
unfolding act_for
returns-then-fault-ne0 c = rw (ne_eqb c.args.fault 0 c.if-fault-ne0.true) refl

pub returns-then-number-eq0 : goal.returns-then-number-eq0
unfolding act_for
returns-then-number-eq0 c =
    rw (
      eq-eqb c.args.fault 0 c.if-fault-ne0.false,
      eq-eqb c.args.number 0 c.if-number-eq0.true,
    ) c.first_act.ensures

pub returns : goal.returns
unfolding act_for
returns c =
    rw (
      eq-eqb c.args.fault 0 c.if-fault-ne0.false,
      ne_eqb c.args.number 0 c.if-number-eq0.false,
    ) c.later_act.ensures
