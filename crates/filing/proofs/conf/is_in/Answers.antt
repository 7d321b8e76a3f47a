-- `filing::conf::is_in` meets its contract: the line has a place among the choices, or it has none. Assumes nothing.
use Rattle.std.proofs.Common.{◌∙◌}
use Rattle.filing.proofs.Configured.{choice_found}
use Rattle.filing.proofs.conf.is_in.Goals as goal

pub returns : goal.returns
returns c =
    c.is_some.ensures ∙ choice_found c.args.choices.now c.args.line.now c.value_of.result c.value_of.ensures.value
