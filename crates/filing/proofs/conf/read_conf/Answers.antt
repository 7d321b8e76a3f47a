-- `filing::conf::read_conf` meets its contract, field by field. Assumes nothing.
use native.Mathlib.Omega.{arith}
use Rattle.filing.proofs.Configured.{conf_is}
use Rattle.filing.proofs.conf.read_conf.Goals as goal

pub overflow_cast-result-2 : goal.overflow_cast-result-2
overflow_cast-result-2 c = omega (arith, c.number_said-3.ensures.small)

pub returns : goal.returns
returns c =
    conf_is c.args.text.now c.first_wrong.result c.number_said.result c.number_said-2.result
    c.number_said-3.result
    c.find_realm-realm.result.length c.flags_said.result _ c.first_wrong.ensures c.number_said.ensures.value
    c.number_said-2.ensures.value
    c.number_said-3.ensures.value c.flags_said.ensures c.find_realm-realm.ensures
