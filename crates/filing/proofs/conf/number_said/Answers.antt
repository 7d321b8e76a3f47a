-- `filing::conf::number_said` meets its contract: nothing is said, or a number that is small enough, or another. Assumes nothing.
use native.Mathlib.Omega.{arith}
use Rattle.filing.specs.Conf.{said}
use Rattle.filing.proofs.Configured.{number-none, number_small, number-large}
use Rattle.filing.proofs.conf.number_said.Goals as goal

pub returns-then-v-eq0 : goal.returns-then-v-eq0
returns-then-v-eq0 c =
    let a = c.args in record {
      value = number-none _ (said a.text.now a.word.now) a.default a.most c.said-v.ensures c.if-v-eq0.true;
      small = c.requires;
    }

pub returns-then-n-most : goal.returns-then-n-most
returns-then-n-most c =
    let a = c.args in record {
      value = number_small _ (said a.text.now a.word.now) a.default a.most c.number_of-n.result c.said-v.ensures c.if-v-eq0.false
          c.number_of-n.ensures c.if-n-most.true;
      small = c.if-n-most.true;
    }

pub returns-else-n-most : goal.returns-else-n-most
returns-else-n-most c =
    let a = c.args in record {
      value = number-large _ (said a.text.now a.word.now) a.default a.most c.number_of-n.result c.said-v.ensures c.if-v-eq0.false
          c.number_of-n.ensures c.if-n-most.false;
      small = omega arith;
    }
