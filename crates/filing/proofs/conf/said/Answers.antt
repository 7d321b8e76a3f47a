-- `filing::conf::said` meets its contract: no line has the word, or the value stands in the text. Assumes nothing.
use Rattle.filing.proofs.Configured.{said-none, said-some}
use Rattle.filing.proofs.conf.said.Goals as goal

pub returns-in-None : goal.returns-in-None
returns-in-None c = said-none c.args.text.now c.args.word.now c.value_of.result c.value_of.ensures.value c.in-None.is

pub returns-in-Some : goal.returns-in-Some
returns-in-Some c =
    rw c.of.ensures (said-some c.args.text.now c.args.word.now c.value_of.result _ _ c.value_of.ensures.value c.in-Some.is)
