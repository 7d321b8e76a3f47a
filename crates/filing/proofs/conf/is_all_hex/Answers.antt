-- `filing::conf::is_all_hex` meets its contract. The invariant: the digits so far are right. Assumes nothing.
use mathlib.Core.Path.{sym, ◌∙◌}
use Rattle.filing.proofs.Configured.{hex_next, hex_stop, hex_end}
use borrow.Author.Rules.{rules}
use Rattle.filing.proofs.conf.is_all_hex.Goals as goal

pub loop-i-preserved : goal.loop-i-preserved
loop-i-preserved c =
    let k = c in (
      search rules,
      c.loop-i.invariant.1 ∙ hex_next c.args.s.now c.loop-i.i c.loop-i-test.true (sym
          c.is_hex.ensures ∙ c.if-is_hex.true),
    )

pub returns-else-is_hex : goal.returns-else-is_hex
returns-else-is_hex c =
    hex_stop c.args.s.now c.loop-i.i c.loop-i-test.true (sym c.is_hex.ensures
    ∙ c.if-is_hex.false) ∙ sym c.loop-i.invariant.1

pub returns : goal.returns
returns c =
    hex_end c.args.s.now c.loop-i.i c.loop-i-test.false ∙ sym c.loop-i.invariant.1
