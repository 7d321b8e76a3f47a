-- `filing::line::is_under` meets its contract: there is a separator, and what stands before it is the word. Assumes nothing.
use native.Mathlib.Omega.{arith}
use Rattle.packet.proofs.SameBytes.{same_is}
use Rattle.filing.proofs.Lined.{not-under, under_by}
use Rattle.filing.proofs.line.is_under.Goals as goal

pub returns-then-line-n : goal.returns-then-line-n
returns-then-line-n c =
    let a = c.args in
    not-under a.separator a.word.now a.line.now (omega (arith, c.find-n.ensures.value, c.if-line-n.true))

pub returns : goal.returns
returns c =
    let a = c.args in
    under_by a.separator a.word.now a.line.now c.find-n.result c.same.result c.find-n.ensures.value c.if-line-n.false
    (same_is _ a.word.now c.same.result c.same.ensures.0 c.same.ensures.1)
