-- `outgoing::object::send` meets its contract. What `put_head` writes at the front is the prefix. Assumes nothing.
use mathlib.Core.Path.{ap, ◌∙◌}
use Rattle.outgoing.specs.Object.{made}
use Rattle.outgoing.proofs.Sending.{prefix_pasted}
use Rattle.outgoing.proofs.object.send.Goals as goal

pub returns : goal.returns
returns c =
    let k = c in
    let x = c.args in
    ap (made _) (c.put_head.ensures ∙ prefix_pasted x.last x.n c.code.result x.reply.now c.code.ensures)
