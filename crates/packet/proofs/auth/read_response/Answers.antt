-- `packet::auth::read_response` meets its contract: the parts that it reads are those that make the response. Assumes nothing.
use mathlib.Core.Path.{sym, ◌∙◌}
use Rattle.packet.proofs.AuthLaws.{response-parts}
use Rattle.packet.proofs.auth.read_response.Goals as goal

pub returns-in_err-digest : goal.returns-in_err-digest
returns-in_err-digest c =
    sym (response-parts c.args.v.now ∙ rw (sym c.tag_zero.ensures ∙ c.in_err-digest.was, c.from_residual.ensures))

pub returns : goal.returns
returns c =
    sym
    (response-parts c.args.v.now
    ∙ rw (sym c.tag_zero.ensures ∙ c.in_ok-digest.was, ← c.last_value.ensures, ← c.sixteen.ensures))
