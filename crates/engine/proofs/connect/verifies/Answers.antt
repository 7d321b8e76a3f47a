-- `engine::connect::verifies` meets its contract: the two places at which the code gives up are those of the definition. Assumes nothing.
use borrow.Enum.Refused.{opened}
use mathlib.Core.Path.{sym, ◌∙◌}
use Rattle.engine.proofs.Connects.{not-read}
use Rattle.engine.proofs.connect.verifies.Goals as goal

pub returns-in_default-a : goal.returns-in_default-a
returns-in_default-a c =
    let x = c.args in
    c.nonce_question-in_default-a.ensures ∙ sym (not-read x.challenge x.a (opened c.in_default-a.in_default-a-own.keys2))

pub returns : goal.returns
returns c = simp (c.in-Some.is, c.in-User.is)
