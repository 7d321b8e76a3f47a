-- `packet::auth::tag_zero` meets its contract: its tests are those of `tag_zero`. Assumes nothing.
use mathlib.Core.Path.{sym, ◌∙◌}
use Rattle.packet.specs.AuthRead.{tag_zero}
use Rattle.packet.proofs.auth.tag_zero.Goals as goal

pub returns-then-not-all_sixteen : goal.returns-then-not-all_sixteen
unfolding tag_zero
returns-then-not-all_sixteen c = rw (sym c.all_sixteen.ensures ∙ c.if-not-all_sixteen.true)

pub returns : goal.returns
unfolding tag_zero
returns c = rw (sym c.all_sixteen.ensures ∙ c.if-not-all_sixteen.false) c.sixteen.ensures
