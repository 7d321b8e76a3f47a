-- `incoming::survey::note` meets its contract. The arms are the three ids, and no other id is noted.
use native.Mathlib.Omega.{arith}
use mathlib.Core.Path.{ap, ◌∙◌}
use Rattle.incoming.specs.Noted.{note_id}
use Rattle.incoming.proofs.Notes.{one_id, one-mode, one-parameter, one-other}
use borrow.Author.Rules.{rules}
use Rattle.incoming.proofs.survey.note.Goals as goal

pub be32_at-requires : goal.be32_at-requires
be32_at-requires c = omega (arith, c.requires.0 c.in-203.is)

pub bounds-value-0 : goal.bounds-value-0
bounds-value-0 c = omega (arith, c.requires.1 c.in-151.is)

pub bounds-value-0-in-152 : goal.bounds-value-0-in-152
bounds-value-0-in-152 c = omega (arith, c.requires.2 c.in-152.is)

pub returns-in-203 : goal.returns-in-203
returns-in-203 c =
    let x = c.args in
    c.note_id.ensures ∙ ap (note_id x.n) c.be32_at.ensures ∙ one_id x.n _ c.in-203.is

pub returns-in-151 : goal.returns-in-151
returns-in-151 c = c.note_mode.ensures ∙ one-mode _ _ c.in-151.is

pub returns-in-152 : goal.returns-in-152
returns-in-152 c = c.note_parameter.ensures ∙ one-parameter _ _ c.in-152.is

pub returns-in_default : goal.returns-in_default
returns-in_default c = one-other _ _ (search rules) (search rules) (search rules)
