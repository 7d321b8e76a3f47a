-- `engine::connect::limited_plan` meets its contract: a Connect is stopped where the definition says, and any other leads to its question.
-- Assumes nothing.
use mathlib.Core.Path.{sym, ap, ◌∙◌}
use Rattle.connection.specs.declared.peer.Peer.{Peer}
use Rattle.engine.specs.Step.{fields_plan}
use Rattle.engine.specs.Connect.{question_plan}
use Rattle.engine.specs.declared.connect.Question.{Question}
use Rattle.engine.proofs.Connects.{is_stopped_lem, not_stopped}
use Rattle.engine.proofs.connect.limited_plan.Goals as goal

pub returns-then-must_stop : goal.returns-then-must_stop
returns-then-must_stop c =
    let x = c.args in
    c.fields.ensures ∙ ap (λ (p : Peer). fields_plan x.e p 0x53) c.with_check.ensures
    ∙ is_stopped_lem x.e x.peer x.a (sym c.must_stop.ensures ∙ c.if-must_stop.true)

pub returns : goal.returns
returns c =
    let x = c.args in
    c.asks.ensures ∙ ap (λ (q : Question). question_plan x.e x.peer q) c.connect_question-q.ensures
    ∙ not_stopped x.e x.peer x.a (sym c.must_stop.ensures ∙ c.if-must_stop.false)
