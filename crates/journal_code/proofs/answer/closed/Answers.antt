-- `journal_code::answer::closed` meets its contract: the tests of the code are those of the definition, and fewer than four bytes are no id.
use mathlib.Core.Path.{sym, ap, ◌∙◌}
use Rattle.journal_code.specs.declared.state.State.{State}
use Rattle.journal_code.proofs.Picks.{on_true, on_false}
use Rattle.journal_code.specs.Answer.{tabled, closed_step}
use Rattle.journal_code.proofs.Calls.{linked, closes-none, closes-some}
use Rattle.journal_code.proofs.answer.closed.Goals as goal

pub returns-then-s : goal.returns-then-s
unfolding closed_step
returns-then-s c =
    ap (λ (r : State). tabled r c.args.tables.now) c.quiet.ensures
    ∙ on_true _ _ _ c.if-s.true

pub returns-then-not-is_linked : goal.returns-then-not-is_linked
unfolding closed_step
returns-then-not-is_linked c =
    let k = c in
    ap (λ (r : State). tabled r c.args.tables.now) c.quiet-then-not-is_linked.ensures
    ∙ on_false _ _ _ (sym c.is_linked.ensures ∙ c.if-not-is_linked.true)
    ∙ on_false _ _ _ c.if-s.false

pub returns-then-ids-lt4 : goal.returns-then-ids-lt4
unfolding closed_step
returns-then-ids-lt4 c =
    let k = c in
    ap (λ (r : State). tabled r c.args.tables.now) c.quiet-then-ids-lt4.ensures
    ∙ closes-none c.args.s c.args.ids.now c.args.s.peer.count
    c.args.tables.now c.if-ids-lt4.true
    ∙ on_true _ _ _ (sym c.is_linked.ensures
    ∙ c.if-not-is_linked.false)
    ∙ on_false _ _ _ c.if-s.false

pub close_all-left-requires : goal.close_all-left-requires
close_all-left-requires c =
    linked _ _ (sym c.is_linked.ensures
    ∙ c.if-not-is_linked.false)

pub returns : goal.returns
unfolding closed_step
returns c =
    let k = c in
    let l = c in
    rw (c.standing_by.ensures, c.with_left.ensures)
    (closes-some c.args.s c.args.ids.now c.args.s.peer.count
    c.args.tables.now c.if-ids-lt4.false _ _ c.close_all-left.ensures
    ∙ on_true _ _ _ (sym c.is_linked.ensures
    ∙ c.if-not-is_linked.false)
    ∙ on_false _ _ _ c.if-s.false)
