-- `receiver::record::carry_all` meets its contract: each step that went well is one step less of the plan, and the first that did not is the last. Assumes
-- nothing.
use Rattle.std.proofs.Common.{◌+◌, ◌<◌, length, take, set, sym, refl, ◌∙◌, subst, arith, length-set, w32, to_z, of_z}
use Rattle.filing.specs.declared.plan.Step.{Step}
use Rattle.receiver.proofs.Carrying.{rank, Left, all, fewer, some_left, filed_all, stop, go, last-well}
use Rattle.receiver.proofs.record.carry_all.Goals as goal

pub loop-session-init : goal.loop-session-init
loop-session-init g c = (omega arith, refl, refl, all _)

pub returns-then-is_filed : goal.returns-then-is_filed
returns-then-is_filed g c =
    filed_all _ c.loop-session.step c.loop-session.answers c.loop-session.count (sym c.is_filed.ensures ∙ c.if-is_filed.true) c.loop-session.invariant.2
    c.loop-session.invariant.3

pub bounds-answers-count : goal.bounds-answers-count
bounds-answers-count g c =
    let k = c.loop-session in
    omega (arith, k.invariant.0, k.invariant.1, some_left k.step (sym c.is_filed.ensures ∙ c.if-is_filed.false))

pub returns-then-not-is_well : goal.returns-then-not-is_well
returns-then-not-is_well g c =
    let k = c.loop-session in
    let e = sym c.is_filed.ensures ∙ c.if-is_filed.false in
    let h : k.count < length k.answers = omega (arith, k.invariant.0, k.invariant.1, some_left k.step e) in
    let x = to_z w32 (of_z w32 c.carry_out-error.result) in
    stop c.args.has_body k.step k.answers k.count x e h k.invariant.3 _ c.is_full.ensures (sym c.is_well.ensures ∙ c.if-not-is_well.true)

pub loop-session-smaller : goal.loop-session-smaller
loop-session-smaller g c =
    let k = c.loop-session in
    let e = sym c.is_filed.ensures ∙ c.if-is_filed.false in
    subst (λ (s : Step). rank s < rank k.step) (sym c.next_step-step.ensures) (fewer k.step c.args.has_body e)

pub loop-session-preserved : goal.loop-session-preserved
loop-session-preserved g c =
    let k = c.loop-session in
    let b = c.args.has_body in
    let e = sym c.is_filed.ensures ∙ c.if-is_filed.false in
    let h : k.count < length k.answers = omega (arith, k.invariant.0, k.invariant.1, some_left k.step e) in
    let t = sym c.is_well.ensures ∙ c.if-not-is_well.false in
    let x = to_z w32 (of_z w32 c.carry_out-error.result) in
    let less = subst (λ (s : Step). rank s < rank k.step) (sym c.next_step-step.ensures) (fewer k.step b e) in (
      omega (arith, k.invariant.0, less),
      length-set k.answers k.count x ∙ k.invariant.1,
      last-well b k.step k.answers k.count x e h k.invariant.3 t,
      subst (λ (s : Step). Left b s (take (k.count + 1) (set k.answers k.count x))) (sym c.next_step-step.ensures)
          (go b k.step k.answers k.count x e h k.invariant.3 t),
    )
