-- `archive::block::read` meets its contract: its tests are those of `read_into`, in their order. Assumes nothing.
use mathlib.Core.Path.{◌≡◌, sym, ◌∙◌}
use native.Mathlib.Omega.{arith}
use Rattle.std.proofs.Common.{rules, Ok, Err}
use Rattle.archive.specs.Reading.{body_in}
use Rattle.archive.proofs.AllRead.{read_short, read-refused, read_done, body_sound, body_faulty}
use Rattle.archive.proofs.block.read.Goals as goal

pub returns-then-body-blocks : goal.returns-then-body-blocks
returns-then-body-blocks c =
    let a = c.args in
    read_short a.blocks.now a.body.now (omega arith)

pub returns-in_err-total : goal.returns-in_err-total
returns-in_err-total c =
    let a = c.args in
    let x = c.in_err-total.field-0.0 in
    let r : c.from_residual.result ≡ Err x = search rules in
    let d = body_faulty a.blocks.now x (sym c.judge-judgement.ensures.body ∙ c.in_err-total.was) in
    rw (r, d.1) (read-refused a.blocks.now a.body.now (omega arith) d.0)

pub returns : goal.returns
returns c =
    let a = c.args in
    let e : body_in a.blocks.now ≡ Ok c.in_ok-total.total = sym c.judge-judgement.ensures.body ∙ c.in_ok-total.was in
    let s = body_sound a.blocks.now c.in_ok-total.total e in
    rw (← s.1, c.copy_body.ensures) (read_done a.blocks.now a.body.now (omega arith) s.0)
