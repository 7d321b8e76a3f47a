-- `client::answer::response_done` meets its contract. The reader tells whether the response is readable, and then its way is the model's. Assumes
-- nothing.
use native.Mathlib.Omega.{arith}
use mathlib.Core.Path.{sym, ap, ◌∙◌}
use lib.Seq.{length-take-le}
use Rattle.client_model.specs.Step.{stores}
use Rattle.client_model.specs.Guard.{sound_operation}
use Rattle.client.proofs.Answers.{arrived-operation, arrived-remote, unreadable, reads, answered}
use Rattle.client.proofs.answer.response_done.Goals as goal

pub slice_bounds-parse_response-end : goal.slice_bounds-parse_response-end
slice_bounds-parse_response-end c =
    sym (length-take-le _ _ c.requires.0)

pub returns-in_default : goal.returns-in_default
returns-in_default c =
    let args = c.args in
    let lent = stores args.packet.now args.headers.now args.body.now args.request.now in
    unreadable args.c args.n lent _ c.is_connecting.ensures _ c.parse_response.ensures _
    c.arrived-at.ensures _ c.in_default.is
    c.ends.ensures

pub slice_bounds-read_heading-end : goal.slice_bounds-read_heading-end
slice_bounds-read_heading-end c =
    sym (length-take-le _ _ c.requires.0)

pub slice_bounds-act-end : goal.slice_bounds-act-end
slice_bounds-act-end c =
    sym (length-take-le _ _ c.requires.0)

pub act-requires : goal.act-requires
act-requires c =
    let args = c.args in
    let lent = stores args.packet.now args.headers.now args.body.now args.request.now in
    let pre = c.requires in
    let answer = c.in-Some.answer in
    let arrived-says = c.arrived-at.ensures in (
      reads args.c args.n lent _ c.is_connecting.ensures _ c.parse_response.ensures _
          c.arrived-at.ensures answer c.in-Some.is,
      omega (arith, pre.1, arrived-remote args.c _ args.n arrived-says),
      ap sound_operation (arrived-operation args.c _ args.n arrived-says) ∙ pre.2,
      pre.3,
      pre.4,
      pre.5,
    )

pub returns : goal.returns
returns c =
    let args = c.args in
    let answer = c.in-Some.answer in
    let lent = stores args.packet.now args.headers.now args.body.now args.request.now in
    answered args.c args.n lent _ c.is_connecting.ensures _ c.parse_response.ensures _
    c.arrived-at.ensures answer c.in-Some.is _ _
    c.read_heading-h.ensures (c.act.ensures args.packet.now)
