-- `filing::users::first_user` meets its contract: a front of a front is one of the text. Assumes nothing.
use mathlib.Core.Path.{refl}
use native.Mathlib.Omega.{arith}
use Rattle.filing.proofs.Lined.{first-user}
use Rattle.filing.proofs.Placed.{take_short}
use Rattle.filing.proofs.users.first_user.Goals as goal

pub slice_bounds-result-end : goal.slice_bounds-result-end
slice_bounds-result-end c =
    let h = c.find-n.ensures.room in
    let l = take_short c.find-end.result c.args.text.now in
    omega (arith, h, c.find-end.ensures.room)

pub returns : goal.returns
returns c =
    first-user c.args.text.now _ c.find-end.result c.find-n.result c.find-end.ensures.value refl c.find-n.ensures.value
