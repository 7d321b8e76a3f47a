-- `host::feed::refilled` meets its contract. Bytes that are left and lie in the store are kept, and nothing is read; otherwise nothing is
-- left or it reaches beyond the store, and the read begins where `front_of` says, so that what lies before stays. Assumes nothing.
use borrow.Author.Tests.{lt-ltb, le-leb}
use mathlib.Core.Bool.{false}
use native.Mathlib.Omega.{arith}
use mathlib.Core.Path.{◌≡◌, refl, ◌∙◌}
use lib.ListN.{length, length-drop}
use lib.Seq.{length-take-le}
use Rattle.host.specs.Feed.{has_left}
use Rattle.host.proofs.Feeding.{none_left, left_beyond, front-within, reads_on, put-length}
use Rattle.host.proofs.feed.refilled.Goals as goal
use Rattle.host.proofs.feed.refilled.Goals.{then-rest+else-rest-input, else-rest}

pub returns-then-rest-input : goal.returns-then-rest-input
returns-then-rest-input g c = simp (lt-ltb _ _ c.if-rest.true, le-leb _ _ c.if-rest-input.true) (refl, refl)

pub slice_bounds-read-count : goal.slice_bounds-read-count
slice_bounds-read-count g c = rw c.front_of-at.ensures (front-within (length c.args.input.now))

pub slice_bounds-read-start : goal.slice_bounds-read-start
slice_bounds-read-start g c = rw c.front_of-at.ensures (front-within (length c.args.input.now))

pub returns : goal.returns
returns g c =
    let k = c in
    let x = c.args in
    let h : has_left x.rest x.input.now ≡ false =
    elim c.if-rest.branch [
      | then-rest+else-rest-input w ↦ left_beyond x.rest x.input.now w.if-rest-input.false
      | else-rest w ↦ none_left x.rest x.input.now w.if-rest.false
    ] in
    reads_on x.rest x.input.now c.read-n.new.s _ _ h c.front_of-at.ensures
    c.read-n.ensures
    (put-length x.input.now c.read-n.new.s c.front_of-at.result (rw c.front_of-at.ensures (front-within (length x.input.now)))
    (c.read-n.auto.s ∙ length-take-le _ _ (omega (arith, length-drop c.front_of-at.result x.input.now))))
