-- `outgoing::queue::insert_early` meets its contract: `room` decides, and the header goes where those that must lead end. Assumes nothing.
use borrow.Author.Rules.{rules}
use native.Mathlib.Omega.{arith}
use mathlib.Core.Bool.{false}
use mathlib.Core.Path.{sym, ◌∙◌}
use Prim.Native.Nat.{◌+◌, ◌≤◌}
use lib.ListN.{length}
use lib.Seq.{length-take-le}
use Rattle.packet.specs.declared.store.LengthField.TheVariants.{TwoBytes}
use Rattle.packet.proofs.Laid.{granted}
use Rattle.outgoing.proofs.Rooms.{early-refused, early-written}
use Rattle.outgoing.proofs.queue.insert_early.Statement.{statement}
use Rattle.outgoing.proofs.queue.insert_early.Tie as tie

room-requires : tie.Need-room-answer-requires
room-requires c κs = search rules

enum-known-answer : tie.Need-enum_known-answer
enum-known-answer c = search rules

returns : tie.Need-returns-in_default
returns c = let k = c.before in early-refused _ _ _ _ c.in_default.not-Written k.room-answer.ensures

-- the bytes and the header fit the store
fitting : (c : tie.In-Written) → let x = c.args in
    x.n + length x.header.now ≤ length x.headers.now
fitting c =
    let a = c in
    let k = a.before in
    let x = k.args in
    (granted (length x.headers.now) x.n (length x.header.now) _ TwoBytes false (sym a.in-Written.is ∙ k.room-answer.ensures)).fits

slice-reshare-prefix-lead-end : tie.Need-slice_bounds-lead_end-end
slice-reshare-prefix-lead-end c = omega (arith, fitting c)

slice-aggregate-lead-end : tie.Need-slice_bounds-lead_end-end-2
slice-aggregate-lead-end c = sym (length-take-le _ _ (omega (arith, fitting c)))

lead-end-requires : tie.Need-lead_end-at-requires
lead-end-requires c κs = search rules

put-in-requires : tie.Need-put_in-requires
put-in-requires c κs =
    let f = fitting c.before.before in
    let x = c.args in
    (omega (arith, c.lead_end-at.ensures.1, length-take-le x.n x.headers.now (omega (arith, f))), f)

same_length : tie.Need-shape_of-headers
same_length c = search rules

returns-2 : tie.Need-returns
returns-2 c =
    early-written _ _ _ _ _ _ (sym c.in-Written.is ∙ c.room-answer.ensures) c.lead_end-at.ensures.0 c.put_in.ensures

pub insert_early_spec : {M : Type 1} → statement M
insert_early_spec =
    tie.close
    (tie.spec
    room-requires
    enum-known-answer
    returns
    slice-reshare-prefix-lead-end
    slice-aggregate-lead-end
    lead-end-requires
    put-in-requires
    same_length
    returns-2)
