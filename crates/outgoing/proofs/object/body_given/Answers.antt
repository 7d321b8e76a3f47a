-- `outgoing::object::body_given` meets its contract. The tests are those of `body_given_of`, and the copy is its paste. Assumes nothing.
use borrow.Author.Tests.{eq-eqb, ne_eqb, lt-ltb, le-ltb}
use native.Mathlib.Omega.{arith}
use Prim.Native.Nat.{◌+◌, ◌-◌}
use mathlib.Core.Path.{sym, ap, ◌∙◌}
use lib.ListN.{length, get_or, take}
use lib.Seq.{paste, length-take-le}
use Rattle.outgoing.specs.Object.{body_given_of, full_chunk}
use Rattle.outgoing.proofs.Sending.{made_alike}
use Rattle.outgoing.proofs.object.body_given.Goals as goal

pub returns-then-n-eq0 : goal.returns-then-n-eq0
unfolding body_given_of
returns-then-n-eq0 c = rw (eq-eqb _ _ c.if-n-eq0.true) c.last_chunk.ensures

pub returns-then-n-c : goal.returns-then-n-c
unfolding body_given_of
returns-then-n-c c =
    let k = c in
    rw (ne_eqb _ _ c.if-n-eq0.false, lt-ltb _ _ c.if-n-c.true)
    (made_alike c.waiting.ensures c.copy_into.ensures)

pub slice_bounds-copy_into-end : goal.slice_bounds-copy_into-end
slice_bounds-copy_into-end c = sym (length-take-le _ _ (omega arith))

pub copy_into-requires-2 : goal.copy_into-requires-2
copy_into-requires-2 c =
    let d = c.args.d.now in
    omega (arith, length-take-le (length d - 1) d (omega arith))

pub returns : goal.returns
unfolding body_given_of
returns c =
    let k = c in
    let x = c.args in
    let m = length x.d.now - 1 in
    rw (ne_eqb _ _ c.if-n-eq0.false, le-ltb _ _ c.if-n-c.false)
    (c.full_chunk.ensures
    ∙ ap (full_chunk x.o x.c.at (x.c.got + m) (get_or x.d.now m 0))
    (c.copy_into-2.ensures ∙ ap (paste x.reply.now (x.c.at + 3 + x.c.got) (take m x.d.now)) (length-take-le m x.d.now (omega arith))))
