-- `archive::block::is_form_right` meets its contract: its tests are those of `right_form`, one after the other. A block with the right length
-- uses at most 490 bytes, so that the padding lies in the block. Assumes nothing.
use mathlib.Core.Path.{◌≡◌, sym, ◌∙◌}
use mathlib.Core.Bool.{true}
use Prim.Native.Nat.{◌≤◌}
use native.Mathlib.Omega.{arith}
use borrow.Author.Rules.{rules}
use Rattle.archive.specs.Block.{is_last_block, used, right_length, right_form}
use Rattle.archive.proofs.OneBlock.{length_most, form-length, form_padding, form-total}
use Rattle.archive.proofs.block.is_form_right.Statement.{statement}
use Rattle.archive.proofs.block.is_form_right.Tie as tie

-- behind the test of the length
right : (c : tie.Else-not-is_length_right)
    → let a = c.args in right_length a.k (is_last_block a.block.now) (used a.block.now) ≡ true
right c =
    let x = c.before in
    rw (x.is_last_block.ensures, x.used_in-used.ensures) at (sym x.is_length_right.ensures ∙ c.if-not-is_length_right.false)

-- so that the padding lies in the block
used-most : (c : tie.Else-not-is_length_right) → c.used_in-used.result ≤ 490
used-most c =
    let h = length_most _ _ _ (right c) in
    omega arith

returns : tie.Need-returns-then-is_ended
unfolding right_form
returns c = rw c.if-is_ended.true

used-in-requires : tie.Need-used_in-used-requires
used-in-requires c κs = search rules

is-last-block-requires : tie.Need-is_last_block-requires
is-last-block-requires c κs = search rules

is-length-right-requires : tie.Need-is_length_right-requires
is-length-right-requires c κs = search rules

returns-2 : tie.Need-returns-then-not-is_length_right
returns-2 c =
    let x = c.before in
    let a = x.args in
    let e = rw (x.is_last_block.ensures, x.used_in-used.ensures) at (sym x.is_length_right.ensures ∙ c.if-not-is_length_right.true) in
    rw x.if-is_ended.false (form-length a.k a.before a.block.now e)

add-is-zero : tie.Need-overflow_add-used
add-is-zero c = search rules

sub-is-zero : tie.Need-slice_bounds-is_zero-count
sub-is-zero c =
    let h = used-most c in
    omega arith

part-is-zero-start : tie.Need-slice_bounds-is_zero-start
part-is-zero-start c =
    let h = used-most c in
    omega arith

part-is-zero-end : tie.Need-slice_bounds-is_zero-end
part-is-zero-end c = search rules

is-zero-requires : tie.Need-is_zero-requires
is-zero-requires c κs = search rules

returns-3 : tie.Need-returns-then-not-is_zero
returns-3 c =
    let e = c.before.before.before in
    let x = e.before in
    let u = x.used_in-used in
    let a = x.args in
    rw x.if-is_ended.false
    (form_padding a.k a.before a.block.now (right e) u.result u.ensures
    (sym c.is_zero.ensures ∙ c.if-not-is_zero.true))

sub-result : tie.Need-overflow_sub-result
sub-result c = search rules

returns-4 : tie.Need-returns
returns-4 c =
    let e = c.before.before.before in
    let x = e.before in
    let u = x.used_in-used in
    let a = x.args in
    rw x.if-is_ended.false
    (form-total a.k a.before a.block.now (right e) u.result u.ensures (omega arith)
    (sym c.is_zero.ensures ∙ c.if-not-is_zero.false))

pub is_form_right_spec : {M : Type 1} → statement M
is_form_right_spec =
    tie.close
    (tie.spec
    returns
    used-in-requires
    is-last-block-requires
    is-length-right-requires
    returns-2
    add-is-zero
    sub-is-zero
    part-is-zero-start
    part-is-zero-end
    is-zero-requires
    returns-3
    sub-result
    returns-4)
