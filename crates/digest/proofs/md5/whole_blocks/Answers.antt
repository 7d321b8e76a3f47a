-- `digest::md5::whole_blocks` meets its contract. The invariant: s is the registers after k blocks. A block that lies in rest is one of the padded message.
-- Assumes nothing.
use Rattle.std.proofs.Common.{◌≡◌, ◌+◌, ◌-◌, ◌*◌, max, length, drop, sym, add-one, arith, length-drop, length-take}
use Rattle.digest.specs.Md5.{blocks}
use Rattle.digest.proofs.Blocks.{in_rest}
use Rattle.digest.proofs.md5.whole_blocks.Goals as goal

pub loop-k-init : goal.loop-k-init
loop-k-init c = (omega arith, omega arith, c.requires.3)

pub block-s-requires : goal.block-s-requires
block-s-requires c =
    let turn = c in
    let start = c in
    let r = c.args.rest.now in
    let at = 64 * c.loop-k.k - length c.args.prefix.now in
    omega (arith, length-take (at + 64 - at) (drop at r), length-drop at r)

pub loop-k-preserved : goal.loop-k-preserved
unfolding blocks
loop-k-preserved c =
    let turn = c in
    let l = c.loop-k in
    let x = c.args in
    let p = x.prefix.now in
    let r = x.rest.now in
    let at = 64 * l.k - length p in
    let e : at + 64 - at ≡ 64 = omega arith in (
      omega arith,
      omega arith,
      rw (add-one, c.block-s.ensures, e, sym (in_rest p r (64 * l.k) 64 (omega arith) (omega arith)), l.invariant.2),
    )

pub returns : goal.returns
returns c =
    let l = c.loop-k in
    let x = c.args in
    let e : l.k ≡ max x.from x.to = omega arith in
    rw e at l.invariant.2
