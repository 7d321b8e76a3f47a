-- `digest::md5::filled_blocks` meets its contract. The invariant: s is the registers after k blocks. Assumes nothing.
use Rattle.std.proofs.Common.{◌≡◌, ◌++◌, sym, add-one, arith, length-append}
use Rattle.digest.specs.Md5.{blocks}
use Rattle.digest.proofs.Padded.{length-padded}
use Rattle.digest.proofs.md5.filled_blocks.Goals as goal

pub loop-k-init : goal.loop-k-init
loop-k-init c = (omega arith, c.requires.3)

pub overflow_mul-k : goal.overflow_mul-k
overflow_mul-k c =
    let x = c.args in
    let p = x.prefix.now in
    let r = x.rest.now in
    omega (arith, length-padded (p ++ r), length-append p r)

pub fill-p-requires : goal.fill-p-requires
fill-p-requires c = (omega arith, omega arith)

pub block-s-requires : goal.block-s-requires
block-s-requires c = sym c.fill-p.ensures.0

pub loop-k-preserved : goal.loop-k-preserved
unfolding blocks
loop-k-preserved c = (omega arith, rw (add-one, c.block-s.ensures, c.fill-p.ensures.1, c.loop-k.invariant.1))

pub returns : goal.returns
returns c =
    let l = c.loop-k in
    let e : l.k ≡ c.args.to = omega arith in
    rw e at l.invariant.1
