-- `archive::block::write` meets its contract: its tests are those of `written`, in their order. Assumes nothing.
use native.Mathlib.Omega.{arith}
use Rattle.archive.proofs.AllWritten.{written-short, written-long, written-done}
use Rattle.archive.proofs.block.write.Goals as goal

pub returns-then-blocks-count : goal.returns-then-blocks-count
returns-then-blocks-count c =
    let a = c.args in
    written-short a.body.now a.blocks.now (omega arith)

pub returns-then-body-gt-LONGEST : goal.returns-then-body-gt-LONGEST
returns-then-body-gt-LONGEST c =
    let a = c.args in
    written-long a.body.now a.blocks.now (omega arith) (omega arith)

pub returns : goal.returns
returns c =
    let x = c in
    let a = c.args in
    rw (c.write_blocks.ensures, c.block_count-count.ensures) (written-done a.body.now a.blocks.now (omega arith) (omega arith))
