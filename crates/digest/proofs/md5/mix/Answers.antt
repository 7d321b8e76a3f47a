-- `digest::md5::mix` meets its contract. F as a choice by the bits of `b` (`choice`). Assumes nothing.
use Rattle.std.proofs.Common.{arith}
use Rattle.digest.proofs.Choice.{choice}
use Rattle.digest.proofs.md5.mix.Goals as goal

pub returns-in-0 : goal.returns-in-0
returns-in-0 g c = rw c.in-0.is (choice 32 c.args.b c.args.c c.args.d (omega arith) (omega arith) (omega arith))
