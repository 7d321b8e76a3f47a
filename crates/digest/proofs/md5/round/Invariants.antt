-- `digest::md5::round` meets its contract. The invariant: `t` is the registers after `i` steps. Assumes nothing.
use Rattle.std.proofs.Common.{◌≡◌, ◌*◌}
use Rattle.digest.specs.declared.md5.Regs.{Regs}
use Rattle.digest.specs.Md5.{steps}
use Rattle.digest.proofs.md5.round.Given as goal

abbrev pub invariant-loop-i : goal.invariant-loop-i
invariant-loop-i g l = (s : Regs) → l.initial.t ≡ steps l.p (16 * g.row.R) s → l.t ≡ steps l.p l.i s
