-- `lines::output::digits` meets its contract: each turn writes the two digits of one byte (`Texts`). Assumes nothing.
use Rattle.std.proofs.Common.{rules, refl, arith}
use Rattle.std.proofs.Math.ListN.{length-set}
use Rattle.std.proofs.Math.Seq.{paste-zero}
use Rattle.lines.specs.Output.{hex_of, hex_front}
use Rattle.lines.proofs.Texts.{hex_turn}
use Rattle.lines.proofs.output.digits.Goals as goal

pub loop-n-init : goal.loop-n-init
loop-n-init c = (refl, paste-zero c.args.out.now 0 (hex_of c.args.s.now))

pub bounds-out-n-in-loop-n : goal.bounds-out-n-in-loop-n
bounds-out-n-in-loop-n c = simp length-set (omega arith)

pub loop-n-preserved : goal.loop-n-preserved
loop-n-preserved c =
    let z = c in
    let l = c.loop-n in
    let x = c.args in (
      (simp length-set l.invariant.0),
      (rw (c.digit-in-loop-n.ensures, c.digit.ensures) (hex_turn x.out.now x.s.now l.out l.n l.invariant.1 (omega arith)
          (omega arith))),
    )

pub returns : goal.returns
unfolding hex_front
returns c =
    let l = c.loop-n in record {
      within = search rules;
      text = search rules;
    }
