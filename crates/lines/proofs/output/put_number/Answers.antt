-- `lines::output::put_number` meets its contract: the fewest digits that hold a number are its decimal digits (`Texts`). Assumes nothing.
use mathlib.Core.Path.{ap, ◌∙◌}
use Rattle.lines.specs.Output.{put_bytes}
use Rattle.lines.proofs.Texts.{decimal_is}
use borrow.Author.Rules.{rules}
use Rattle.lines.proofs.output.put_number.Goals as goal

pub returns : goal.returns
returns c =
    let z = c in
    let d = c.decimal-k.ensures in
    let x = c.args in record {
      within = search rules;
      text = c.put.ensures.text ∙ ap (put_bytes x.out.now x.n) (decimal_is _ _ _ d.len d.digits);
    }
