-- `digest::md5::step` meets its contract. The step's constant and shift are those of the definition. Assumes nothing.
use Rattle.digest.specs.Md5.{step_of}
use Rattle.digest.proofs.SumOrder.{rfc_once}
use Rattle.digest.proofs.Rotated.{rotated_is}
use Rattle.digest.proofs.md5.step.Goals as goal

pub returns : goal.returns
unfolding step_of
returns g c =
    rw (
      c.rotate_left-rotated.ensures,
      rotated_is c.sum4.result c.args.i c.requires.1,
      c.sum4.ensures.1,
      rfc_once,
      c.mix-f.ensures,
      c.word-x.ensures,
      c.word_place.ensures.0,
      c.requires.2,
      c.args.constants.now.is_table,
    )
