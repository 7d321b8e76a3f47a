-- `filing::payload::flag_byte` meets its contract: each flag has its place. Assumes nothing.
use mathlib.Core.Path.{refl}
use Rattle.filing.specs.Kinds.{flags_in}
use Rattle.filing.proofs.payload.flag_byte.Goals as goal

pub returns : goal.returns
unfolding flags_in
returns c =
    rw (
      c.number-user.ensures.value,
      c.number-only.ensures.value,
      c.number-enforced.ensures.value,
      c.number-refuses.ensures.value,
      c.number-realm.ensures.value,
      c.number.ensures.value,
      c.number-2.ensures.value,
    ) refl
