-- `filing::entry::settings_in` meets its contract: each number and flag stands at its place. Assumes nothing.
use mathlib.Core.Path.{◌≡◌, refl}
use Prim.Native.Nat.{◌/◌}
use native.Mathlib.Omega.{arith}
use lib.ListN.{get_or}
use Rattle.filing.specs.Kinds.{settings_in}
use Rattle.filing.proofs.entry.settings_in.Goals as goal

pub returns : goal.returns
unfolding settings_in
returns c =
    let p = c.args.payload.now in
    let d : get_or p 10 0 / 1 ≡ get_or p 10 0 = omega arith in
    rw (
      c.must_name_user.ensures,
      c.be32_of-limit.ensures,
      c.byte_at-4.ensures,
      c.byte_at-3.ensures,
      c.byte_at-2.ensures,
      c.byte_at.ensures,
      c.byte_at-flags.ensures,
      d,
    ) refl
