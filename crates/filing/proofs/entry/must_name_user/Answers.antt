-- `filing::entry::must_name_user` meets its contract: both flags are set. Assumes nothing.
use mathlib.Core.Path.{refl}
use native.Mathlib.Omega.{arith}
use Prim.Native.Nat.{◌/◌, ◌%◌}
use borrow.Author.Tests.{eq-eqb, ne_eqb}
use Rattle.filing.proofs.entry.must_name_user.Goals as goal

pub returns-then-flags-ne1 : goal.returns-then-flags-ne1
returns-then-flags-ne1 c = rw (ne_eqb (c.args.flags / 16 % 2) 1 c.if-flags-ne1.true) refl

pub returns : goal.returns
returns c = rw (eq-eqb (c.args.flags / 16 % 2) 1 (omega arith)) refl
