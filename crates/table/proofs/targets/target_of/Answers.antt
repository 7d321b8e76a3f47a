-- `table::targets::target_of` meets its contract: the bytes copied over sixteen zeros are those filled up with zeros. Assumes nothing.
use mathlib.Core.Path.{ap}
use borrow.Author.Tests.{lt-leb, le-leb}
use lib.ListN.{length}
use Rattle.digest.specs.Md5.{numbers16}
use Rattle.digest.specs.declared.md5.Octets16.{Octets16}
use Rattle.table.specs.Targets.{target, target_by}
use Rattle.table.proofs.Naming.{pasted_zeros}
use Rattle.table.proofs.targets.target_of.Goals as goal

pub returns-then-length-gt-MAX_TARGET : goal.returns-then-length-gt-MAX_TARGET
unfolding target_by
returns-then-length-gt-MAX_TARGET c = simp (lt-leb _ _ c.if-length-gt-MAX_TARGET.true) c.unnamed.ensures

pub returns : goal.returns
unfolding target_by
returns c =
    let e = c in
    let x = c.args.s.now in
    let h = c.if-length-gt-MAX_TARGET.false in
    simp (le-leb _ _ h)
    (ap (λ (o : Octets16). target (length x) o)
    (rw (c.octets16_at-bytes.ensures, c.copy_into.ensures) (ap numbers16 (pasted_zeros x h))))
