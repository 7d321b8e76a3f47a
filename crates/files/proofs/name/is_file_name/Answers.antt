-- files::name::is_file_name meets its contract, test by test. Assumes nothing.
use borrow.Author.Tests.{eq-eqb, ne_eqb, lt-ltb, le-ltb}
use Rattle.files.specs.Name.{file_name}
use Rattle.files.proofs.name.is_file_name.Goals as goal

pub returns-then-s-eq0 : goal.returns-then-s-eq0
unfolding file_name
returns-then-s-eq0 c = simp (eq-eqb _ _ c.if-s-eq0.true)

pub returns-then-s-gt255 : goal.returns-then-s-gt255
unfolding file_name
returns-then-s-gt255 c = simp (ne_eqb _ _ c.if-s-eq0.false, lt-ltb _ _ c.if-s-gt255.true)

pub returns-then-s-eq46 : goal.returns-then-s-eq46
unfolding file_name
returns-then-s-eq46 c =
    let k = c in
    simp (ne_eqb _ _ c.if-s-eq0.false, le-ltb _ _ c.if-s-gt255.false, eq-eqb _ _ c.if-s-eq46.true)

pub returns : goal.returns
unfolding file_name
returns c =
    let k = c in
    simp (ne_eqb _ _ c.if-s-eq0.false, le-ltb _ _ c.if-s-gt255.false, ne_eqb _ _ c.if-s-eq46.false, c.is_plain.ensures)
