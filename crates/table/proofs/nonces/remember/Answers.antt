-- `table::nonces::remember` meets its contract. Each call moves the numbers of its own part. Assumes nothing.
use Rattle.table.specs.Nonces.{remembered_with}
use Rattle.table.proofs.nonces.remember.Goals as goal

pub returns : goal.returns
unfolding remembered_with
returns c =
    let b = c in
    let a = c in
    rw (c.push_front-2.ensures, c.push_front.ensures)
