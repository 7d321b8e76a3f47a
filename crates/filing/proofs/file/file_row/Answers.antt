-- `filing::file::file_row` meets its contract: numbers, both MD5s and the mark stand one behind the other. Assumes nothing.
use native.Mathlib.Omega.{arith}
use Rattle.filing.proofs.FileRows.{body_most, file_made}
use Rattle.filing.proofs.file.file_row.Goals as goal

pub slice_bounds-digest-end : goal.slice_bounds-digest-end
slice_bounds-digest-end c =
    let a = c.args in
    omega (arith, c.body_len-n.ensures, body_most a.marks.has_body a.body.now)

pub returns : goal.returns
returns c =
    let a = c.args in
    file_made a.marks a.headers.now a.body.now a.target.now c.body_len-n.result c.block_count.result c.target_mark-row.result
    c.number_row-numbers.result c.digest-first.result c.digest-second.result _ _ _ c.body_len-n.ensures c.block_count.ensures
    c.target_mark-row.ensures c.number_row-numbers.ensures c.digest-first.ensures c.digest-second.ensures c.copy_into.ensures
    c.copy_into-2.ensures c.copy_into-3.ensures
