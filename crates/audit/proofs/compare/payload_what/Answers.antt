-- `audit::compare::payload_what` meets its contract: row and Target are those that are due. Assumes nothing.
use Rattle.audit.proofs.compare.payload_what.Goals as goal

pub returns : goal.returns
returns c =
    rw (
      c.file_row-row.ensures,
      c.front-due.ensures,
      c.target_length.ensures,
      c.octets-bytes.ensures,
      c.is_named.ensures,
    ) at c.row_what.ensures
