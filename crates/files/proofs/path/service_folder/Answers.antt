-- `files::path::service_folder` meets its contract: the word and the digits stand one behind the other, and the mark has no name. Assumes nothing.
use Rattle.std.proofs.Common.{◌≡◌, true, sym, ◌∙◌}
use Rattle.table.specs.Targets.{is_named}
use Rattle.files.proofs.Joins.{mark_folder, part-size, folder_laid}
use Rattle.files.proofs.path.service_folder.Goals as goal
use Rattle.files.proofs.path.service_folder.Goals.{Else-not-is_named}

pub returns-then-not-is_named-clause-value : goal.returns-then-not-is_named-clause-value
returns-then-not-is_named-clause-value c = mark_folder c.args.target (sym c.is_named.ensures ∙ c.if-not-is_named.true)

-- behind the test the Target is no mark
named : (c : Else-not-is_named) → is_named c.args.target ≡ true
named c = sym c.is_named.ensures ∙ c.if-not-is_named.false

pub slice_bounds-put_hex-end-2 : goal.slice_bounds-put_hex-end-2
slice_bounds-put_hex-end-2 c =
    part-size c.args.target c.octets-bytes.result (named (goal.at.slice_bounds-put_hex-end-2 c).Else-not-is_named) c.octets-bytes.ensures

pub returns-clause-value : goal.returns-clause-value
returns-clause-value c =
    folder_laid c.args.target c.octets-bytes.result _ _ (named (goal.at.returns-clause-value c).Else-not-is_named) c.octets-bytes.ensures
    c.copy_into.ensures c.put_hex.ensures
