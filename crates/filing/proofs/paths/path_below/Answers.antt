-- `filing::paths::path_below` meets its contract: the names are laid behind slashes, and the place takes the front. Assumes nothing.
use mathlib.Core.Path.{ap, ◌∙◌}
use lib.ListN.{length}
use Rattle.filing.proofs.Placed.{layout, length-session, length_leaf, length_file, below_is}
use Rattle.filing.proofs.paths.path_below.Goals as goal

pub returns : goal.returns
returns c =
    let a = c.args in
    let w = layout c.session_name-name.result c.leaf_of-leaf.result c.file_of-file.result _ _ _ _
    (ap length c.session_name-name.ensures ∙ length-session a.session) (ap length c.leaf_of-leaf.ensures ∙ length_leaf a.place a.number)
    (ap length c.file_of-file.ensures ∙ length_file a.place) c.copy_into.ensures c.copy_into-2.ensures c.copy_into-3.ensures
    c.copy_into-4.ensures in record {
      value = below_is a.session a.number a.place _ _ _ _ _ c.length_of.ensures.value w c.session_name-name.ensures c.leaf_of-leaf.ensures
          c.file_of-file.ensures;
      room = c.length_of.ensures.small;
    }
