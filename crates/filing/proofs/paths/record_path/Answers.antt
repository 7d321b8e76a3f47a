-- `filing::paths::record_path` meets its contract: the path below the folder is joined to it. Assumes nothing.
use mathlib.Core.Path.{ap, ◌∙◌}
use mathlib.Core.List.{List}
use Prim.Native.Nat.{ℕ}
use Rattle.files.specs.Path.{in_folder}
use Rattle.files.specs.Store.{fit}
use Rattle.filing.specs.Paths.{record_path}
use Rattle.filing.proofs.paths.record_path.Goals as goal

pub returns : goal.returns
unfolding record_path
returns c =
    let a = c.args in record {
      value = c.join.ensures.value ∙ ap (λ (l : List ℕ). fit (in_folder a.folder.now l) a.path.now) (c.front.ensures
          ∙ c.path_below-found.ensures.value);
      room = c.join.ensures.room;
    }
