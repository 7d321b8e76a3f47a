-- `filing::paths::rule_path` meets its contract: a name that passed the test is joined to the service, to the word and to the folder. Assumes
-- nothing.
use mathlib.Core.Path.{sym, ◌∙◌}
use native.Mathlib.Omega.{arith}
use Rattle.filing.proofs.Placed.{no_rule, rule_laid}
use Rattle.filing.proofs.paths.rule_path.Goals as goal

pub returns-then-not-is_file_name : goal.returns-then-not-is_file_name
returns-then-not-is_file_name c =
    let a = c.args in record {
      value = no_rule a.folder.now a.name.now a.path.now a.target (sym c.is_file_name.ensures ∙ c.if-not-is_file_name.true);
      room = omega arith;
    }

pub returns : goal.returns
returns c =
    let a = c.args in record {
      value = rule_laid a.folder.now a.name.now a.path.now _ c.service_folder-service.result.name _ _ _ _ _ a.target
          c.service_folder-service.result.length c.join-n.result c.join-m.result _
          (sym c.is_file_name.ensures ∙ c.if-not-is_file_name.false) c.front.ensures
          c.service_folder-service.ensures.value
          c.service_folder-service.ensures.room c.join-n.ensures.value c.front-2.ensures c.join-m.ensures.value c.front-3.ensures
          c.join.ensures.value;
      room = c.join.ensures.room;
    }
