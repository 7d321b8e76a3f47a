-- `audit::entry::settings_of` meets its contract: its fields are those of the journal's settings. Assumes nothing.
use Rattle.std.proofs.Common.{ap}
use Rattle.journal.specs.Journal.{Settings as JournalSettings}
use Rattle.filing.specs.Kinds.{settings_in}
use Rattle.journal_code.specs.declared.state.Settings.{Settings}
use Rattle.audit.proofs.entry.settings_of.Goals as goal

-- What of the journal's settings the code keeps.
abbrev kept : JournalSettings → Settings
kept y = record { limit = y.limit; srm = y.srm; authentication = y.authentication; refuses = y.refuses }

pub returns : goal.returns
unfolding settings_in
returns c = ap kept c.settings_in-said.ensures
