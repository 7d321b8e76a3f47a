-- `client_c::words::settings_of` meets its contract. Each field is the number at its place. Assumes nothing.
use Rattle.client_c.proofs.words.settings_of.Goals as goal

pub returns : goal.returns
returns c = simp c.is_set.ensures
