-- `packet::auth::realm` meets its contract: it is `last_under`, as `realm_place` says. Assumes nothing.
use Rattle.packet.specs.Auth.{realm_place}
use Rattle.packet.proofs.auth.realm.Goals as goal

pub returns : goal.returns
unfolding realm_place
returns c = c.last_under.ensures
